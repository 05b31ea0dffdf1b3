use Rattle.std.proofs.Common.{[], ◌∷◌, ◌++◌, map, subst, sym, ◌∙◌, append-nil}
use Rattle.std.proofs.lemmas.List.{take_all}
use Rattle.fluent_ast.specs.View.{entry_view}
use Rattle.fluent_meaning.specs.Ids.{entries_by_id}
use Rattle.fluent_run.specs.Listed.{Lists}
use Rattle.fluent_run.proofs.Listed.{ids_alike, lists_next, lists_one, lists_same, pairs}
use Rattle.fluent_run.proofs.listing.Listing.add_all.Goals as goal
use Rattle.fluent_run.proofs.listing.Listing.add_all.Goals.{in-Some+in_ok-add, in_default}

pub loop-entry-init : goal.loop-entry-init
loop-entry-init g c = λ before h. subst (λ es. Lists c.args.ids.now es c.args.self.now) (sym (append-nil before)) h

pub loop-entry-preserved : goal.loop-entry-preserved
loop-entry-preserved g c = λ before h.
    let ids = c.args.ids.now in
    let items = c.deref-entry-items.result.now in
    let i = c.loop-entry.entry-index in
    let item = c.entry-item.result in
    let inside = c.loop-entry-test.true in
    let is = c.entry-item.is in
    let so_far = c.loop-entry.invariant before h in
    let new = entries_by_id (entry_view _ (λ s. s.now) item ∷ []) in
    elim c.match-id_of.branch [
      | in-Some+in_ok-add w ↦ lists_next items i item inside is ids before c.match-id_of.self
          (rw w.self-is (lists_one ids (before ++ pairs items i item inside is i) new c.loop-entry.self w.add.new.self so_far w.in-Some.id.now
          ((rw w.in-Some.is at c.id_of.ensures) ∙ ids_alike _ _ (entry_view _ (λ s. s.now) item)) w.in_ok-add.ensures.text w.in_ok-add.ensures.seen))
      | in_default w ↦ lists_next items i item inside is ids before c.match-id_of.self
          (rw w.self-is (lists_same ids (before ++ pairs items i item inside is i) new c.loop-entry.self c.loop-entry.self so_far ((rw w.in_default.is at c.id_of.ensures) ∙ ids_alike _ _ (entry_view _ (λ s. s.now) item))))
    ]

pub returns : goal.returns
returns g c = λ before h.
    subst (λ es. Lists c.args.ids.now (before ++ entries_by_id (map (entry_view _ (λ s. s.now)) es)) c.loop-entry.self)
    (take_all c.loop-entry.entry-index c.deref-entry-items.result.now c.loop-entry-test.false ∙ c.deref-entry-items.ensures.value)
    (c.loop-entry.invariant before h)
