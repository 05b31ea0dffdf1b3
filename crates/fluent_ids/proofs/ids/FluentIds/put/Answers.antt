use Rattle.std.proofs.Common.{◌≡◌, Some, ap, subst, sym, rules, unwrap_or, ◌∙◌}
use Rattle.std.specs.HashMap.{Updates}
use Rattle.std.specs.HashMap.Entry.{map_with_value}
use Rattle.std.specs.declared.borrow.CowStr.TheVariants as text
use Rattle.fluent_ids.specs.EntryView.{meaning_of}
use Rattle.fluent_ids.specs.IdsView.{ids_view}
use Rattle.fluent_ids.proofs.Sorted.{put_in, same_key}
use Rattle.fluent_ids.proofs.Steps.{put_over, put_first}
use Rattle.fluent_ids.proofs.ids.FluentIds.put.Goals as goal

pub returns-then-overriding-clause-ids : goal.returns-then-overriding-clause-ids
returns-then-overriding-clause-ids g c =
    let next = put_in g.row.F.Denot c.args.self.now.entries c.insert-put.new.self (text.Borrowed c.args.id) c.args.entry (rw c.unwrap-replaced.ensures at c.insert-put.ensures.updates) in
    put_over (ids_view g.row.F.Denot c.args.self.now) _ (c.args.id.now, meaning_of g.row.F.Denot c.args.entry) c.args.overriding c.if-overriding.true next

pub returns-else-overriding-clause-ids : goal.returns-else-overriding-clause-ids
returns-else-overriding-clause-ids g c =
    let old = c.args.self.now.entries in
    let value = c.or_insert.ensures.value ∙ ap (λ o. unwrap_or o c.args.entry) (rw c.unwrap.ensures at c.entry-place.ensures.value) in
    let put : c.self-else-overriding-1.given.0 ≡ map_with_value c.unwrap.result c.or_insert.result.now = search rules in
    let updates = (rw c.unwrap.ensures at c.entry-place.ensures.update).0 c.or_insert.result.now in
    put_first g.row.F.Denot old c.self-else-overriding-1.given.0 c.args.overriding c.if-overriding.false (text.Borrowed c.args.id) c.args.entry
    (subst (λ v. Updates (same_key g.row.F.Denot) old c.self-else-overriding-1.given.0 (text.Borrowed c.args.id) (Some v)) value
    (subst (λ m. Updates (same_key g.row.F.Denot) old m (text.Borrowed c.args.id) (Some c.or_insert.result.now)) (sym put) updates))
