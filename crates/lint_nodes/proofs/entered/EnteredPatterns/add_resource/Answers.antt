use Rattle.std.proofs.Common.{◌∙◌, List, ◌++◌, map, ap, sym, subst, Bor, option_map}
use Rattle.std.proofs.lemmas.List.{take_all}
use Rattle.fluent_ast.specs.Borrowed.{entry_of}
use Rattle.fluent_ast.specs.declared.Entry.{Entry}
use Rattle.fluent_grammar.specs.Words.{Text}
use Rattle.fluent_ids.specs.IdsView.{ids_view}
use Rattle.lint_nodes.specs.Holding.{HasPatternsOf, declared_ids}
use Rattle.lint_nodes.proofs.Declared.{before, declares, declares_none}
use Rattle.lint_nodes.proofs.entered.EnteredPatterns.add_resource.Goals as goal
use Rattle.lint_nodes.proofs.entered.EnteredPatterns.add_resource.Goals.{in-Some+in_ok-add, in_default}

pub loop-entry-preserved : goal.loop-entry-preserved
loop-entry-preserved c = λ seen has.
    let ids = ids_view (Unit {0}) c.args.ids.now in
    let xs = c.deref-entry-items.result.now in
    let i = c.loop-entry.entry-index in
    let item = c.entry-item.result in
    let held = c.loop-entry.invariant seen has in
    elim c.match-declared_id.branch [
      | in-Some+in_ok-add w ↦ rw w.self-is
          (subst (HasPatternsOf ids w.add.new.self)
          (declares xs i item c.loop-entry-test.true c.entry-item.is seen w.in-Some.id.now (sym c.declared_id.ensures ∙ ap (option_map (λ (s : Bor Text). s.now)) w.in-Some.is))
          (w.in_ok-add.ensures (seen ++ before xs i item c.loop-entry-test.true c.entry-item.is) held))
      | in_default w ↦ rw w.self-is
          (subst (HasPatternsOf ids c.loop-entry.self)
          (declares_none xs i item c.loop-entry-test.true c.entry-item.is seen (sym c.declared_id.ensures ∙ ap (option_map (λ (s : Bor Text). s.now)) w.in_default.is))
          held)
    ]

pub returns : goal.returns
returns c = λ seen has.
    let ids = ids_view (Unit {0}) c.args.ids.now in
    let P : List (Entry (Bor Text)) → Type 0 = λ es. HasPatternsOf ids c.loop-entry.self (seen ++ declared_ids (map entry_of es)) in
    subst P (take_all c.loop-entry.entry-index c.deref-entry-items.result.now c.loop-entry-test.false ∙ c.deref-entry-items.ensures.value) (c.loop-entry.invariant seen has)
