use Rattle.std.proofs.Common.{◌≡◌, ◌∙◌, [], ◌∷◌, ap, map, take, string_bytes, subst, sym}
use Rattle.std.proofs.lemmas.List.{take_all}
use Rattle.lint_nodes.specs.HasNames.{HasNames, texts}
use Rattle.lint_nodes.proofs.Unions.{union-append}
use Rattle.lint_findings.specs.Comparison.{union}
use Rattle.ftl_files.proofs.ListedLemmas.{more_names}
use Rattle.ftl_files.proofs.listed.each_once.Goals as goal

pub loop-name-preserved : goal.loop-name-preserved
loop-name-preserved c =
    let names = c.args.names.now in
    let i = c.loop-name.name-index in
    let item = c.name-item.result in
    let before = map string_bytes (take i names) in
    subst (HasNames c.add.new.self)
    (sym (ap (union []) (more_names names i item c.loop-name-test.true c.name-item.is) ∙ union-append [] before (string_bytes item ∷ [])))
    (subst (λ name. HasNames c.add.new.self (union (union [] before) (name ∷ []))) c.as_str.ensures.value
    (c.in_ok-add.ensures (union [] before) c.loop-name.invariant))

pub returns : goal.returns
returns c =
    subst (λ names. texts c.loop-name.once.list.items ≡ union [] (map string_bytes names))
    (take_all c.loop-name.name-index c.args.names.now c.loop-name-test.false) c.loop-name.invariant.listed
