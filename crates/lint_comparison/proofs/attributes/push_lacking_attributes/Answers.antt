use Rattle.std.proofs.Common.{◌∙◌, ◌++◌, ap, append-nil, map, sym}
use Rattle.std.proofs.lemmas.Result.{on_ok_weaker}
use Rattle.fluent_ast.specs.Borrowed.{attributes_of}
use Rattle.lint_comparison.specs.Lacks.{lack_of}
use Rattle.lint_comparison.specs.LackingAttributes.{known_names, names_of}
use Rattle.lint_comparison.proofs.LackedNames.{without_each}
use Rattle.lint_comparison.proofs.SameNames.{none_lacking}
use Rattle.lint_findings.specs.DifferenceView.{difference_view}
use Rattle.lint_comparison.proofs.attributes.push_lacking_attributes.Goals as goal

pub returns-then-have_same_names : goal.returns-then-have_same_names
returns-then-have_same_names c =
    let old = map difference_view c.args.found.now.items in
    let mine = attributes_of c.args.attributes.now in
    let others = attributes_of c.args.others.now in
    sym (append-nil old) ∙ ap (λ l. old ++ l) (sym (none_lacking c.args.lack mine others (sym c.have_same_names.ensures ∙ c.if-have_same_names.true)))

pub returns : goal.returns
returns c =
    let others = attributes_of c.args.others.now in
    on_ok_weaker c.push_lacking.result
    (λ adds. adds (known_names others) c.in_ok-names.ensures
    ∙ ap (λ l. map difference_view c.args.found.now.items ++ map (lack_of c.args.lack) l) (without_each (names_of (attributes_of c.args.attributes.now)) (names_of others)))
    c.push_lacking.ensures
