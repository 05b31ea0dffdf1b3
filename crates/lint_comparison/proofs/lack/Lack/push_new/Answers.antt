use Rattle.std.proofs.Common.{◌∙◌, ◌++◌, ap, map, sym, append-nil}
use Rattle.std.proofs.lemmas.List.{take_all}
use Rattle.lint_nodes.specs.HasNames.{texts}
use Rattle.lint_comparison.specs.Lacks.{lacking}
use Rattle.lint_comparison.proofs.LackedNames.{next_name}
use Rattle.lint_findings.specs.DifferenceView.{difference_view}
use Rattle.lint_comparison.proofs.lack.Lack.push_new.Goals as goal

pub loop-name-init : goal.loop-name-init
loop-name-init c = λ ys has. sym (append-nil (map difference_view c.args.found.now.items))

pub loop-name-preserved : goal.loop-name-preserved
loop-name-preserved c = λ ys has.
    next_name c.args.self ys (map difference_view c.args.found.now.items) c.args.names.now c.loop-name.name-index _ c.loop-name-test.true
    (c.loop-name.invariant ys has) (c.in_ok-push_if_new.ensures ys has)

pub returns : goal.returns
returns c = λ ys has.
    let all = take_all c.loop-name.name-index c.args.names.now c.loop-name-test.false in
    c.loop-name.invariant ys has ∙ ap (λ xs. map difference_view c.args.found.now.items ++ lacking c.args.self (texts xs) ys) all
