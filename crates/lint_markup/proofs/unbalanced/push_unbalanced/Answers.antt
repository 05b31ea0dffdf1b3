use Rattle.std.proofs.Common.{◌∙◌}
use Rattle.lint_findings.specs.Markup.{unbalanced_beside}
use Rattle.lint_markup.specs.InCode.{texts_of}
use Rattle.lint_markup.proofs.Listed.{one_said}
use Rattle.lint_markup.proofs.unbalanced.push_unbalanced.Goals as goal

pub loop-element-preserved : goal.loop-element-preserved
loop-element-preserved c =
    one_said (unbalanced_beside (texts_of c.args.pair.now.runs.now) (texts_of c.args.pair.now.others.now)) c.deref-element-items.result.now c.loop-element.element-index _
    c.loop-element.found.items c.push_beside.new.found.items c.loop-element-test.true c.in_ok-push_beside.ensures
    ∙ c.loop-element.invariant
