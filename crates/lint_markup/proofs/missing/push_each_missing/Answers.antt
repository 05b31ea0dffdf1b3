use Rattle.std.proofs.Common.{◌∙◌}
use Rattle.lint_findings.specs.Markup.{if_name_missing}
use Rattle.lint_markup.specs.InCode.{es_of, os_of}
use Rattle.lint_markup.proofs.Listed.{one_said}
use Rattle.lint_markup.proofs.missing.push_each_missing.Goals as goal

pub loop-name-preserved : goal.loop-name-preserved
loop-name-preserved c =
    one_said (if_name_missing (es_of c.args.pair.now) (os_of c.args.pair.now)) c.deref-name-items.result.now c.loop-name.name-index _
    c.loop-name.found.items c.push_if_missing.new.found.items c.loop-name-test.true c.in_ok-push_if_missing.ensures
    ∙ c.loop-name.invariant
