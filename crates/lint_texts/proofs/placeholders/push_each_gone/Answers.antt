use Rattle.std.proofs.Common.{◌∙◌}
use Rattle.lint_texts.specs.Beside.{if_gone}
use Rattle.lint_texts.proofs.Named.{one_said}
use Rattle.lint_texts.proofs.placeholders.push_each_gone.Goals as goal

pub loop-name-preserved : goal.loop-name-preserved
loop-name-preserved c =
    one_said (if_gone c.args.names.now) c.args.known.now c.loop-name.name-index _
    c.loop-name.found.items c.push_if_gone.new.found.items c.loop-name-test.true c.in_ok-push_if_gone.ensures
    ∙ c.loop-name.invariant
