use Rattle.std.proofs.Common.{IfSome, subst, ◌≡◌, ◌++◌}
use Rattle.fluent_serve.specs.Frames.{ended}
use Rattle.fluent_serve.proofs.Answers.{errors_next, front_trans}
use Rattle.fluent_serve.proofs.answer.push_errors.Goals as goal

pub loop-error-preserved : goal.loop-error-preserved
loop-error-preserved g c =
    let shown = g.E.Display.output in (
      errors_next shown c.args.errors.now c.loop-error.error-index c.error-item.result c.args.out.now.items c.loop-error.out.items c.push_error.new.out.items
          c.loop-error-test.true c.loop-error.invariant.0
          (subst (λ e. IfSome (shown e) (λ text. c.push_error.new.out.items ≡ c.loop-error.out.items ++ ended text)) c.error-item.is c.in_ok-push_error.ensures.ok),
      front_trans c.loop-error.invariant.1 c.push_error.ensures.front,
    )
