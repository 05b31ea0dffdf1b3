use Rattle.std.proofs.Common.{None}
use Rattle.std.specs.Prelude.{codes}
use Rattle.fluent_lint.proofs.Silencing.{by_fronts, without_front}
use Rattle.fluent_lint.proofs.scopes.comment_silencing.Goals as goal

pub returns-in-None : goal.returns-in-None
returns-in-None c =
    let line = c.args.line.now in
    by_fronts line None None None
    (without_front (codes "# lint-ignore:") line c.in_default.ensures.cases)
    (without_front (codes "## lint-ignore:") line c.in_default-strip_prefix.ensures.cases)
    (without_front (codes "### lint-ignore:") line c.in-None.ensures.cases)
