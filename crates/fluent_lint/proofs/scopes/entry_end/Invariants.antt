use Rattle.std.proofs.Common.{◌≡◌, drop, false}
use Rattle.fluent_resource.specs.Sources.{texts}
use Rattle.fluent_lint.specs.Silence.{entry_end}
use Rattle.fluent_lint.proofs.scopes.entry_end.Given as goal

abbrev pub invariant-loop-line : goal.invariant-loop-line
invariant-loop-line l =
    entry_end l.is_met l.at (texts (drop l.line-index l.lines)) ≡ entry_end false l.start (texts l.lines)
