use Rattle.std.proofs.Common.{◌≡◌, drop, true}
use Rattle.fluent_resource.specs.Sources.{texts}
use Rattle.fluent_lint.specs.Silence.{section_end}
use Rattle.fluent_lint.proofs.scopes.section_end.Given as goal

abbrev pub invariant-loop-line : goal.invariant-loop-line
invariant-loop-line l =
    section_end l.is_own l.at (texts (drop l.line-index l.lines)) ≡ section_end true l.start (texts l.lines)
