use Rattle.std.proofs.Common.{◌≡◌, ◌++◌, drop}
use Rattle.fluent_resource.specs.Sources.{texts}
use Rattle.fluent_lint.specs.Silence.{silences_from}
use Rattle.fluent_lint.specs.SilenceView.{silences_view}
use Rattle.fluent_lint.proofs.silence.silences_in.Given as goal

abbrev pub invariant-loop-index : goal.invariant-loop-index
invariant-loop-index l =
    silences_view l.silences.items ++ silences_from l.end l.at (texts (drop l.index l.lines)) ≡ silences_from l.end 0 (texts l.lines)
