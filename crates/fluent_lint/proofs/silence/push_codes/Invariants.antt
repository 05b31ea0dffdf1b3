use Rattle.std.proofs.Common.{◌≡◌, ◌++◌, drop, map}
use Rattle.std.specs.Str.{trim}
use Rattle.fluent_resource.specs.Sources.{texts}
use Rattle.fluent_lint.specs.SilenceView.{silences_view}
use Rattle.fluent_lint.specs.Silence.{made_of}
use Rattle.fluent_lint.proofs.silence.push_codes.Given as goal

abbrev pub invariant-loop-code : goal.invariant-loop-code
invariant-loop-code l =
    silences_view l.silences.items ++ map (made_of l.at l.from l.to) (map trim (texts (drop l.code-index l.codes)))
    ≡ silences_view l.initial.silences.items ++ map (made_of l.at l.from l.to) (map trim (texts l.codes))
