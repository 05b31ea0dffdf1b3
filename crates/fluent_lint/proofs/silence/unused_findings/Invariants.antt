use Rattle.std.proofs.Common.{◌≡◌, ◌++◌, drop, map}
use Rattle.lint_findings.specs.View.{finding_view}
use Rattle.fluent_lint.specs.Silence.{unused_among}
use Rattle.fluent_lint.specs.SilenceView.{silences_view}
use Rattle.fluent_lint.proofs.silence.unused_findings.Given as goal

abbrev pub invariant-loop-silence : goal.invariant-loop-silence
invariant-loop-silence l =
    map finding_view l.unused.items ++ unused_among l.looked (map finding_view l.findings) (silences_view (drop l.silence-index l.silences))
    ≡ unused_among l.looked (map finding_view l.findings) (silences_view l.silences)
