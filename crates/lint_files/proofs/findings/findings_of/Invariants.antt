use Rattle.std.proofs.Common.{◌≡◌, map, take}
use Rattle.fluent_parser.specs.Refusals.{refusal_view}
use Rattle.lint_findings.specs.View.{finding_view}
use Rattle.lint_files.specs.SourceFindings.{finding_of}
use Rattle.lint_files.proofs.findings.findings_of.Given as goal

abbrev pub invariant-loop-refusal : goal.invariant-loop-refusal
invariant-loop-refusal l = map finding_view l.findings.items ≡ map (finding_of l.source) (map (refusal_view l.source) (take l.refusal-index l.refusals))
