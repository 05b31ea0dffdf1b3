use Rattle.std.proofs.Common.{◌≡◌, map, take}
use Rattle.lint_findings.specs.Summary.{entry_count}
use Rattle.fluent_lint.proofs.Counted.{view_of}
use Rattle.fluent_lint.proofs.counts.entry_count.Given as goal

abbrev pub invariant-loop-file : goal.invariant-loop-file
invariant-loop-file l = l.total ≡ entry_count (map view_of (take l.file-index l.files))
