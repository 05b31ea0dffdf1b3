use Rattle.std.proofs.Common.{◌≡◌, map, take}
use Rattle.std.specs.Prelude.{All}
use Rattle.lint_report.specs.Counted as counted
use Rattle.lint_report.specs.Counted.{IsCounted}
use Rattle.fluent_lint.proofs.Counted.{view_of}
use Rattle.fluent_lint.proofs.counts.counted_files.Given as goal

abbrev pub invariant-loop-file : goal.invariant-loop-file
invariant-loop-file l = record {
  files : counted.files_of l.counted.items ≡ map view_of (take l.file-index l.files);
  counts : All IsCounted l.counted.items;
}
