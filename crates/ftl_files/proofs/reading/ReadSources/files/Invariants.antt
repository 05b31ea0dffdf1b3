use Rattle.std.proofs.Common.{◌≡◌, map, take}
use Rattle.lint_findings.specs.View.{file_view}
use Rattle.ftl_files.specs.TidyView.{source_view}
use Rattle.ftl_files.proofs.reading.ReadSources.files.Given as goal

-- the files so far
abbrev pub invariant-loop-file : goal.invariant-loop-file
invariant-loop-file l = map file_view l.files.items ≡ map source_view (take l.file-index l.self.files.items)
