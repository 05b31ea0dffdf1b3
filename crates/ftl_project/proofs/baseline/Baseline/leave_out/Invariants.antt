use Rattle.std.proofs.Common.{◌++◌}
use Rattle.std.specs.List.{flat_map}
use Rattle.std.specs.Vec.Iter.{into_iter_items, into_iter_len}
use Rattle.lint_findings.specs.View.{file_findings_view, findings_view}
use Rattle.lint_findings.specs.declared.records.FileFindings.{FileFindings}
use Rattle.ftl_project.specs.Baselines.{lines_of, without}
use Rattle.ftl_project.proofs.Taken.{GivenSoFar}
use Rattle.ftl_project.proofs.baseline.Baseline.leave_out.Given as goal

abbrev pub invariant-loop-file : goal.invariant-loop-file
invariant-loop-file l =
    let new = λ (f : FileFindings). without (lines_of l.self) (file_findings_view f) in
    GivenSoFar new (findings_view l.initial.files.items ++ flat_map new (into_iter_items l.initial.file-iterator))
    (findings_view l.files.items) (into_iter_items l.file-iterator) (into_iter_len l.file-iterator)
