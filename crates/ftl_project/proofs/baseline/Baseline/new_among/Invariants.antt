use Rattle.std.proofs.Common.{[], ◌∷◌, ◌++◌}
use Rattle.std.specs.List.{flat_map}
use Rattle.std.specs.Vec.Iter.{into_iter_items, into_iter_len}
use Rattle.lint_findings.specs.declared.records.Finding.{Finding}
use Rattle.lint_report.specs.View.{in_file}
use Rattle.ftl_project.specs.Baselines.{findings_of, lines_of, without}
use Rattle.ftl_project.proofs.Taken.{GivenSoFar}
use Rattle.ftl_project.proofs.baseline.Baseline.new_among.Given as goal

abbrev pub invariant-loop-finding : goal.invariant-loop-finding
invariant-loop-finding l =
    let new = λ (f : Finding). without (lines_of l.self) (in_file l.file f ∷ []) in
    GivenSoFar new (findings_of l.file l.initial.left.items ++ flat_map new (into_iter_items l.initial.finding-iterator))
    (findings_of l.file l.left.items) (into_iter_items l.finding-iterator) (into_iter_len l.finding-iterator)
