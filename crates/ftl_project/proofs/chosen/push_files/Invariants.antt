use Rattle.std.proofs.Common.{[], ◌∷◌, ◌++◌, string_bytes}
use Rattle.std.specs.List.{flat_map}
use Rattle.std.specs.Vec.Iter.{into_iter_items, into_iter_len}
use Rattle.lint_findings.specs.View.{findings_view}
use Rattle.ftl_project.specs.Chosen.{chosen}
use Rattle.ftl_project.specs.GroupsFound.{file_at}
use Rattle.ftl_project.specs.Paths.{paths}
use Rattle.ftl_project.specs.declared.language.LintedFile.{LintedFile}
use Rattle.ftl_project.proofs.Taken.{GivenSoFar}
use Rattle.ftl_project.proofs.chosen.push_files.Given as goal

abbrev pub invariant-loop-file : goal.invariant-loop-file
invariant-loop-file l =
    let given = λ (f : LintedFile). chosen (paths l.only) (file_at (string_bytes f.planned.now.path) f.found ∷ []) in
    GivenSoFar given (findings_view l.initial.found.items ++ flat_map given (into_iter_items l.initial.file-iterator))
    (findings_view l.found.items) (into_iter_items l.file-iterator) (into_iter_len l.file-iterator)
