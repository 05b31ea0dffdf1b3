use Rattle.std.proofs.Common.{◌∙◌, [], ◌∷◌, ◌++◌, ap, string_bytes, sym}
use Rattle.std.specs.List.{flat_map}
use Rattle.std.specs.Vec.Iter.{into_iter_items, into_iter_len}
use Rattle.lint_findings.specs.View.{findings_view}
use Rattle.ftl_project.specs.Chosen.{chosen}
use Rattle.ftl_project.specs.GroupsFound.{file_at}
use Rattle.ftl_project.specs.Paths.{paths}
use Rattle.ftl_project.specs.declared.language.LintedFile.{LintedFile}
use Rattle.ftl_project.proofs.ChosenPaths.{chosen_each}
use Rattle.ftl_project.proofs.Taken.{given_at_last}
use Rattle.ftl_project.proofs.chosen.push_files.Goals as goal

pub returns : goal.returns
returns c =
    let at = c.loop-file in
    let only = paths c.args.only.now in
    let old = findings_view c.args.found.now.items in
    let given = λ (f : LintedFile). chosen only (file_at (string_bytes f.planned.now.path) f.found ∷ []) in
    given_at_last given _ (findings_view at.found.items) (into_iter_items at.file-iterator) (into_iter_len at.file-iterator) at.invariant c.in-None.ensures.steps.0
    ∙ ap (λ fs. old ++ flat_map given fs) c.into_iter-file-iterator.ensures.into_iter_gives.0
    ∙ ap (λ l. old ++ l) (sym (chosen_each only (λ (f : LintedFile). file_at (string_bytes f.planned.now.path) f.found) c.args.files.items))
