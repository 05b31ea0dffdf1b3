use Rattle.std.proofs.Common.{◌≡◌, ◌∙◌, ap, option_map, refl, sym}
use Rattle.lint_findings.specs.View.{file_view}
use Rattle.ftl_project.specs.FilesRead.{read_if}
use Rattle.ftl_project.proofs.reference.reference_file.Goals.{in-Some, in-None}
use Rattle.ftl_project.proofs.reference.reference_file.Goals as goal

pub returns : goal.returns
returns c =
    let files = c.args.sources.now.files.items in
    let read : option_map file_view c.match-index_of.file ≡ read_if files c.index_of.result =
    elim c.match-index_of.branch [
      | in-Some w ↦ ap (option_map file_view) w.file-is ∙ w.file-file.ensures ∙ ap (read_if files) (sym w.in-Some.is)
      | in-None w ↦ ap (option_map file_view) w.file-is ∙ ap (read_if files) (sym w.in-None.is)
    ] in
    record {
      place = c.index_of.result;
      path_is = refl;
      name_is = c.in_ok-relative_path.ensures;
      is_place = c.index_of.ensures;
      file_is = read;
    }
