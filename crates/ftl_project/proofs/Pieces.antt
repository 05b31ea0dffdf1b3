-- Texts that are written piece by piece.
use Rattle.std.proofs.Common.{◌≡◌, ◌∙◌, ap, sym, refl, Bool, true, false, if◌then◌else◌, List, [], ◌∷◌, ◌++◌, map, Option}
use Rattle.std.proofs.lemmas.List.Concat.{flat_map-append}
use Rattle.std.specs.List.{flat_map}
use Rattle.fluent_grammar.specs.Words.{Text}
use Rattle.lint_findings.specs.View.{file_findings_view, findings_view}
use Rattle.lint_findings.specs.declared.records.FileFindings.{FileFindings}
use Rattle.lint_findings.specs.Findings.{FileFinding}
use Rattle.lint_findings.specs.JsonReport.{json_line}
use Rattle.lint_findings.specs.Report.{is_shown, shown}
use Rattle.ftl_project.specs.JsonLines.{group_json, json_piece, project_data}

-- the pieces of what values stand for
pub of_views : {X Y : Type 0} (piece : Y → Text) (view : X → Y) (xs : List X) → flat_map (λ x. piece (view x)) xs ≡ flat_map piece (map view xs)
of_views piece view [] = refl
of_views piece view (x ∷ xs) = ap (λ t. piece (view x) ++ t) (of_views piece view xs)

-- the findings of files, one file after the other
pub of_files : (piece : FileFinding → Text) (fs : List FileFindings) → flat_map (λ f. flat_map piece (file_findings_view f)) fs ≡ flat_map piece (findings_view fs)
of_files piece [] = refl
of_files piece (f ∷ fs) =
    ap (λ t. flat_map piece (file_findings_view f) ++ t) (of_files piece fs)
    ∙ sym (flat_map-append piece (file_findings_view f) (findings_view fs))

-- those that are shown
pub json_shown : (locale : Option Text) (notes : Bool) (fs : List FileFinding) → flat_map (json_piece locale notes) fs ≡ group_json locale notes fs
json_shown locale notes [] = refl
json_shown locale notes (f ∷ fs) =
    let rest = json_shown locale notes fs in
    elim (is_shown notes f.finding.severity) as (λ b.
    (if b then json_line (project_data locale f) else []) ++ flat_map (json_piece locale notes) fs
    ≡ flat_map (λ g. json_line (project_data locale g)) (if b then f ∷ shown notes fs else shown notes fs)) [
      | true ↦ ap (λ t. json_line (project_data locale f) ++ t) rest
      | false ↦ rest
    ]
