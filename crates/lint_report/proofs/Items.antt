-- Items that are written one after the other, and findings that are shown.
use Rattle.std.proofs.Common.{◌≡◌, ◌∙◌, ℕ, ◌+◌, ◌<◌, ◌≤◌, Bool, true, false, if◌then◌else◌, ◌||◌, List, [], ◌∷◌, ◌++◌, length, drop, get_or, map, refl, ap, sym, append_assoc, append-nil, drop-cons, add-one}
use Rattle.std.proofs.lemmas.List.{drop_all}
use Rattle.std.proofs.lemmas.List.Concat.{flat_map-append}
use Rattle.std.specs.List.{flat_map, list_any}
use Rattle.fluent_grammar.specs.Words.{Text}
use Rattle.lint_findings.specs.Findings.{FileFinding}
use Rattle.lint_findings.specs.Output.{output}
use Rattle.lint_findings.specs.Report.{is_shown, is_failure, has_failed, shown, report_lines}
use Rattle.lint_findings.specs.GithubReport.{report_github}
use Rattle.lint_findings.specs.GitlabReport.{gitlab_issue}
use Rattle.lint_findings.specs.Listed.{listed_item}
use Rattle.lint_findings.specs.SarifReport.{sarif_result}
use Rattle.lint_findings.specs.Summary.{Summary}
use Rattle.lint_findings.specs.View.{file_view, file_findings_view, finding_view, findings_view, severity_view}
use Rattle.lint_findings.specs.declared.records.FileFindings.{FileFindings}
use Rattle.lint_findings.specs.declared.records.Finding.{Finding}
use Rattle.lint_findings.specs.declared.records.File.{File}
use Rattle.lint_report.specs.View.{in_file}
use Rattle.lint_report.specs.declared.reports.Format.{Format}
use Rattle.lint_report.specs.declared.reports.Format.TheVariants.{Text as AsText, Line, Terminal, Json, Github, Sarif, Gitlab}
use Rattle.lint_report.specs.Formats.{document_output, finding_output, format_view, shown_piece, summaries_output}
use Rattle.lint_report.specs.View.{shown_width}

-- With the pieces of what is left, the pieces of all follow the old text.
module _ {X : Type 0} (piece : X → Text) (xs : List X) (old : Text) where
  abbrev pub PiecesSoFar : ℕ → Text → Type 0
  PiecesSoFar done text = text ++ flat_map piece (drop done xs) ≡ old ++ flat_map piece xs

  pub pieces_next : (done : ℕ) (d : X) (text more : Text) → done < length xs → PiecesSoFar done text → more ≡ text ++ piece (get_or xs done d) →
      PiecesSoFar (done + 1) more
  pieces_next done d text more within so_far pushed =
      rw (add-one, pushed, append_assoc) (ap (λ rest. text ++ flat_map piece rest) (sym (drop-cons xs done d within)) ∙ so_far)

  pub pieces_at_last : (done : ℕ) (text : Text) → length xs ≤ done → PiecesSoFar done text → text ≡ old ++ flat_map piece xs
  pieces_at_last done text over so_far =
      sym (append-nil text) ∙ ap (λ rest. text ++ flat_map piece rest) (sym (drop_all done xs over)) ∙ so_far

-- ---- findings by their files

pub of_file : (piece : FileFinding → Text) (file : File) (fs : List Finding) →
    flat_map (λ f. piece (in_file file f)) fs ≡ flat_map piece (map (λ f. record { file = file_view file; finding = f }) (map finding_view fs))
of_file piece file [] = refl
of_file piece file (f ∷ fs) = ap (λ t. piece (in_file file f) ++ t) (of_file piece file fs)

of_files : (piece : FileFinding → Text) (fs : List FileFindings) →
    flat_map (λ f. flat_map piece (file_findings_view f)) fs ≡ flat_map piece (findings_view fs)
of_files piece [] = refl
of_files piece (f ∷ fs) =
    ap (λ t. flat_map piece (file_findings_view f) ++ t) (of_files piece fs)
    ∙ sym (flat_map-append piece (file_findings_view f) (findings_view fs))

of_shown : (format : Format) (notes : Bool) (fs : List FileFinding) →
    flat_map (shown_piece format notes) fs ≡ flat_map (finding_output format) (shown notes fs)
of_shown format notes [] = refl
of_shown format notes (f ∷ fs) =
    let rest = of_shown format notes fs in
    elim (is_shown notes f.finding.severity) as (λ b.
    (if b then finding_output format f else []) ++ flat_map (shown_piece format notes) fs
    ≡ flat_map (finding_output format) (if b then f ∷ shown notes fs else shown notes fs)) [
      | true ↦ ap (λ t. finding_output format f ++ t) rest
      | false ↦ rest
    ]

of_format : (format : Format) (fs : List FileFinding) (ss : List Summary) →
    document_output format (flat_map (finding_output format) fs ++ summaries_output format ss) ≡ output (format_view format) shown_width fs ss
of_format AsText fs ss = refl
of_format Terminal fs ss = refl
of_format Line fs ss = append-nil (report_lines fs)
of_format Json fs ss = refl
of_format Github fs ss = append-nil (report_github fs)
of_format Sarif fs ss = ap (document_output Sarif) (append-nil (flat_map (λ f. listed_item (sarif_result f)) fs))
of_format Gitlab fs ss = ap (document_output Gitlab) (append-nil (flat_map (λ f. listed_item (gitlab_issue f)) fs))

pub output_is : (format : Format) (notes : Bool) (fs : List FileFindings) (ss : List Summary) →
    document_output format (flat_map (λ f. flat_map (shown_piece format notes) (file_findings_view f)) fs ++ summaries_output format ss)
    ≡ output (format_view format) shown_width (shown notes (findings_view fs)) ss
output_is format notes fs ss =
    ap (λ t. document_output format (t ++ summaries_output format ss)) (of_files (shown_piece format notes) fs ∙ of_shown format notes (findings_view fs))
    ∙ of_format format (shown notes (findings_view fs)) ss

-- ---- findings that fail

abbrev pub fails : Bool → Finding → Bool
fails strict f = is_failure strict (severity_view f.severity)

in_file_fails : (strict : Bool) (file : File) (fs : List Finding) →
    list_any (fails strict) fs
    ≡ list_any (λ (f : FileFinding). is_failure strict f.finding.severity) (map (λ f. record { file = file_view file; finding = f }) (map finding_view fs))
in_file_fails strict file [] = refl
in_file_fails strict file (f ∷ fs) = ap (λ b. fails strict f || b) (in_file_fails strict file fs)

any_append : {X : Type 0} (test : X → Bool) (xs ys : List X) → list_any test (xs ++ ys) ≡ (list_any test xs || list_any test ys)
any_append test [] ys = refl
any_append test (x ∷ xs) ys =
    elim (test x) as (λ b. (b || list_any test (xs ++ ys)) ≡ ((b || list_any test xs) || list_any test ys)) [ true ↦ refl | false ↦ any_append test xs ys ]

pub has_failed_is : (strict : Bool) (fs : List FileFindings) →
    list_any (λ (f : FileFindings). list_any (fails strict) f.findings.items) fs ≡ has_failed strict (findings_view fs)
has_failed_is strict [] = refl
has_failed_is strict (f ∷ fs) =
    ap (λ b. b || list_any (λ (g : FileFindings). list_any (fails strict) g.findings.items) fs) (in_file_fails strict f.file f.findings.items)
    ∙ ap (λ b. list_any (λ (g : FileFinding). is_failure strict g.finding.severity) (file_findings_view f) || b) (has_failed_is strict fs)
    ∙ sym (any_append (λ (g : FileFinding). is_failure strict g.finding.severity) (file_findings_view f) (findings_view fs))
