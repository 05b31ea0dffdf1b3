-- Summaries of files, one after the other.
use Rattle.std.proofs.Common.{◌≡◌, ◌∙◌, ℕ, ◌+◌, ◌<◌, ◌≤◌, List, [], ◌∷◌, ◌++◌, length, take, get_or, map, refl, sym, ap, append_assoc}
use Rattle.std.proofs.lemmas.List.{map-append, take_more, take_all}
use Rattle.lint_findings.specs.Summary as counted
use Rattle.lint_findings.specs.Files as files
use Rattle.lint_findings.specs.View.{file_view}
use Rattle.lint_report.specs.ReportView.{summary_view}
use Rattle.lint_report.specs.declared.summary.Summary.{Summary}
use Rattle.lint_report.specs.declared.files.FileMessages.{FileMessages}
use Rattle.lint_report.specs.Counted.{files_of}

-- those of the first files were appended
abbrev pub SummedSoFar : (FileMessages → counted.Summary) → List FileMessages → List Summary → ℕ → List Summary → Type 0
SummedSoFar f files old done new = map summary_view new ≡ map summary_view old ++ map f (take done files)

pub summed_next : (f : FileMessages → counted.Summary) (files : List FileMessages) (old : List Summary) (done : ℕ) (d : FileMessages) (new next : List Summary) (s : Summary) →
    done < length files → SummedSoFar f files old done new → next ≡ new ++ s ∷ [] → summary_view s ≡ f (get_or files done d) →
    SummedSoFar f files old (done + 1) next
summed_next f files old done d new next s within so_far pushed is =
    ap (map summary_view) pushed ∙ map-append summary_view new (s ∷ [])
    ∙ ap (λ l. l ++ summary_view s ∷ []) so_far
    ∙ append_assoc (map summary_view old) (map f (take done files)) (summary_view s ∷ [])
    ∙ ap (λ x. map summary_view old ++ (map f (take done files) ++ x ∷ [])) is
    ∙ ap (λ l. map summary_view old ++ l) (sym (map-append f (take done files) (get_or files done d ∷ [])))
    ∙ ap (λ l. map summary_view old ++ map f l) (sym (take_more files done d within))

pub summed_all : (f : FileMessages → counted.Summary) (files : List FileMessages) (old new : List Summary) (done : ℕ) → length files ≤ done →
    SummedSoFar f files old done new → map summary_view new ≡ map summary_view old ++ map f files
summed_all f files old new done all so_far = so_far ∙ ap (λ l. map summary_view old ++ map f l) (take_all done files all)

pub of_files : (g : files.File → counted.Summary) (fs : List FileMessages) → map (λ (m : FileMessages). g (file_view m.file)) fs ≡ map g (files_of fs)
of_files g [] = refl
of_files g (m ∷ fs) = ap (λ l. g (file_view m.file) ∷ l) (of_files g fs)
