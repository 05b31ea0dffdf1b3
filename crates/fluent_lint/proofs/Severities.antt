-- Findings that are counted, file by file.
use Rattle.std.proofs.Common.{◌≡◌, ◌∙◌, ℕ, ◌+◌, ◌<◌, cond, Bool, List, [], ◌∷◌, ◌++◌, length, take, get_or, map, refl, sym, ap, append-nil, count_by}
use Rattle.std.proofs.lemmas.List.{take_more}
use Rattle.std.proofs.lemmas.List.Concat.{flat_map-append}
use Rattle.std.proofs.lemmas.List.Sums.{sum_by-append, sum_by-cons}
use Rattle.lint_findings.specs.Findings.{FileFinding, findings_in}
use Rattle.lint_findings.specs.View.{file_view, file_findings_view, finding_view, findings_view}
use Rattle.lint_findings.specs.declared.records.FileFindings.{FileFindings}
use Rattle.lint_findings.specs.declared.records.Finding.{Finding}
use Rattle.lint_findings.specs.declared.records.File.{File}
use Rattle.fluent_lint.specs.Counting.{is_counted}
use Rattle.fluent_lint.specs.Totals.{found_count}
use Rattle.fluent_lint.specs.declared.totals.Counted.{Counted}

module _ (counted : Counted) where
  abbrev has : Finding → Bool
  has f = is_counted counted (finding_view f)

  abbrev is_of : FileFinding → Bool
  is_of g = is_counted counted g.finding

  in_file : (file : File) (fs : List Finding) → count_by is_of (findings_in (file_view file) (map finding_view fs)) ≡ count_by has fs
  in_file file [] = refl
  in_file file (f ∷ fs) =
      sum_by-cons (λ g. cond (is_of g) 1 0) (record { file = file_view file; finding = finding_view f }) (findings_in (file_view file) (map finding_view fs))
      ∙ ap (λ n. cond (has f) 1 0 + n) (in_file file fs)
      ∙ sym (sum_by-cons (λ g. cond (has g) 1 0) f fs)

  pub found_more : (fs : List FileFindings) (i : ℕ) (item : FileFindings) → i < length fs → item ≡ get_or fs i item →
      (before count after : ℕ) (items : List Finding) → items ≡ item.findings.items → count ≡ count_by has items →
      before ≡ found_count (is_counted counted) (findings_view (take i fs)) → after ≡ before + count →
      after ≡ found_count (is_counted counted) (findings_view (take (i + 1) fs))
  found_more fs i item within is before count after items items_are count_is before_is after_is =
      let old = findings_view (take i fs) in
      after_is
      ∙ ap (λ n. n + count) before_is
      ∙ ap (λ n. found_count (is_counted counted) old + n) (count_is ∙ ap (count_by has) items_are ∙ sym (in_file item.file item.findings.items))
      ∙ sym (sum_by-append (λ g. cond (is_of g) 1 0) old (file_findings_view item))
      ∙ ap (λ l. found_count (is_counted counted) l) (sym (flat_map-append file_findings_view (take i fs) (item ∷ []) ∙ ap (λ l. old ++ l) (append-nil (file_findings_view item))))
      ∙ ap (λ l. found_count (is_counted counted) (findings_view l)) (ap (λ x. take i fs ++ x ∷ []) is ∙ sym (take_more fs i item within))
