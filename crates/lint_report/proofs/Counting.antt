-- Findings of a code in the files of a name, file by file.
use Rattle.std.proofs.Common.{◌≡◌, ◌∙◌, ℕ, ◌+◌, ◌<◌, Bool, true, false, cond, ◌&&◌, if◌then◌else◌, List, [], ◌∷◌, length, take, get_or, map, refl, sym, ap, arith, append-nil, count_by}
use Rattle.std.specs.Str.{bytes_eq}
use Rattle.std.proofs.lemmas.Bool.Decides.{same_from_decides}
use Rattle.std.proofs.lemmas.List.{take_more}
use Rattle.std.proofs.lemmas.List.Concat.{flat_map-append}
use Rattle.std.proofs.lemmas.List.Sums.{sum_by-append, sum_by-cons}
use Rattle.std.proofs.lemmas.Slice.Eq.{bytes_eq-Decides}
use Rattle.fluent_grammar.specs.Words.{Text}
use Rattle.lint_findings.specs.Findings.{FileFinding}
use Rattle.lint_findings.specs.Summary.{finding_count}
use Rattle.lint_findings.specs.View.{file_view, file_findings_view, finding_view, findings_view}
use Rattle.lint_findings.specs.declared.records.FileFindings.{FileFindings}
use Rattle.lint_findings.specs.declared.records.Finding.{Finding}
use Rattle.lint_findings.specs.declared.records.File.{File}
use Rattle.lint_report.specs.Counted.{has_code}

other_way : (xs ys : Text) → bytes_eq xs ys ≡ bytes_eq ys xs
other_way xs ys =
    let back = bytes_eq-Decides ys xs in
    same_from_decides (bytes_eq xs ys) (bytes_eq ys xs) (bytes_eq-Decides xs ys) (λ e. sym (back.0 e), λ e. back.1 (sym e))

module _ (q code : Text) where
  of_name : (file : File) (fs : List Finding) → bytes_eq file.name.now q ≡ true →
      count_by (λ (g : FileFinding). bytes_eq g.file.name q && bytes_eq g.finding.code code) (map (λ f. record { file = file_view file; finding = f }) (map finding_view fs))
      ≡ count_by (has_code code) fs
  of_name file [] e = refl
  of_name file (f ∷ fs) e =
      let rest = of_name file fs e in
      let first : ◌≡◌ {A = ℕ} (cond (bytes_eq file.name.now q && bytes_eq f.code.now code) 1 0) (cond (bytes_eq f.code.now code) 1 0) =
      ap (λ b. cond (b && bytes_eq f.code.now code) 1 0) e in
      let one : ℕ = cond (bytes_eq f.code.now code) 1 0 in
      sum_by-cons (λ (g : FileFinding). cond (bytes_eq g.file.name q && bytes_eq g.finding.code code) 1 0) (record { file = file_view file; finding = finding_view f }) (map (λ f'. record { file = file_view file; finding = f' }) (map finding_view fs))
      ∙ ap (λ n. n + count_by (λ (g : FileFinding). bytes_eq g.file.name q && bytes_eq g.finding.code code) (map (λ f'. record { file = file_view file; finding = f' }) (map finding_view fs))) first
      ∙ ap (λ n. one + n) rest
      ∙ sym (sum_by-cons (λ (g : Finding). cond (has_code code g) 1 0) f fs)

  of_other : (file : File) (fs : List Finding) → bytes_eq file.name.now q ≡ false →
      count_by (λ (g : FileFinding). bytes_eq g.file.name q && bytes_eq g.finding.code code) (map (λ f. record { file = file_view file; finding = f }) (map finding_view fs))
      ≡ 0
  of_other file [] e = refl
  of_other file (f ∷ fs) e =
      let rest = of_other file fs e in
      let first : ◌≡◌ {A = ℕ} (cond (bytes_eq file.name.now q && bytes_eq f.code.now code) 1 0) 0 = ap (λ b. cond (b && bytes_eq f.code.now code) 1 0) e in
      let sum : 0 + count_by (λ (g : FileFinding). bytes_eq g.file.name q && bytes_eq g.finding.code code) (map (λ f'. record { file = file_view file; finding = f' }) (map finding_view fs)) ≡ 0 = omega (arith, rest) in
      sum_by-cons (λ (g : FileFinding). cond (bytes_eq g.file.name q && bytes_eq g.finding.code code) 1 0) (record { file = file_view file; finding = finding_view f }) (map (λ f'. record { file = file_view file; finding = f' }) (map finding_view fs))
      ∙ ap (λ n. n + count_by (λ (g : FileFinding). bytes_eq g.file.name q && bytes_eq g.finding.code code) (map (λ f'. record { file = file_view file; finding = f' }) (map finding_view fs))) first ∙ sum

  of_file : (file : File) (fs : List Finding) →
      count_by (λ (g : FileFinding). bytes_eq g.file.name q && bytes_eq g.finding.code code) (map (λ f. record { file = file_view file; finding = f }) (map finding_view fs))
      ≡ (if bytes_eq q file.name.now then count_by (has_code code) fs else 0)
  of_file file fs = by (bytes_eq file.name.now q) refl ∙ ap (λ b. if b then count_by (has_code code) fs else 0) (other_way file.name.now q)
    where
      by : (b : Bool) → bytes_eq file.name.now q ≡ b →
          count_by (λ (g : FileFinding). bytes_eq g.file.name q && bytes_eq g.finding.code code) (map (λ f. record { file = file_view file; finding = f }) (map finding_view fs))
          ≡ (if bytes_eq file.name.now q then count_by (has_code code) fs else 0)
      by true e = of_name file fs e ∙ sym (ap (λ b. if b then count_by (has_code code) fs else 0) e)
      by false e = of_other file fs e ∙ sym (ap (λ b. if b then count_by (has_code code) fs else 0) e)

  pub count_more : (fs : List FileFindings) (i : ℕ) (d : FileFindings) → i < length fs →
      finding_count q code (findings_view (take (i + 1) fs))
      ≡ finding_count q code (findings_view (take i fs))
      + (if bytes_eq q (get_or fs i d).file.name.now then count_by (has_code code) (get_or fs i d).findings.items else 0)
  count_more fs i d within =
      let f = get_or fs i d in
      ap (λ l. finding_count q code (findings_view l)) (take_more fs i d within)
      ∙ ap (finding_count q code) (flat_map-append file_findings_view (take i fs) (get_or fs i d ∷ []))
      ∙ sum_by-append (λ (g : FileFinding). cond (bytes_eq g.file.name q && bytes_eq g.finding.code code) 1 0) (findings_view (take i fs)) (findings_view (get_or fs i d ∷ []))
      ∙ ap (λ n. finding_count q code (findings_view (take i fs)) + n)
      (ap (finding_count q code) (append-nil (file_findings_view (get_or fs i d))) ∙ of_file (get_or fs i d).file (get_or fs i d).findings.items)

  -- the same, of the item that a loop is at
  pub counted_next : (fs : List FileFindings) (i : ℕ) (item : FileFindings) → i < length fs → item ≡ get_or fs i item →
      (before after count : ℕ) (name : Text) (items : List Finding) → name ≡ item.file.name.now → count ≡ count_by (has_code code) items →
      items ≡ item.findings.items → before ≡ finding_count q code (findings_view (take i fs)) →
      after ≡ before + (if bytes_eq q name then count else 0) → after ≡ finding_count q code (findings_view (take (i + 1) fs))
  counted_next fs i item within is before after count name items name_is count_is items_is before_is after_is =
      after_is
      ∙ ap (λ n. n + (if bytes_eq q name then count else 0)) before_is
      ∙ ap (λ t. finding_count q code (findings_view (take i fs)) + (if bytes_eq q t then count else 0)) name_is
      ∙ ap (λ n. finding_count q code (findings_view (take i fs)) + (if bytes_eq q item.file.name.now then n else 0))
      (count_is ∙ ap (count_by (has_code code)) items_is)
      ∙ ap (λ (x : FileFindings). finding_count q code (findings_view (take i fs))
      + (if bytes_eq q x.file.name.now then count_by (has_code code) x.findings.items else 0)) is
      ∙ sym (count_more fs i item within)
