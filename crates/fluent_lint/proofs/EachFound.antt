-- What is found in files, each translated from another, one file after the other.
use Rattle.std.proofs.Common.{◌≡◌, ◌∙◌, ℕ, zero, suc, ◌+◌, ◌<◌, ◌≤◌, List, [], ◌∷◌, ◌++◌, length, drop, get_or, map, refl, sym, ap, append-nil, append_assoc, add-one}
use Rattle.std.specs.List.{slice_get}
use Rattle.std.specs.Prelude.{unwrap_or}
use Rattle.lint_findings.specs.View.{file_view, finding_view}
use Rattle.lint_findings.specs.declared.records.FileFindings.{FileFindings}
use Rattle.lint_findings.specs.DuplicateIds.{Declaration}
use Rattle.lint_findings.specs.Finding.{Finding}
use Rattle.lint_findings.specs.Findings.{Rules}
use Rattle.fluent_lint.specs.FileTiles.{files_of, files_view}
use Rattle.fluent_lint.specs.Languages.{first_original, told_for, told_from}
use Rattle.fluent_lint.specs.ReferenceView.{file_found, files_found}
use Rattle.fluent_lint.specs.Shown.{Catalogs}
use Rattle.fluent_lint.specs.Taken.{declared_with}
use Rattle.fluent_lint.specs.Translated.{FileFound, LanguageFile, original_ids}
use Rattle.fluent_lint.specs.declared.original.Original.{Original}
use Rattle.fluent_lint.specs.declared.original.Original.TheVariants as of
use Rattle.fluent_lint.specs.declared.tiles.FileTiles.{FileTiles}
use Rattle.fluent_lint.proofs.FilesFound.{next_file}
use Rattle.std.proofs.lemmas.List.{drop_all, map-append}

-- what the first file that is left is translated from
original_at : (os : List Original) (i : ℕ) → first_original (drop i os) ≡ unwrap_or (slice_get os i) of.Unasked
original_at [] zero = refl
original_at [] (suc i) = refl
original_at (o ∷ os) zero = refl
original_at (o ∷ os) (suc i) = original_at os i

dropped : (os : List Original) (i : ℕ) → drop 1 (drop i os) ≡ drop (suc i) os
dropped [] zero = refl
dropped [] (suc i) = refl
dropped (o ∷ os) zero = refl
dropped (o ∷ os) (suc i) = dropped os i

one_dropped : (os : List Original) (i : ℕ) → drop 1 (drop i os) ≡ drop (i + 1) os
one_dropped os i = rw add-one (dropped os i)

module _ {Y : Type 0} (rules : Rules) (catalogs : Catalogs) (reference : List FileFound) (os : List Original) (of_file : LanguageFile → Y) where
  -- what is left from an index on, after these declarations
  abbrev pub left : List Declaration → ℕ → List FileTiles → List Y
  left before i tiled = map of_file (told_from rules catalogs reference before (drop i os) (files_view (files_of (drop i tiled))))

  -- one more file
  pub one_each : (before : List Declaration) (tiled : List FileTiles) (i : ℕ) (item : FileTiles) (old new : List Y) (o : Original) {all : List Y} →
      i < length tiled → item ≡ get_or tiled i item → o ≡ unwrap_or (slice_get os i) of.Unasked →
      new ≡ old ++ of_file (told_for rules catalogs reference before (file_view item.file) o) ∷ [] →
      old ++ left before i tiled ≡ all → new ++ left (declared_with (original_ids reference o) (file_view item.file) before) (i + 1) tiled ≡ all
  one_each before tiled i item old new o inside is from pushed so_far =
      let file = file_view item.file in
      let after : Original → List Declaration = λ r. declared_with (original_ids reference r) file before in
      let later = left (after o) (i + 1) tiled in
      let files = files_view (files_of (drop (i + 1) tiled)) in
      let here : left before i tiled ≡ of_file (told_for rules catalogs reference before file o) ∷ later =
      ap (λ fs. map of_file (told_from rules catalogs reference before (drop i os) fs)) (next_file tiled i item inside is)
      ∙ ap (λ r. of_file (told_for rules catalogs reference before file r) ∷ map of_file (told_from rules catalogs reference (after r) (drop 1 (drop i os)) files)) (original_at os i ∙ sym from)
      ∙ ap (λ rs. of_file (told_for rules catalogs reference before file o) ∷ map of_file (told_from rules catalogs reference (after o) rs files)) (one_dropped os i) in
      ap (λ l. l ++ later) pushed
      ∙ append_assoc old (of_file (told_for rules catalogs reference before file o) ∷ []) later
      ∙ ap (λ l. old ++ l) (sym here)
      ∙ so_far

  -- no more files
  pub none_left : (before : List Declaration) (tiled : List FileTiles) (i : ℕ) (now : List Y) {all : List Y} → length tiled ≤ i → now ++ left before i tiled ≡ all → now ≡ all
  none_left before tiled i now over so_far =
      sym (append-nil now)
      ∙ ap (λ l. now ++ map of_file (told_from rules catalogs reference before (drop i os) (files_view (files_of l)))) (sym (drop_all i tiled over))
      ∙ so_far

-- the findings of one more file
abbrev pub findings_in : List FileFindings → List (List Finding)
findings_in fs = map (λ (f : FileFound). f.findings) (files_found fs)

pub findings_pushed : (old new : List FileFindings) (one : FileFindings) → new ≡ old ++ one ∷ [] →
    findings_in new ≡ findings_in old ++ map finding_view one.findings.items ∷ []
findings_pushed old new one pushed =
    ap findings_in pushed
    ∙ ap (map (λ (f : FileFound). f.findings)) (map-append file_found old (one ∷ []))
    ∙ map-append (λ (f : FileFound). f.findings) (files_found old) (file_found one ∷ [])
