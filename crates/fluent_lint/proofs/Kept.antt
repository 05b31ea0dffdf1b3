-- What is found of files, in the order of their offsets, and what is kept of it.
use Rattle.std.proofs.Common.{◌≡◌, ◌∙◌, ℕ, ◌+◌, ◌<◌, List, [], ◌∷◌, ◌++◌, Option, None, Some, length, take, get_or, map, not, refl, sym, ap, append-nil, append_assoc}
use Rattle.std.proofs.lemmas.List.{map-append, take_more}
use Rattle.std.proofs.lemmas.List.Concat.{flat_map-append}
use Rattle.std.specs.List.{flat_map}
use Rattle.std.proofs.lemmas.List.Elements.{All-head, All-tail, filter-append}
use Rattle.fluent_grammar.specs.Words.{Text, is_among}
use Rattle.lint_files.proofs.TilesFound.{tiles_declared, tiles_found}
use Rattle.lint_files.specs.PartFindings.{declared_in, findings_of_file}
use Rattle.lint_findings.specs.View.{file_findings_view, finding_view, findings_view}
use Rattle.lint_findings.specs.declared.records.FileFindings.{FileFindings}
use Rattle.lint_findings.specs.declared.records.Finding as code
use Rattle.lint_findings.specs.DuplicateIds.{Declaration}
use Rattle.lint_findings.specs.Files.{File}
use Rattle.lint_findings.specs.Finding.{Finding}
use Rattle.lint_findings.specs.Findings.{FileFinding, Options, Rules, catalog_rules, findings_in, findings_of_tiles, missing_messages, tiles_in, translation_rules}
use Rattle.fluent_lint.specs.Found.{AreUnsilenced, found_by_files, looked_with, told}
use Rattle.fluent_lint.specs.Reported.{declarations_in, found, found_in_files, kept, kept_of, ordered}
use Rattle.fluent_lint.specs.Pairs.{by_place}
use Rattle.fluent_lint.specs.Silence.{heard_by, silences}
use Rattle.fluent_lint.specs.declared.looked.Looked.{Looked}
use Rattle.fluent_lint.proofs.InOrder.{map-filter, map-in_order}

-- ---- of findings in other records

module _ {X Y : Type 0} (g : X → Y) (finding : Y → Finding) (ignored : List Text) where
  map-kept : (xs : List X) → map g (kept (λ x. finding (g x)) ignored xs) ≡ kept finding ignored (map g xs)
  map-kept xs = map-filter g (λ y. not (is_among (finding y).code ignored)) xs

module _ (file : File) (xs : List code.Finding) where
  abbrev with_file : Finding → FileFinding
  with_file f = record { file = file; finding = f }

  pub kept_viewed : (ignored : List Text) → findings_in file (map finding_view (kept finding_view ignored xs)) ≡ kept_of ignored (findings_in file (map finding_view xs))
  kept_viewed ignored =
      ap (findings_in file) (map-kept finding_view (λ (f : Finding). f) ignored xs)
      ∙ map-kept with_file (λ (f : FileFinding). f.finding) ignored (map finding_view xs)

-- the findings of one file, by place
pub placed_viewed : (file : File) (fs : List Finding) → findings_in file (by_place fs) ≡ ordered (findings_in file fs)
placed_viewed file fs = map-in_order (with_file file []) (λ (f : FileFinding). f.finding.offset) fs

-- ---- of files

-- What is kept of each file is kept of all.
pub kept_of_each : (ignored : List Text) (fs gs : List FileFindings) → map file_findings_view gs ≡ map (kept_of ignored) (map file_findings_view fs) → findings_view gs ≡ kept_of ignored (findings_view fs)
kept_of_each ignored [] [] same = refl
kept_of_each ignored [] (g ∷ gs) same = absurd cc
kept_of_each ignored (f ∷ fs) [] same = absurd cc
kept_of_each ignored (f ∷ fs) (g ∷ gs) same =
    let here : file_findings_view g ≡ kept_of ignored (file_findings_view f) = cc in
    let others : map file_findings_view gs ≡ map (kept_of ignored) (map file_findings_view fs) = cc in
    ap (λ l. l ++ findings_view gs) here
    ∙ ap (λ l. kept_of ignored (file_findings_view f) ++ l) (kept_of_each ignored fs gs others)
    ∙ sym (filter-append (λ (x : FileFinding). not (is_among x.finding.code ignored)) (file_findings_view f) (findings_view fs))

-- one more item
pub one_more : {X Y : Type 0} (found : Y → List FileFinding) (old : List FileFinding) (view : X → Y) (xs : List X) (i : ℕ) (d : X) → i < length xs → d ≡ get_or xs i d →
    (old ++ flat_map found (map view (take i xs))) ++ found (view d) ≡ old ++ flat_map found (map view (take (i + 1) xs))
one_more found old view xs i d inside is =
    let front = flat_map found (map view (take i xs)) in
    append_assoc old front (found (view d))
    ∙ ap (λ l. old ++ (front ++ l)) (sym (append-nil (found (view d))))
    ∙ ap (λ l. old ++ l) (sym (flat_map-append found (map view (take i xs)) (view d ∷ [])))
    ∙ ap (λ l. old ++ flat_map found l) (sym (map-append view (take i xs) (d ∷ [])))
    ∙ ap (λ l. old ++ flat_map found (map view l)) (ap (λ x. take i xs ++ x ∷ []) is ∙ sym (take_more xs i d inside))

module _ (rules : Rules) where
  pub file_found : (file : File) (before : List Declaration) → findings_of_tiles rules before (tiles_in file) ≡ findings_in file (findings_of_file rules before file)
  file_found file before =
      ap (findings_of_tiles rules before) (sym (append-nil (tiles_in file)))
      ∙ tiles_found rules (file ∷ []) before
      ∙ append-nil (findings_in file (findings_of_file rules before file))

  pub files_found : (files : List File) (before : List Declaration) → found_by_files rules None before files ≡ found_in_files rules before files
  files_found [] before = refl
  files_found (file ∷ files) before =
      ap (λ fs. fs ++ found_by_files rules None (before ++ declared_in file) files) (placed_viewed file (findings_of_file rules before file))
      ∙ ap (λ fs. ordered fs ++ found_by_files rules None (before ++ declared_in file) files) (sym (file_found file before))
      ∙ ap (λ ds. ordered (findings_of_tiles rules before (tiles_in file)) ++ found_by_files rules None (before ++ ds) files) (sym (tiles_declared rules file))
      ∙ ap (λ l. ordered (findings_of_tiles rules before (tiles_in file)) ++ l) (files_found files (before ++ declarations_in rules file))

  -- if no comment leaves anything out
  pub all_heard : (looked : Looked) (files : List File) → AreUnsilenced files → (before : List Declaration) → found_by_files rules (Some looked) before files ≡ found_by_files rules None before files
  all_heard looked [] none before = refl
  all_heard looked (file ∷ files) none before =
      let here = by_place (findings_of_file rules before file) in
      let later : Option Looked → List FileFinding = λ l. found_by_files rules l (before ++ declared_in file) files in
      ap (λ ss. findings_in file (heard_by looked ss here) ++ later (Some looked)) (All-head (λ (f : File). silences f.source ≡ []) file files none)
      ∙ ap (λ l. findings_in file here ++ l) (all_heard looked files (All-tail (λ (f : File). silences f.source ≡ []) file files none) (before ++ declared_in file))

-- what is told of a catalog is what is found then
pub told_is_found : (options : Options) (references files : List File) → AreUnsilenced files → told options references files ≡ found options references files
told_is_found options [] files none =
    let rules = catalog_rules options files in
    all_heard rules (looked_with options []) files none [] ∙ files_found rules files []
told_is_found options (r ∷ rs) files none =
    let rules = translation_rules options (r ∷ rs) files in
    ap (λ fs. fs ++ missing_messages options (r ∷ rs) files) (all_heard rules (looked_with options (r ∷ rs)) files none [] ∙ files_found rules files [])
