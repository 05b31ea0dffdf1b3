-- What clean findings of a language say of the replies from its files.
use Rattle.std.proofs.Common.{◌≡◌, ◌∙◌, ℕ, Bool, true, false, cond, if◌then◌else◌, not, ◌&&◌, ◌||◌, List, [], ◌∷◌, ◌++◌, Option, Some, None, drop, refl, sym, ap, subst, inl, inr}
use Rattle.std.specs.Prelude.{nat_lt}
use Rattle.std.specs.List.{All, flat_map, slice_get}
use Rattle.std.specs.Str.{bytes_eq}
use Rattle.std.proofs.lemmas.Bool.{cases_Bool, false≢true}
use Rattle.std.proofs.lemmas.List.Elements.{All-nil, All-cons, All-head, All-tail, All-append}
use Rattle.std.proofs.lemmas.Option.{get_or_from_slice_get, slice_get_within}
use Rattle.std.proofs.lemmas.Slice.Eq.{bytes_eq-Decides}
use Rattle.fluent_grammar.specs.Words.{Text, is_among}
use Rattle.fluent_grammar.specs.Tree as t
use Rattle.fluent_meaning.specs.Ids.{Ids}
use Rattle.lint_findings.specs.DuplicateIds.{Declaration}
use Rattle.lint_findings.specs.Files.{File}
use Rattle.lint_findings.specs.Finding.{Finding}
use Rattle.lint_findings.specs.Findings.{Options, Rules, tiles_in, translation_rules}
use Rattle.lint_findings.specs.ReportLaws.{HasHarmlessCode, IsClean, harmful_codes}
use Rattle.lint_findings.proofs.CleanReports.{clean_translations_are_flawless}
use Rattle.lint_findings.proofs.Lists.{all_left}
use Rattle.fluent_lint.specs.InOrder.{in_order, put}
use Rattle.fluent_lint.specs.LanguageLaws.{AreFilesClean, CleanLanguagesReplyWell, IsLanguageClean}
use Rattle.fluent_lint.specs.Languages.{first_original, found_from, language_rules}
use Rattle.fluent_lint.specs.Pairs.{are_alike, by_place, found_in_file, gaps, is_known, new_among, own_ids}
use Rattle.fluent_lint.specs.Shown.{Catalogs, differences}
use Rattle.fluent_lint.specs.Taken.{declared_with, taken}
use Rattle.fluent_lint.specs.Translated.{FileFound, LanguageFile, found_after, found_for, found_with, original_ids}
use Rattle.fluent_lint.specs.declared.original.Original.{Original}
use Rattle.fluent_lint.specs.declared.original.Original.TheVariants as of
use Rattle.fluent_lint.proofs.CleanFiles.{Clean, OwnClean, tiles_own, translation_clean, with_file}
use Rattle.fluent_lint.proofs.Kept.{file_found}
use Rattle.fluent_lint.proofs.Replies.{no_functions, replies_well}

-- ---- the order makes no difference

module _ {X : Type 0} (P : X → Type 0) (number : X → ℕ) where
  put_has : (x : X) (ys : List X) → All P (put number x ys) → All P (x ∷ ys)
  put_has x [] h = h
  put_has x (y ∷ ys) h =
      (elim (nat_lt (number y) (number x)) as (λ b. All P (if b then y ∷ put number x ys else x ∷ y ∷ ys) → All P (x ∷ y ∷ ys)) [
        | true ↦ λ past.
            let rest = put_has x ys (All-tail P y (put number x ys) past) in
            All-cons P x (y ∷ ys) (All-head P x ys rest) (All-cons P y ys (All-head P y (put number x ys) past) (All-tail P x ys rest))
        | false ↦ λ stays. stays
      ]) h

  in_order_has : (xs : List X) → All P (in_order number xs) → All P xs
  in_order_has [] h = h
  in_order_has (x ∷ xs) h =
      let both = put_has x (in_order number xs) h in
      All-cons P x xs (All-head P x (in_order number xs) both) (in_order_has xs (All-tail P x (in_order number xs) both))

-- ---- what is left out is as harmless as what is known

first_of_both : (a b : Bool) → (a && b) ≡ true → a ≡ true
first_of_both true b h = refl
first_of_both false b h = absurd (false≢true h)

alike_clean : (f g : Finding) → are_alike f g ≡ true → HasHarmlessCode g → HasHarmlessCode f
alike_clean f g alike h =
    ap (λ code. is_among code harmful_codes) ((bytes_eq-Decides f.code g.code).0 (first_of_both (bytes_eq f.code g.code) _ alike)) ∙ h

known_clean : (f : Finding) (known : List Finding) → Clean known → is_known known f ≡ true → HasHarmlessCode f
known_clean f [] h is = absurd (false≢true is)
known_clean f (g ∷ known) h is =
    elim (cases_Bool (are_alike f g)) [
      | inl alike ↦ alike_clean f g alike (All-head HasHarmlessCode g known h)
      | inr other ↦ known_clean f known (All-tail HasHarmlessCode g known h) (sym (ap (λ b. b || is_known known f) other) ∙ is)
    ]

new_clean : (known fs : List Finding) → Clean known → Clean (new_among known fs) → Clean fs
new_clean known [] k h = h
new_clean known (f ∷ fs) k h =
    let kept : Bool → List Finding = λ b. cond (not b) (f ∷ new_among known fs) (new_among known fs) in
    elim (cases_Bool (is_known known f)) [
      | inl is ↦ All-cons HasHarmlessCode f fs (known_clean f known k is) (new_clean known fs k (subst (λ b. Clean (kept b)) is h))
      | inr new ↦
          let both : Clean (f ∷ new_among known fs) = subst (λ b. Clean (kept b)) new h in
          All-cons HasHarmlessCode f fs (All-head HasHarmlessCode f (new_among known fs) both) (new_clean known fs k (All-tail HasHarmlessCode f (new_among known fs) both))
    ]

-- ---- files

module _ (options : Options) (references all : List File) where
  abbrev rules : Rules
  rules = translation_rules options references all

  abbrev Compare : Type 0
  Compare = Text → t.Entry → Text → List Finding

  file_own : (compare : Compare) (file : File) → Clean (found_in_file (record rules { compare = compare }) file) → All (OwnClean rules) (tiles_in file)
  file_own compare file h =
      let these : Rules = record rules { compare = compare } in
      tiles_own rules compare [] (tiles_in file) (subst IsClean (sym (file_found these file [])) (with_file file (found_in_file these file) h))

  abbrev alone : Rules
  alone = language_rules options references all

  module _ (catalogs : Catalogs) where
    -- what is found of a file by itself comes first
    after_own : (before : List Declaration) (file : File) (original : Option (Ids (Unit {0}))) → Clean (found_after alone catalogs before file original) → All (OwnClean rules) (tiles_in file)
    after_own before file original h =
        file_own (λ source e s. []) file (all_left HasHarmlessCode (found_in_file alone file) (taken original file before) h)

    alone_own : (before : List Declaration) (file : File) → Clean (by_place (found_after alone catalogs before file None)) → All (OwnClean rules) (tiles_in file)
    alone_own before file h =
        after_own before file None (in_order_has HasHarmlessCode (λ (f : Finding). f.offset) (found_after alone catalogs before file None) h)

    module _ (reference : List FileFound) (known : AreFilesClean reference) where
      with_own : (before : List Declaration) (file : File) (i : ℕ) (o : Option FileFound) → slice_get reference i ≡ o → Clean (found_with alone catalogs before file o).findings → All (OwnClean rules) (tiles_in file)
      with_own before file i None is h = alone_own before file h
      with_own before file i (Some r) is h =
          let r_clean : Clean r.findings =
          subst (λ (x : FileFound). Clean x.findings) (get_or_from_slice_get reference i r r is) (known i r (slice_get_within reference i r is)) in
          let found = found_after alone catalogs before file (Some (own_ids r.file.source)) in
          let later = differences rules.plurals catalogs.mine catalogs.theirs file r.file ++ gaps file r.file in
          let placed = in_order_has HasHarmlessCode (λ (f : Finding). f.offset) (new_among r.findings found ++ later) h in
          after_own before file (Some (own_ids r.file.source)) (new_clean r.findings found r_clean (all_left HasHarmlessCode (new_among r.findings found) later placed))

      one_own : (before : List Declaration) (file : File) (o : Original) → Clean (found_for alone catalogs before file reference o).findings → All (OwnClean rules) (tiles_in file)
      one_own before file (of.File i) h = with_own before file i (slice_get reference i) refl h
      one_own before file of.Lacking h =
          let found = found_after alone catalogs before file None in
          after_own before file None (all_left HasHarmlessCode found _ (in_order_has HasHarmlessCode (λ (f : Finding). f.offset) (found ++ _) h))
      one_own before file of.Unasked h = alone_own before file h

      each_own : (before : List Declaration) (os : List Original) (files : List File) → IsLanguageClean (found_from alone catalogs reference before os files) → All (OwnClean rules) (flat_map tiles_in files)
      each_own before os [] h = All-nil (OwnClean rules)
      each_own before os (file ∷ files) h =
          let Here : LanguageFile → Type 0 = λ l. Clean l.findings in
          let first = found_for alone catalogs before file reference (first_original os) in
          let after = declared_with (original_ids reference (first_original os)) file before in
          let others = found_from alone catalogs reference after (drop 1 os) files in
          All-append (OwnClean rules) (tiles_in file) (flat_map tiles_in files) (one_own before file (first_original os) (All-head Here first others h))
          (each_own after (drop 1 os) files (All-tail Here first others h))

pub clean_languages_reply_well : {S F : Type 0} → CleanLanguagesReplyWell S F
clean_languages_reply_well {S} {F} options references files catalogs reference os alone known clean =
    replies_well false files
    (clean_translations_are_flawless options references files [] (no_functions F options references alone)
    (translation_clean options references files (each_own options references files catalogs reference known [] os files clean)))
