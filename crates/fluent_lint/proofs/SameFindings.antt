-- A report has the findings that aren't ignored.
use Rattle.std.proofs.Common.{◌≡◌, ◌∙◌, ℕ, ◌+◌, Bool, true, false, cond, if◌then◌else◌, not, ◌&&◌, ◌||◌, List, [], ◌∷◌, ◌++◌, filter, refl, sym, ap, arith, append-nil, append_assoc, count_by, inl, inr}
use Rattle.std.specs.Prelude.{nat_lt}
use Rattle.std.specs.List.{All, flat_map}
use Rattle.std.specs.Str.{bytes_eq}
use Rattle.std.proofs.lemmas.Bool.{cases_Bool, false≢true}
use Rattle.std.proofs.lemmas.List.Elements.{All-nil, All-cons, All-head, All-tail}
use Rattle.std.proofs.lemmas.List.Sums.{sum_by-append, sum_by-cons}
use Rattle.std.proofs.lemmas.Slice.Eq.{bytes_eq-Decides}
use Rattle.fluent_grammar.specs.Words.{Text, is_among}
use Rattle.lint_findings.specs.DuplicateIds.{Declaration}
use Rattle.lint_findings.specs.Files.{File}
use Rattle.lint_findings.specs.Findings.{Options, FileFinding, FileTile, Rules, catalog_rules, declarations_of_tile, findings_in, findings_of_tile, findings_of_tiles, missing_messages, tiles_in, translation_rules}
use Rattle.fluent_lint.specs.InOrder.{in_order, put}
use Rattle.fluent_lint.specs.LintReport.{all_findings}
use Rattle.fluent_lint.specs.Found.{AreUnsilenced, reported}
use Rattle.fluent_lint.specs.Reported.{declarations_in, found, found_in_files, kept_of, ordered}
use Rattle.fluent_lint.proofs.Kept.{told_is_found}
use Rattle.fluent_lint.specs.RunLaws.{NoneIsIgnored, ReportsAreFindings}

-- ---- counts of lists

module _ {X : Type 0} (test : X → Bool) where
  abbrev one : X → ℕ
  one x = cond (test x) 1 0

  counted_first : (x : X) (xs : List X) → count_by test (x ∷ xs) ≡ one x + count_by test xs
  counted_first x xs = sum_by-cons one x xs

  counted_both : (xs ys : List X) → count_by test (xs ++ ys) ≡ count_by test xs + count_by test ys
  counted_both xs ys = sum_by-append one xs ys

  module _ (number : X → ℕ) where
    counted_put : (x : X) (xs : List X) → count_by test (put number x xs) ≡ count_by test (x ∷ xs)
    counted_put x [] = refl
    counted_put x (y ∷ ys) =
        elim (nat_lt (number y) (number x)) as (λ b. count_by test (if b then y ∷ put number x ys else x ∷ y ∷ ys) ≡ count_by test (x ∷ y ∷ ys)) [
          | true ↦
              let first = counted_first y (put number x ys) in
              let later = counted_put x ys in
              let both = counted_first x ys in
              let all = counted_first x (y ∷ ys) in
              let rest = counted_first y ys in
              omega (arith, first, later, both, all, rest)
          | false ↦ refl
        ]

    counted_in_order : (xs : List X) → count_by test (in_order number xs) ≡ count_by test xs
    counted_in_order [] = refl
    counted_in_order (x ∷ xs) =
        counted_put x (in_order number xs) ∙ counted_first x (in_order number xs) ∙ ap (λ n. one x + n) (counted_in_order xs) ∙ sym (counted_first x xs)

  none_before : (n : ℕ) → n ≡ 0 + n
  none_before n = omega arith

  -- those that pass among those that are kept
  counted_kept : (keep : X → Bool) (xs : List X) → count_by test (filter keep xs) ≡ count_by (λ x. keep x && test x) xs
  counted_kept keep [] = refl
  counted_kept keep (x ∷ xs) =
      let both : X → Bool = λ y. keep y && test y in
      let later : count_by test (filter keep xs) ≡ count_by both xs = counted_kept keep xs in
      let here : count_by test (filter keep (x ∷ xs)) ≡ cond (keep x && test x) 1 0 + count_by both xs =
      elim (keep x) as (λ b. count_by test (cond b (x ∷ filter keep xs) (filter keep xs)) ≡ cond (b && test x) 1 0 + count_by both xs) [
        | true ↦ counted_first x (filter keep xs) ∙ ap (λ n. one x + n) later
        | false ↦ later ∙ none_before (count_by both xs)
      ] in
      here ∙ sym (sum_by-cons (λ y. cond (keep y && test y) 1 0) x xs)

  none_counted : (xs : List X) → All (λ x. test x ≡ false) xs → count_by test xs ≡ 0
  none_counted [] h = refl
  none_counted (x ∷ xs) h =
      let first = counted_first x xs in
      let zero : one x ≡ 0 = ap (λ b. cond b 1 0) (All-head (λ y. test y ≡ false) x xs h) in
      let rest = none_counted xs (All-tail (λ y. test y ≡ false) x xs h) in
      omega (arith, first, zero, rest)

  -- If none of those that are kept passes, and none of the others, none of all does.
  none_of_all : (keep : X → Bool) → ((x : X) → keep x ≡ false → test x ≡ false) → (xs : List X) → count_by test (filter keep xs) ≡ 0 → All (λ x. test x ≡ false) xs
  none_of_all keep others [] h = All-nil (λ x. test x ≡ false)
  none_of_all keep others (x ∷ xs) h =
      let P : X → Type 0 = λ y. test y ≡ false in
      elim (cases_Bool (keep x)) [
        | inr dropped ↦
            All-cons P x xs (others x dropped) (none_of_all keep others xs (sym (ap (λ b. count_by test (cond b (x ∷ filter keep xs) (filter keep xs))) dropped) ∙ h))
        | inl stays ↦
            let sum : one x + count_by test (filter keep xs) ≡ 0 =
            sym (counted_first x (filter keep xs)) ∙ sym (ap (λ b. count_by test (cond b (x ∷ filter keep xs) (filter keep xs))) stays) ∙ h in
            elim (cases_Bool (test x)) [
              | inl passes ↦
                  let more : one x ≡ 1 = ap (λ b. cond b 1 0) passes in
                  absurd (omega (arith, sum, more))
              | inr fails ↦
                  let zero : one x ≡ 0 = ap (λ b. cond b 1 0) fails in
                  All-cons P x xs fails (none_of_all keep others xs (omega (arith, sum, zero)))
            ]
      ]

-- ---- files

abbrev keeps : List Text → FileFinding → Bool
keeps ignored f = not (is_among f.finding.code ignored)

module _ (rules : Rules) where
  abbrev declared : List FileTile → List Declaration
  declared ts = flat_map (λ (t : FileTile). declarations_of_tile rules t.file t.tile) ts

  two_runs : (before : List Declaration) (xs ys : List FileTile) →
      findings_of_tiles rules before (xs ++ ys) ≡ findings_of_tiles rules before xs ++ findings_of_tiles rules (before ++ declared xs) ys
  two_runs before [] ys = ap (λ ds. findings_of_tiles rules ds ys) (sym (append-nil before))
  two_runs before (x ∷ xs) ys =
      let here = findings_in x.file (findings_of_tile rules before x.file x.tile) in
      let ds = declarations_of_tile rules x.file x.tile in
      ap (λ l. here ++ l) (two_runs (before ++ ds) xs ys)
      ∙ sym (append_assoc here (findings_of_tiles rules (before ++ ds) xs) (findings_of_tiles rules ((before ++ ds) ++ declared xs) ys))
      ∙ ap (λ l. (here ++ findings_of_tiles rules (before ++ ds) xs) ++ findings_of_tiles rules l ys) (append_assoc before ds (declared xs))

  module _ (test : FileFinding → Bool) where
    counted_files : (files : List File) (before : List Declaration) →
        count_by test (found_in_files rules before files) ≡ count_by test (findings_of_tiles rules before (flat_map tiles_in files))
    counted_files [] before = refl
    counted_files (file ∷ files) before =
        let here = findings_of_tiles rules before (tiles_in file) in
        let later = findings_of_tiles rules (before ++ declarations_in rules file) (flat_map tiles_in files) in
        let first : count_by test (ordered here) ≡ count_by test here = counted_in_order test (λ (f : FileFinding). f.finding.offset) here in
        counted_both test (ordered here) (found_in_files rules (before ++ declarations_in rules file) files)
        ∙ ap (λ n. n + count_by test (found_in_files rules (before ++ declarations_in rules file) files)) first
        ∙ ap (λ n. count_by test here + n) (counted_files files (before ++ declarations_in rules file))
        ∙ sym (counted_both test here later)
        ∙ ap (count_by test) (sym (two_runs before (tiles_in file) (flat_map tiles_in files)))

-- The order makes no difference.
found_counted : (options : Options) (references files : List File) (test : FileFinding → Bool) →
    count_by test (found options references files) ≡ count_by test (all_findings options references files)
found_counted options [] files test = counted_files (catalog_rules options files) test files []
found_counted options (r ∷ rs) files test =
    let rules = translation_rules options (r ∷ rs) files in
    let all = findings_of_tiles rules [] (flat_map tiles_in files) in
    let missing = missing_messages options (r ∷ rs) files in
    counted_both test (found_in_files rules [] files) missing
    ∙ ap (λ n. n + count_by test missing) (counted_files rules test files [])
    ∙ sym (counted_both test all missing)

pub reports_are_findings : ReportsAreFindings
reports_are_findings options ignored references files test none =
    let both : FileFinding → Bool = λ f. keeps ignored f && test f in
    ap (λ fs. count_by test (kept_of ignored fs)) (told_is_found options references files none) ∙
    counted_kept test (keeps ignored) (found options references files)
    ∙ found_counted options references files both
    ∙ sym (counted_kept test (keeps ignored) (all_findings options references files))

-- ---- codes

-- a code that is ignored is none of those that aren't
other_code : (name : Text) (ignored names : List Text) → NoneIsIgnored names ignored → is_among name ignored ≡ true → is_among name names ≡ false
other_code name ignored [] h is = refl
other_code name ignored (x ∷ xs) h is =
    elim (cases_Bool (bytes_eq x name)) [
      | inl same ↦
          absurd (false≢true (sym (All-head (λ n. is_among n ignored ≡ false) x xs h) ∙ ap (λ n. is_among n ignored) ((bytes_eq-Decides x name).0 same) ∙ is))
      | inr other ↦
          ap (λ b. b || is_among name xs) other ∙ other_code name ignored xs (All-tail (λ n. is_among n ignored ≡ false) x xs h) is
    ]

not_kept : (b : Bool) → not b ≡ false → b ≡ true
not_kept true h = refl
not_kept false h = absurd (false≢true (sym h))

module _ (options : Options) (ignored : List Text) (references files : List File) (unsilenced : AreUnsilenced files) where
  -- If no finding with such a code is reported, and none is ignored, none is found.
  pub none_found : (names : List Text) → NoneIsIgnored names ignored →
      All (λ (f : FileFinding). is_among f.finding.code names ≡ false) (reported options ignored references files) →
      All (λ (f : FileFinding). is_among f.finding.code names ≡ false) (all_findings options references files)
  none_found names shown none =
      let test : FileFinding → Bool = λ f. is_among f.finding.code names in
      none_of_all test (keeps ignored) (λ f dropped. other_code f.finding.code ignored names shown (not_kept (is_among f.finding.code ignored) dropped))
      (all_findings options references files)
      (sym (reports_are_findings options ignored references files test unsilenced) ∙ none_counted test (reported options ignored references files) none)

  -- the same of one code
  pub one_found : (name : Text) → is_among name ignored ≡ false →
      All (λ (f : FileFinding). bytes_eq f.finding.code name ≡ false) (reported options ignored references files) →
      All (λ (f : FileFinding). bytes_eq f.finding.code name ≡ false) (all_findings options references files)
  one_found name shown none =
      let test : FileFinding → Bool = λ f. bytes_eq f.finding.code name in
      none_of_all test (keeps ignored) (λ f dropped. differs f.finding.code (not_kept (is_among f.finding.code ignored) dropped))
      (all_findings options references files)
      (sym (reports_are_findings options ignored references files test unsilenced) ∙ none_counted test (reported options ignored references files) none)
    where
      differs : (code : Text) → is_among code ignored ≡ true → bytes_eq code name ≡ false
      differs code is =
          elim (cases_Bool (bytes_eq code name)) [
            | inl same ↦ absurd (false≢true (sym shown ∙ ap (λ n. is_among n ignored) (sym ((bytes_eq-Decides code name).0 same)) ∙ is))
            | inr other ↦ other
          ]
