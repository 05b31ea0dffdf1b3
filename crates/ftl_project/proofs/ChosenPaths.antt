-- Files that are chosen by their paths.
use Rattle.std.proofs.Common.{◌≡◌, ◌∙◌, ℕ, Bool, true, false, ◌&&◌, ◌||◌, ◌==◌, if◌then◌else◌, List, [], ◌∷◌, ◌++◌, Option, None, Some, is_some, map, filter, refl, sym, ap, append-nil, append_assoc, arith, length, get_or, ◌<◌, ◌≤◌}
use Rattle.std.proofs.Math.Dec.{eqb-suc-zero}
use borrow.Author.Tests.{ne_eqb}
use Rattle.std.specs.List.{flat_map, zip}
use Rattle.std.specs.Option.{option_and_then}
use Rattle.std.specs.Str.{bytes_eq}
use Rattle.fluent_grammar.specs.Words.{Text}
use Rattle.fluent_project.specs.Patterns.{is_slash}
use Rattle.fluent_project.specs.Relative.{after_slash, below}
use Rattle.fluent_project.specs.Taking.{after, is_none}
use Rattle.lint_findings.specs.Findings.{FileFinding}
use Rattle.lint_findings.specs.declared.records.FileFindings.{FileFindings}
use Rattle.ftl_project.specs.Chosen.{PathFound, chosen, is_chosen, is_in}
use Rattle.ftl_project.specs.GroupsFound.{file_at, reference_found, were_read}
use Rattle.ftl_project.specs.declared.reference.ReferenceFile.{ReferenceFile}
use Rattle.ftl_project.proofs.Taken.{nothing_left}

-- ---- a path in a folder, by what follows the folder in it

abbrev is_end : Option Text → Bool
is_end None = false
is_end (Some []) = true
is_end (Some (byte ∷ rest)) = is_slash byte

abbrev pub is_in_by : Text → Option Text → Bool
is_in_by folder None = false
is_in_by folder (Some []) = true
is_in_by folder (Some (byte ∷ rest)) = is_slash byte || is_none folder

slash_first : (byte : ℕ) (rest : Text) → is_some (after_slash (byte ∷ rest)) ≡ is_slash byte
slash_first byte rest = elim (byte == 47) as (λ b. is_some (if b then Some rest else None) ≡ b) [ true ↦ refl | false ↦ refl ]

or_true : (b : Bool) → (b || true) ≡ true
or_true true = refl
or_true false = refl

or_false : (b : Bool) → (b || false) ≡ b
or_false true = refl
or_false false = refl

ends : (folder path : Text) → (bytes_eq path folder || is_some (below folder path)) ≡ is_end (after folder path)
ends [] [] = refl
ends [] (byte ∷ path) = slash_first byte path
ends (x ∷ folder) [] = refl
ends (x ∷ folder) (byte ∷ path) =
    elim (byte == x) as (λ b.
    ((b && bytes_eq path folder) || is_some (option_and_then after_slash (if b then after folder path else None)))
    ≡ is_end (if b then after folder path else None)) [ true ↦ ends folder path | false ↦ refl ]

in_first : (folder : Text) (byte : ℕ) (rest : Option Text) → is_end rest ≡ is_in_by (byte ∷ folder) rest
in_first folder byte None = refl
in_first folder byte (Some []) = refl
in_first folder byte (Some (b ∷ rest)) = sym (or_false (is_slash b))

pub in_folder : (folder path : Text) → is_in folder path ≡ is_in_by folder (after folder path)
in_folder [] [] = refl
in_folder [] (byte ∷ path) = sym (or_true (is_slash byte))
in_folder (x ∷ folder) path = ends (x ∷ folder) path ∙ in_first folder x (after (x ∷ folder) path)

none_by_len : (text : Text) → is_none text ≡ (length text == 0)
none_by_len [] = refl
none_by_len (byte ∷ text) = sym (eqb-suc-zero (length text))

pub in_by_rest : (folder path : Text) (rest : Option Text) → after folder path ≡ rest → is_in folder path ≡ is_in_by folder rest
in_by_rest folder path rest is = in_folder folder path ∙ ap (is_in_by folder) is

pub in_if_empty : (folder rest : Text) → length rest < 1 → is_in_by folder (Some rest) ≡ true
in_if_empty folder [] short = refl
in_if_empty folder (byte ∷ rest) short = absurd (omega arith)

pub in_if_other : (folder rest : Text) → 1 ≤ length rest → (get_or rest 0 0 ≡ 47 → ⊥) → is_in_by folder (Some rest) ≡ (length folder == 0)
in_if_other folder [] long other = absurd (omega arith)
in_if_other folder (byte ∷ rest) long other = ap (λ b. b || is_none folder) (ne_eqb byte 47 other) ∙ none_by_len folder

-- ---- what is found in files that are chosen

module _ (only : List Text) where
  pub chosen_one : (f : PathFound) → is_chosen only f.path ≡ true → chosen only (f ∷ []) ≡ f.found
  chosen_one f is = ap (λ b. flat_map (λ (g : PathFound). g.found) (if b then f ∷ [] else [])) is ∙ append-nil f.found

  pub chosen_none : (f : PathFound) → is_chosen only f.path ≡ false → chosen only (f ∷ []) ≡ []
  chosen_none f is = ap (λ b. flat_map (λ (g : PathFound). g.found) (if b then f ∷ [] else [])) is

  -- the first, and then the others
  pub chosen_first : (f : PathFound) (fs : List PathFound) → chosen only (f ∷ fs) ≡ chosen only (f ∷ []) ++ chosen only fs
  chosen_first f fs =
      elim (is_chosen only f.path) as (λ b.
      flat_map (λ (g : PathFound). g.found) (if b then f ∷ filter (λ (g : PathFound). is_chosen only g.path) fs else filter (λ (g : PathFound). is_chosen only g.path) fs)
      ≡ flat_map (λ (g : PathFound). g.found) (if b then f ∷ [] else []) ++ chosen only fs) [
        | true ↦ ap (λ l. l ++ chosen only fs) (sym (append-nil f.found))
        | false ↦ refl
      ]

  pub chosen_both : (fs gs : List PathFound) → chosen only (fs ++ gs) ≡ chosen only fs ++ chosen only gs
  chosen_both [] gs = refl
  chosen_both (f ∷ fs) gs =
      chosen_first f (fs ++ gs)
      ∙ ap (λ l. chosen only (f ∷ []) ++ l) (chosen_both fs gs)
      ∙ sym (append_assoc (chosen only (f ∷ [])) (chosen only fs) (chosen only gs))
      ∙ ap (λ l. l ++ chosen only gs) (sym (chosen_first f fs))

  -- file by file
  pub chosen_each : {X : Type 0} (at : X → PathFound) (xs : List X) → chosen only (map at xs) ≡ flat_map (λ x. chosen only (at x ∷ [])) xs
  chosen_each at [] = refl
  chosen_each at (x ∷ xs) = chosen_first (at x) (map at xs) ∙ ap (λ l. chosen only (at x ∷ []) ++ l) (chosen_each at xs)

-- ---- files of the reference, of which some weren't read

pub unread_first : (r : ReferenceFile) (rs : List ReferenceFile) (fs : List FileFindings) → is_some r.file ≡ false → reference_found (r ∷ rs) fs ≡ reference_found rs fs
unread_first r rs fs is = ap (λ b. map (λ (p : ReferenceFile × FileFindings). file_at p.0.path.now p.1) (zip (if b then r ∷ were_read rs else were_read rs) fs)) is

pub read_first : (r : ReferenceFile) (rs : List ReferenceFile) (f : FileFindings) (fs : List FileFindings) → is_some r.file ≡ true → reference_found (r ∷ rs) (f ∷ fs) ≡ file_at r.path.now f ∷ reference_found rs fs
read_first r rs f fs is = ap (λ b. map (λ (p : ReferenceFile × FileFindings). file_at p.0.path.now p.1) (zip (if b then r ∷ were_read rs else were_read rs) (f ∷ fs))) is

no_zip : {X Y : Type 0} (xs : List X) → zip {K = X} {X = Y} xs [] ≡ []
no_zip [] = refl
no_zip (x ∷ xs) = refl

pub no_more_found : (rs : List ReferenceFile) → reference_found rs [] ≡ []
no_more_found rs = ap (λ l. map (λ (p : ReferenceFile × FileFindings). file_at p.0.path.now p.1) l) (no_zip (were_read rs))

module _ (only : List Text) where
  -- the first wasn't read
  pub skip_unread : (now : List FileFinding) (rs rest : List ReferenceFile) (r : ReferenceFile) (fs : List FileFindings) → rs ≡ r ∷ rest → is_some r.file ≡ false →
      now ++ chosen only (reference_found rest fs) ≡ now ++ chosen only (reference_found rs fs)
  skip_unread now rs rest r fs left unread = ap (λ l. now ++ chosen only l) (sym (ap (λ l. reference_found l fs) left ∙ unread_first r rest fs unread))

  -- no findings are left
  pub stop_found : (now : List FileFinding) (rs rest : List ReferenceFile) (old new : List FileFindings) → length old ≡ 0 → length new ≡ 0 →
      now ++ chosen only (reference_found rest new) ≡ now ++ chosen only (reference_found rs old)
  stop_found now rs rest old new none still =
      ap (λ l. now ++ chosen only l)
      (ap (reference_found rest) (nothing_left new still) ∙ no_more_found rest ∙ sym (ap (reference_found rs) (nothing_left old none) ∙ no_more_found rs))

  -- the first was read, and what is found in it was added if it is chosen
  pub take_read : (now new : List FileFinding) (rs rest : List ReferenceFile) (r : ReferenceFile) (f : FileFindings) (old more : List FileFindings) →
      rs ≡ r ∷ rest → is_some r.file ≡ true → old ≡ f ∷ more → new ≡ now ++ chosen only (file_at r.path.now f ∷ []) →
      new ++ chosen only (reference_found rest more) ≡ now ++ chosen only (reference_found rs old)
  take_read now new rs rest r f old more left read is made =
      ap (λ l. l ++ chosen only (reference_found rest more)) made
      ∙ append_assoc now (chosen only (file_at r.path.now f ∷ [])) (chosen only (reference_found rest more))
      ∙ ap (λ l. now ++ l) (sym (chosen_first only (file_at r.path.now f) (reference_found rest more)))
      ∙ ap (λ l. now ++ chosen only l) (sym (ap (λ l. reference_found l old) left ∙ ap (reference_found (r ∷ rest)) is ∙ read_first r rest f more read))
