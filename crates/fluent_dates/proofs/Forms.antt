-- The forms that put patterns together have a place for each part, in all locales: by computing them.
use Rattle.std.proofs.Common.{◌≡◌, ℕ, zero, suc, ◌+◌, ◌-◌, ◌/◌, ◌%◌, ◌<◌, ◌≤◌, Bool, true, false, ◌&&◌, ◌||◌, ◌==◌, if◌then◌else◌, List, [], ◌∷◌, Some, refl, subst, arith, inl, inr}
use Rattle.std.specs.Char.{encode_utf8}
use Rattle.std.specs.Prelude.{slice_get, slice_index_or}
use Rattle.std.specs.Str.{chars}
use Rattle.std.proofs.lemmas.Bool.{and_parts, cases_lt}
use Rattle.std.proofs.lemmas.Bool.Decides.{nat_tests}
use Rattle.std.proofs.lemmas.Option.{none-some, same_Some}
use Rattle.fluent_date_tables.specs.Rows.{rows}
use Rattle.fluent_date_tables.specs.Tables.{Row, utf8}
use Rattle.fluent_date_tables.specs.Texts.{text_numbered, texts_1, texts_2, texts_3, texts_4, texts_5, texts_6, texts_7, texts_8, texts_9, texts_10, texts_11, texts_12, texts_13, texts_14, texts_15, texts_16, texts_17, texts_18, texts_19, texts_20, texts_21, texts_22, texts_23, texts_24, texts_25, texts_26, texts_27, texts_28, texts_29, texts_30, texts_31, texts_32, texts_33, texts_34, texts_35, texts_36, texts_37}
use Rattle.fluent_dates.specs.Items.{items_of}
use Rattle.fluent_dates.specs.Patterns.{append_form, append_place, last_from, last_place, later}
use Rattle.fluent_dates.specs.declared.items.Item.{Item}
use Rattle.fluent_dates.specs.declared.items.Item.TheVariants as item

-- whether a character is among items
abbrev pub has_char : ℕ → List Item → Bool
has_char c [] = false
has_char c (item.Char d ∷ items) = d == c || has_char c items
has_char c (item.Field field ∷ items) = has_char c items

-- whether a form has a place for two parts
abbrev has_both : List Item → Bool
has_both form = has_char 48 form && has_char 49 form

abbrev is_form : ℕ → Bool
is_form number = has_both (items_of (text_numbered number))

abbrev are_below : ℕ → (ℕ → Bool) → Bool
are_below zero test = true
are_below (suc n) test = test n && are_below n test

abbrev has_forms : Row → Bool
has_forms row = are_below 9 (λ k. is_form (slice_index_or row.append k 0)) && are_below 4 (λ k. is_form (slice_index_or row.glue k 0))

abbrev have_forms : List Row → Bool
have_forms [] = true
have_forms (row ∷ rows) = has_forms row && have_forms rows

all_have_forms : have_forms rows ≡ true
unfolding rows chars encode_utf8 texts_1 texts_2 texts_3 texts_4 texts_5 texts_6 texts_7 texts_8 texts_9 texts_10 texts_11 texts_12 texts_13 texts_14 texts_15 texts_16 texts_17 texts_18 texts_19 texts_20 texts_21 texts_22 texts_23 texts_24 texts_25 texts_26 texts_27 texts_28 texts_29 texts_30 texts_31 texts_32 texts_33 texts_34 texts_35 texts_36 texts_37
all_have_forms = refl

-- ---- the form of a row

below : (n : ℕ) (test : ℕ → Bool) → are_below n test ≡ true → (k : ℕ) → k < n → test k ≡ true
below zero test h k inside = absurd (omega (arith, inside))
below (suc n) test h k inside =
    let both = and_parts (test n) (are_below n test) h in
    elim (cases_lt k n) [
      | inl less ↦ below n test both.1 k less
      | inr more ↦ let same : n ≡ k = omega (arith, inside, more) in subst (λ i. test i ≡ true) same both.0
    ]

forms_of : (all : List Row) (number : ℕ) (row : Row) → slice_get all number ≡ Some row → have_forms all ≡ true → has_forms row ≡ true
forms_of [] number row is h = absurd (none-some row is)
forms_of (first ∷ all) zero row is h = subst (λ r. has_forms r ≡ true) (same_Some first row is) (and_parts (has_forms first) (have_forms all) h).0
forms_of (first ∷ all) (suc number) row is h = forms_of all number row is (and_parts (has_forms first) (have_forms all) h).1

-- a form with places for both parts
pub record IsForm (form : List Item) : Type 0 where
  pub first : has_char 48 form ≡ true
  pub second : has_char 49 form ≡ true

form_by : (form : List Item) → has_both form ≡ true → IsForm form
form_by form h = let both = and_parts (has_char 48 form) (has_char 49 form) h in record { first = both.0; second = both.1 }

pub record HasForms (row : Row) : Type 0 where
  pub append : (place : ℕ) → place < 11 → IsForm (items_of (append_form row place))
  pub glue : (place : ℕ) → place < 4 → IsForm (items_of (text_numbered (slice_index_or row.glue place 0)))

place_below : (place : ℕ) → place < 11 → append_place place < 9
place_below place below = grind (arith, nat_tests, below)

append_by : (b : Bool) (row : Row) (place : ℕ) → place < 11 → are_below 9 (λ k. is_form (slice_index_or row.append k 0)) ≡ true
    → has_both (items_of (if b then utf8 "0 ├2: 1┤" else text_numbered (slice_index_or row.append (append_place place) 0))) ≡ true
unfolding chars encode_utf8
append_by true row place inside h = refl
append_by false row place inside h = below 9 (λ k. is_form (slice_index_or row.append k 0)) h (append_place place) (place_below place inside)

pub has_forms_of : (number : ℕ) (row : Row) → slice_get rows number ≡ Some row → HasForms row
has_forms_of number row is =
    let both = and_parts (are_below 9 (λ k. is_form (slice_index_or row.append k 0))) (are_below 4 (λ k. is_form (slice_index_or row.glue k 0))) (forms_of rows number row is all_have_forms) in
    record {
      append = λ place inside. form_by (items_of (append_form row place)) (append_by (place == 5 || place == 9) row place inside both.0);
      glue = λ place inside. form_by (items_of (text_numbered (slice_index_or row.glue place 0))) (below 4 (λ k. is_form (slice_index_or row.glue k 0)) both.1 place inside);
    }

-- ---- the last place

later_below : (b : Bool) (place last : ℕ) → place < 11 → last < 11 → (if b then place else last) < 11
later_below true place last here h = here
later_below false place last here h = h

last_from_below : (left place last places others : ℕ) → last < 11 → place + left ≤ 11 → last_from left place last places others < 11
last_from_below zero place last places others h some = h
last_from_below (suc left) place last places others h some =
    last_from_below left (place + 1) (later places others place last) (places / 2) (others / 2)
    (later_below (places % 2 == 1 && others % 2 == 0) place last (omega (arith, some)) h) (omega (arith, some))

pub last_below : (places others : ℕ) → last_place places others < 11
last_below places others = last_from_below 11 0 0 places others (omega arith) (omega arith)
