-- Spellings of one tag.
use Rattle.std.proofs.Common.{◌≡◌, ◌∙◌, ℕ, ◌+◌, ◌≤◌, Bool, true, false, ◌&&◌, not, ◌==◌, if◌then◌else◌, List, [], ◌∷◌, Some, refl, ap, ap₂, sym, map, arith, rules, inl, inr}
use Rattle.std.specs.Char.{is_ascii_alphanumeric, to_ascii_lowercase}
use Rattle.std.proofs.lemmas.Bool.{cases_lt, eqb-true}
use Rattle.std.proofs.lemmas.Bool.Decides.{nat_tests}
use Rattle.std.proofs.lemmas.Str.Ascii.{lowercase_is}
use Rattle.fluent_plurals.specs.Lookup.{begins_with_tag, folded}
use Rattle.fluent_date_tables.specs.Tables.{Tagged, Text, first_in, first_of, or_else}
use Rattle.fluent_date_tables.specs.Tags.{tags}
use Rattle.fluent_dates.specs.Laws.{AreOneTag}
use Rattle.fluent_dates.specs.Lookup.{locale_for, row_numbered}

-- ---- letters and digits are folded to such

capital : (c : ℕ) → 65 ≤ c → c ≤ 90 → is_ascii_alphanumeric (c + 32) ≡ is_ascii_alphanumeric c
capital c low high = grind (arith, nat_tests)

lowered : (c : ℕ) → is_ascii_alphanumeric (to_ascii_lowercase c) ≡ is_ascii_alphanumeric c
lowered c = elim (cases_lt c 65) [
  | inl below ↦ ap is_ascii_alphanumeric ((lowercase_is c).1 below)
  | inr low ↦ elim (cases_lt 90 c) [
    | inl above ↦ ap is_ascii_alphanumeric ((lowercase_is c).2 above)
    | inr high ↦ ap is_ascii_alphanumeric ((lowercase_is c).0 (search rules)) ∙ capital c low high
  ]
]

folded_by : (b : Bool) (c : ℕ) → (c == 95) ≡ b → is_ascii_alphanumeric (folded c) ≡ is_ascii_alphanumeric c
folded_by true c test =
    ap (λ t. is_ascii_alphanumeric (if t then 45 else to_ascii_lowercase c)) test ∙ sym (ap is_ascii_alphanumeric (eqb-true c 95 test))
folded_by false c test = ap (λ t. is_ascii_alphanumeric (if t then 45 else to_ascii_lowercase c)) test ∙ lowered c

alike : (c d : ℕ) → folded c ≡ folded d → is_ascii_alphanumeric c ≡ is_ascii_alphanumeric d
alike c d same = sym (folded_by (c == 95) c refl) ∙ ap is_ascii_alphanumeric same ∙ folded_by (d == 95) d refl

-- ---- tags

first : ℕ → Text → ℕ
first other [] = other
first other (c ∷ text) = c

rest_of : Text → Text
rest_of [] = []
rest_of (c ∷ text) = text

begins_alike : (tag a b : Text) → map folded a ≡ map folded b → begins_with_tag tag a ≡ begins_with_tag tag b
unfolding first rest_of
begins_alike [] [] [] same = refl
begins_alike [] [] (d ∷ b) same = cc
begins_alike [] (c ∷ a) [] same = cc
begins_alike [] (c ∷ a) (d ∷ b) same = ap not (alike c d (ap (first 0) same))
begins_alike (t ∷ tag) [] [] same = refl
begins_alike (t ∷ tag) [] (d ∷ b) same = cc
begins_alike (t ∷ tag) (c ∷ a) [] same = cc
begins_alike (t ∷ tag) (c ∷ a) (d ∷ b) same =
    ap₂ (λ x y. t == x && y) (ap (first 0) same) (begins_alike tag a b (ap rest_of same))

first_alike : (tags : List Tagged) (a b : Text) → map folded a ≡ map folded b → first_of tags a ≡ first_of tags b
first_alike [] a b same = refl
first_alike (tagged ∷ tags) a b same =
    ap₂ (λ x y. if x then Some tagged.1 else y) (begins_alike tagged.0 a b same) (first_alike tags a b same)

in_alike : (lists : List (List Tagged)) (a b : Text) → map folded a ≡ map folded b → first_in lists a ≡ first_in lists b
in_alike [] a b same = refl
in_alike (tags ∷ more) a b same = ap₂ or_else (first_alike tags a b same) (in_alike more a b same)

pub spellings_share_locale : (a b : Text) → AreOneTag a b → locale_for a ≡ locale_for b
spellings_share_locale a b same = ap row_numbered (in_alike tags a b same)
