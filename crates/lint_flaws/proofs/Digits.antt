-- Hex digits at the front of a text.
use Rattle.std.proofs.Common.{◌≡◌, ℕ, zero, suc, ◌+◌, ◌-◌, ◌<◌, ◌≤◌, ◌^◌, Bool, true, false, ◌&&◌, [], ◌∷◌, length, take, drop, get_or, Option, Some, None, refl, sym, arith}
use Rattle.std.specs.Prelude.{is_some}
use Rattle.std.specs.List.{prefix_len, list_all}
use Rattle.std.specs.Char.{InScalarRange, OutOfScalarRange}
use Rattle.std.specs.Option.{MatchOption}
use Rattle.std.specs.Str.Parse.{IsNumeral, digits_value, without_leading_plus}
use Rattle.std.proofs.lemmas.Bool.Decides.{nat_tests}
use Rattle.std.proofs.lemmas.List.{get_or-drop, length-drop}
use Rattle.std.proofs.lemmas.List.Sums.{prefix_len-le-length, prefix_len_passes}
use Rattle.fluent_grammar.specs.Words.{Text, is_hex_digit, hex_digits}
use Rattle.fluent_grammar.specs.Escapes.{hex_number, is_scalar}
use Rattle.lint_findings.specs.Escapes.{is_no_character}
use Rattle.fluent_tokens.specs.Counted.{Cuts}
use Rattle.fluent_tokens.proofs.Counted.{cut_by_ascii}
use Rattle.fluent_tokens.proofs.Escapes.{no_plus, numeral, value_is}

-- ---- numbers

scalar_in : (c : ℕ) → InScalarRange c → is_scalar c ≡ true
scalar_in c h = grind (arith, nat_tests)

scalar_out : (c : ℕ) → OutOfScalarRange c → is_scalar c ≡ false
scalar_out c h = grind (arith, nat_tests)

large_out : (c : ℕ) → ¬ (c < 2 ^ 32) → is_scalar c ≡ false
large_out c h = grind (arith, nat_tests)

pub made_if_scalar : (code : ℕ) (made : Option ℕ) → MatchOption made (OutOfScalarRange code) (λ _. InScalarRange code) → is_some made ≡ is_scalar code
made_if_scalar code None range = sym (scalar_out code range)
made_if_scalar code (Some c) range = sym (scalar_in code range)

pub too_large : (ds : Text) → 0 < length ds → list_all is_hex_digit ds ≡ true → ¬ (IsNumeral 16 (without_leading_plus ds) × (digits_value 16 (without_leading_plus ds) < 2 ^ 32)) → is_scalar (hex_number 0 ds) ≡ false
too_large ds some h large =
    let numeral_there : IsNumeral 16 (without_leading_plus ds) = rw (no_plus ds h) (some, numeral ds h) in
    large_out (hex_number 0 ds) (λ l. large (numeral_there, rw (value_is ds h) l))

-- ---- digits

hex_ascii : (c : ℕ) → is_hex_digit c ≡ true → c < 128
hex_ascii c h = grind (arith, nat_tests)

pub hex_cut : (s : Text) (n : ℕ) → n ≤ prefix_len is_hex_digit s → Cuts s n
hex_cut s n h = cut_by_ascii s n (omega (arith, prefix_len-le-length is_hex_digit s)) (λ k. hex_ascii _ (prefix_len_passes is_hex_digit s (n - 1) 0 (omega arith)))

both : (a b : Bool) → a ≡ true → b ≡ true → (a && b) ≡ true
both true b p q = q
both false b p q = absurd cc

front_step : (b : Bool) (c n : ℕ) (cs : Text) → is_hex_digit c ≡ b → suc n ≤ prefix_len is_hex_digit (c ∷ cs) → (n ≤ prefix_len is_hex_digit cs → list_all is_hex_digit (take n cs) ≡ true) → list_all is_hex_digit (take (suc n) (c ∷ cs)) ≡ true
front_step true c n cs e le more = both (is_hex_digit c) (list_all is_hex_digit (take n cs)) e (more (omega (arith, rw e at le)))
front_step false c n cs e le more = absurd (omega (arith, rw e at le))

pub front_is_hex : (s : Text) (n : ℕ) → n ≤ prefix_len is_hex_digit s → list_all is_hex_digit (take n s) ≡ true
front_is_hex s zero h = refl
front_is_hex [] (suc n) h = refl
front_is_hex (c ∷ cs) (suc n) h = front_step (is_hex_digit c) c n cs refl h (front_is_hex cs n)

pub enough : (n : ℕ) (s : Text) → n ≤ prefix_len is_hex_digit s → hex_digits n s ≡ true
unfolding hex_digits
enough n s h = grind (arith, nat_tests)

pub too_few : (n : ℕ) (s : Text) → prefix_len is_hex_digit s < n → hex_digits n s ≡ false
unfolding hex_digits
too_few n s h = grind (arith, nat_tests)

few_or : (n : ℕ) (s : Text) → hex_digits n s ≡ true → n ≤ prefix_len is_hex_digit s
unfolding hex_digits
few_or n s h = grind (arith, nat_tests)

first_of : (a b : Bool) → (a && b) ≡ true → a ≡ true
first_of true b h = refl
first_of false b h = absurd cc

-- an escape that stands for no character may be cut after its digits
pub escape_cut : (s : Text) (n : ℕ) → 0 < n → is_no_character n (drop 2 s) ≡ true → Cuts s (2 + n)
escape_cut s n some h =
    let le = few_or n (drop 2 s) (first_of (hex_digits n (drop 2 s)) _ h) in
    let there : n ≤ length (drop 2 s) = omega (arith, prefix_len-le-length is_hex_digit (drop 2 s)) in
    let last : get_or (drop 2 s) (n - 1) 0 < 128 = hex_ascii _ (prefix_len_passes is_hex_digit (drop 2 s) (n - 1) 0 (omega arith)) in
    cut_by_ascii s (2 + n) (omega (arith, length-drop 2 s)) (λ k. let same : 2 + n - 1 ≡ 2 + (n - 1) = omega arith in rw same (rw (← get_or-drop 2 s (n - 1) 0) last))
