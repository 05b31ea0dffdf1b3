-- Names whose near names are looked up.
use Rattle.std.proofs.Common.{◌≡◌, ◌∙◌, ℕ, zero, suc, ◌≤◌, Bool, true, false, ◌&&◌, nat_lt, [], ◌∷◌, length, None, if◌then◌else◌, refl, ap, sym, arith, IsAscii, get_or}
use Rattle.std.specs.Bool.{MatchBool}
use Rattle.std.specs.Char.{is_ascii}
use Rattle.std.specs.List.{find, list_all}
use Rattle.std.specs.Str.{IsNotAscii}
use Rattle.std.proofs.lemmas.Bool.{lt-ltb, le-ltb, ltb-true}
use Rattle.std.proofs.lemmas.Str.Ascii.{IsAscii-nil, IsAscii-cons}
use Rattle.fluent_grammar.specs.Words.{Text}
use Rattle.lint_findings.specs.NearNames.{may_be_slip, name_bytes, near_names, nearest}

both : (a b : Bool) → (a && b) ≡ true → (a ≡ true) × (b ≡ true)
both true true h = (refl, refl)
both true false h = absurd cc
both false b h = absurd cc

not_both : (a : Bool) → (a && false) ≡ false
not_both true = refl
not_both false = refl

tested : (s : Text) → IsAscii s → list_all is_ascii s ≡ true
tested [] h = refl
tested (x ∷ s) h = ap (λ b. b && list_all is_ascii s) (lt-ltb x 128 (h 0)) ∙ tested s (λ i. h (suc i))

refuted : (s : Text) (i : ℕ) → 128 ≤ get_or s i 0 → list_all is_ascii s ≡ false
refuted [] i h = absurd (omega arith)
refuted (x ∷ s) zero h = ap (λ b. b && list_all is_ascii s) (le-ltb x 128 h)
refuted (x ∷ s) (suc i) h = ap (λ b. is_ascii x && b) (refuted s i h) ∙ not_both (is_ascii x)

ascii_from_test : (s : Text) → list_all is_ascii s ≡ true → IsAscii s
ascii_from_test [] h = IsAscii-nil
ascii_from_test (x ∷ s) h =
    let parts = both (is_ascii x) (list_all is_ascii s) h in
    IsAscii-cons x s (ltb-true x 128 parts.0) (ascii_from_test s parts.1)

-- the test of code is that of the definition
pub is_tested : (s : Text) (b : Bool) → MatchBool b (IsAscii s) (IsNotAscii s) → b ≡ list_all is_ascii s
is_tested s true h = sym (tested s h)
is_tested s false h = sym (refuted s h.0 h.1)

pub slip_is_ascii : (s : Text) → may_be_slip s ≡ true → IsAscii s
slip_is_ascii s h = ascii_from_test s (both (nat_lt (length s) 65) (list_all is_ascii s) (both (nat_lt 2 (length s)) (nat_lt (length s) 65 && list_all is_ascii s) h).1).1

pub name_bytes_ascii : (bytes : Text) → bytes ≡ name_bytes → IsAscii bytes
unfolding name_bytes
name_bytes_ascii bytes is = ascii_from_test bytes (ap (list_all is_ascii) is)

-- ---- the nearest name

pub nearest_of_slip : (p : Text → Bool) (s : Text) → may_be_slip s ≡ true → nearest p s ≡ find p (near_names s)
unfolding nearest
nearest_of_slip p s h = ap (λ b. if b then find p (near_names s) else None) h

pub nearest_of_other : (p : Text → Bool) (s : Text) → may_be_slip s ≡ false → nearest p s ≡ None
unfolding nearest
nearest_of_other p s h = ap (λ b. if b then find p (near_names s) else None) h
