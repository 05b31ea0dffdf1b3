-- Where the words of the grammar end, the text may be cut.
use Rattle.std.proofs.Common.{◌≡◌, ℕ, zero, suc, ◌+◌, ◌-◌, ◌<◌, ◌≤◌, Bool, true, List, [], ◌∷◌, length, drop, get_or, arith, add-one, subst}
use Rattle.std.specs.Prelude.{◌==◌}
use Rattle.std.specs.List.{prefix_len}
use Rattle.std.specs.Str.{IsUtf8, IsCharBoundary}
use Rattle.std.proofs.lemmas.Bool.Decides.{nat_tests}
use Rattle.std.proofs.lemmas.Str.{IsCharBoundary-from_drop, IsCharBoundary-start, IsCharBoundary-after_ascii, IsCharBoundary-before_ascii, IsCharBoundary-end}
use Rattle.std.proofs.lemmas.List.Sums.{prefix_len-le-length, prefix_len_passes}
use Rattle.fluent_grammar.specs.Words as w
use Rattle.fluent_tokens.specs.Counted.{Cuts}

boundary_by_ascii : (text : List ℕ) (n : ℕ) → IsUtf8 text → n ≤ length text → (0 < n → get_or text (n - 1) 0 < 128) → IsCharBoundary text n
boundary_by_ascii text zero u h a = IsCharBoundary-start text u
boundary_by_ascii text (suc n) u h a =
    let same : suc n - 1 ≡ n = omega arith in
    let ascii : get_or text n 0 < 128 = rw same at (a (omega arith)) in
    let b : IsCharBoundary text (n + 1) = IsCharBoundary-after_ascii text n u (omega arith) ascii in
    rw (add-one) at b

pub cut_by_ascii : (text : List ℕ) (n : ℕ) → n ≤ length text → (0 < n → get_or text (n - 1) 0 < 128) → Cuts text n
cut_by_ascii text n h a = record { within = h; boundary = λ u. boundary_by_ascii text n u h a }

pub cut_before_ascii : (text : List ℕ) (n : ℕ) → n < length text → get_or text n 0 < 128 → Cuts text n
cut_before_ascii text n h a = record { within = omega arith; boundary = λ u. IsCharBoundary-before_ascii text n h a }

pub cut_end : (text : List ℕ) (n : ℕ) → n ≡ length text → Cuts text n
cut_end text n e = rw e (record { within = omega arith; boundary = λ u. IsCharBoundary-end text })

pub cut_none : (text : List ℕ) (n : ℕ) → n ≡ 0 → Cuts text n
cut_none text n e = rw e (cut_by_ascii text 0 (omega arith) (λ h. absurd (omega arith)))

cut_prefix : (p : ℕ → Bool) → ((c : ℕ) → p c ≡ true → c < 128) → (text : List ℕ) (n : ℕ) → n ≡ prefix_len p text → Cuts text n
cut_prefix p ascii text n e = rw e (cut_by_ascii text (prefix_len p text) (prefix_len-le-length p text)
    (λ h. ascii _ (prefix_len_passes p text (prefix_len p text - 1) 0 (omega arith))))

space_ascii : (c : ℕ) → (c == w.space) ≡ true → c < 128
space_ascii c h = grind (arith, nat_tests)

digit_ascii : (c : ℕ) → w.is_digit c ≡ true → c < 128
digit_ascii c h = grind (arith, nat_tests)

name_ascii : (c : ℕ) → w.is_name_byte c ≡ true → c < 128
name_ascii c h = grind (arith, nat_tests)

hex_ascii : (c : ℕ) → w.is_hex_digit c ≡ true → c < 128
hex_ascii c h = grind (arith, nat_tests)

sign_ascii : (c : ℕ) → (c == w.number_sign) ≡ true → c < 128
sign_ascii c h = grind (arith, nat_tests)

pub cut_spaces : (text : List ℕ) (n : ℕ) → n ≡ w.spaces text → Cuts text n
cut_spaces = cut_prefix _ space_ascii

pub cut_digits : (text : List ℕ) (n : ℕ) → n ≡ prefix_len w.is_digit text → Cuts text n
cut_digits = cut_prefix _ digit_ascii

pub cut_names : (text : List ℕ) (n : ℕ) → n ≡ prefix_len w.is_name_byte text → Cuts text n
cut_names = cut_prefix _ name_ascii

pub cut_hex : (text : List ℕ) (n : ℕ) → n ≡ prefix_len w.is_hex_digit text → Cuts text n
cut_hex = cut_prefix _ hex_ascii

pub cut_signs : (text : List ℕ) (n : ℕ) → n ≡ prefix_len (λ c. c == w.number_sign) text → Cuts text n
cut_signs = cut_prefix _ sign_ascii

-- one byte that the text begins with
pub cut_begun : (text : List ℕ) (b : ℕ) → b < 128 → w.begins_with b text ≡ true → Cuts text 1
cut_begun [] b h e = absurd cc
cut_begun (c ∷ cs) b h e = cut_by_ascii (c ∷ cs) 1 (omega arith) (λ _. grind (arith, nat_tests))

pub prefix_within : (p : ℕ → Bool) (text : List ℕ) → prefix_len p text ≤ length text
prefix_within = prefix_len-le-length

pub ruleset cuts = (prefix_within, cut_none, cut_end, cut_spaces, cut_digits, cut_names, cut_hex, cut_signs, cut_by_ascii, cut_before_ascii, cut_begun)

-- the place before an end of the text
pub place_of_tail : (text rest : List ℕ) → rest ≡ drop (length text - length rest) text → IsUtf8 rest → IsCharBoundary text (length text - length rest)
place_of_tail text rest e u = IsCharBoundary-from_drop text (length text - length rest) (omega arith) (subst IsUtf8 e u)
