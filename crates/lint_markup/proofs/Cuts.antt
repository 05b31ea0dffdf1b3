-- Where a text may be cut.
use Rattle.std.proofs.Common.{◌≡◌, ℕ, ◌+◌, ◌-◌, ◌<◌, Bool, true, false, if◌then◌else◌, List, Some, refl, eqb-true, arith}
use Rattle.std.specs.Prelude.{◌==◌}
use Rattle.std.specs.List.{prefix_len}
use Rattle.std.proofs.lemmas.Bool.Decides.{nat_tests}
use Rattle.std.proofs.lemmas.List.Sums.{prefix_len-le-length, prefix_len_passes}
use Rattle.memchr.specs.Find.{IsFirstByte}
use Rattle.fluent_grammar.specs.Words.{Text, begins, is_letter}
use Rattle.fluent_tokens.specs.Counted.{Cuts}
use Rattle.fluent_tokens.proofs.Counted.{cut_by_ascii, cut_none}
use Rattle.lint_findings.specs.Styles as s
use Rattle.lint_findings.specs.Tags as t

pub cut_prefix : (p : ℕ → Bool) → ((c : ℕ) → p c ≡ true → c < 128) → (text : List ℕ) (n : ℕ) → n ≡ prefix_len p text → Cuts text n
cut_prefix p ascii text n e = rw e (cut_by_ascii text (prefix_len p text) (prefix_len-le-length p text)
    (λ h. ascii _ (prefix_len_passes p text (prefix_len p text - 1) 0 (omega arith))))

blank_ascii : (c : ℕ) → t.is_blank_byte c ≡ true → c < 128
blank_ascii c h = grind (arith, nat_tests)

element_ascii : (c : ℕ) → t.is_element_byte c ≡ true → c < 128
element_ascii c h = grind (arith, nat_tests)

number_ascii : (c : ℕ) → s.is_number_byte c ≡ true → c < 128
number_ascii c h = grind (arith, nat_tests)

unit_ascii : (c : ℕ) → s.is_unit_byte c ≡ true → c < 128
unit_ascii c h = grind (arith, nat_tests)

pub cut_blanks : (text : List ℕ) (n : ℕ) → n ≡ prefix_len t.is_blank_byte text → Cuts text n
cut_blanks = cut_prefix _ blank_ascii

pub cut_element : (text : List ℕ) (n : ℕ) → n ≡ prefix_len t.is_element_byte text → Cuts text n
cut_element = cut_prefix _ element_ascii

pub cut_number : (text : List ℕ) (n : ℕ) → n ≡ prefix_len s.is_number_byte text → Cuts text n
cut_number = cut_prefix _ number_ascii

pub cut_unit : (text : List ℕ) (n : ℕ) → n ≡ prefix_len s.is_unit_byte text → Cuts text n
cut_unit = cut_prefix _ unit_ascii

name_cut : (text : List ℕ) (b : Bool) → Cuts text (if b then prefix_len t.is_element_byte text else 0)
name_cut text true = cut_element text (prefix_len t.is_element_byte text) refl
name_cut text false = cut_none text 0 refl

pub cut_name : (text : List ℕ) (n : ℕ) → n ≡ t.element_len text → Cuts text n
cut_name text n e = rw e (name_cut text (begins is_letter text))

pub ruleset cuts = (cut_blanks, cut_element, cut_number, cut_unit, cut_name)

-- after the first byte of a kind
pub cut_past : (p : ℕ → Bool) → ((c : ℕ) → p c ≡ true → c < 128) → (s : Text) (n : ℕ) → IsFirstByte p s (Some n) → Cuts s (n + 1)
cut_past p ascii s n found =
    let last : n + 1 - 1 ≡ n = omega arith in
    cut_by_ascii s (n + 1) (omega (arith, found.0.high)) (λ _. rw last (ascii _ found.1))

pub cut_past_blank : (s : Text) (n : ℕ) → IsFirstByte t.is_blank_byte s (Some n) → Cuts s (n + 1)
cut_past_blank = cut_past _ blank_ascii

pub cut_past_sign : (b : ℕ) → b < 128 → (s : Text) (n : ℕ) → IsFirstByte (λ c. c == b) s (Some n) → Cuts s (n + 1)
cut_past_sign b ascii = cut_past _ (λ c (h : (c == b) ≡ true). omega (arith, eqb-true c b h, ascii))
