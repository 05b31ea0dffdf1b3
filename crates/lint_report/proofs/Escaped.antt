-- A character in a part of a command.
use Rattle.std.proofs.Common.{◌≡◌, ◌∙◌, ℕ, suc, ◌<◌, ◌≤◌, [], ◌∷◌, length, get_or, refl, sym, ap, append-nil, arith, inl, inr}
use Rattle.std.specs.Prelude.{encode_utf8}
use Rattle.std.specs.List.{flat_map}
use Rattle.std.proofs.lemmas.Bool.{ne_eqb, cases_lt}
use Rattle.std.proofs.lemmas.Str.{encode_ascii, inside_one}
use Rattle.fluent_grammar.specs.Words.{Text}
use Rattle.lint_report.specs.declared.commands.Part.{Part}
use Rattle.lint_report.specs.declared.commands.Part.TheVariants.{Property, Message}
use Rattle.lint_report.specs.Parts.{part_byte}

pub escaped_ascii : (part : Part) (c : ℕ) → c < 128 → flat_map (part_byte part) (encode_utf8 c) ≡ part_byte part c
escaped_ascii part c ascii = ap (flat_map (part_byte part)) (encode_ascii c ascii) ∙ append-nil (part_byte part c)

-- a byte of a character that isn't ASCII is written as it is
plain_byte : (part : Part) (b : ℕ) → 128 ≤ b → part_byte part b ≡ b ∷ []
plain_byte Property b high =
    rw (ne_eqb b 58 (λ e. omega arith), ne_eqb b 44 (λ e. omega arith), ne_eqb b 37 (λ e. omega arith), ne_eqb b 13 (λ e. omega arith), ne_eqb b 10 (λ e. omega arith)) refl
plain_byte Message b high =
    rw (ne_eqb b 37 (λ e. omega arith), ne_eqb b 13 (λ e. omega arith), ne_eqb b 10 (λ e. omega arith)) refl

plain_bytes : (f : ℕ → Text) (bs : Text) → ((k : ℕ) → k < length bs → f (get_or bs k 0) ≡ get_or bs k 0 ∷ []) → flat_map f bs ≡ bs
plain_bytes f [] plain = refl
plain_bytes f (b ∷ bs) plain =
    let rest : flat_map f bs ≡ bs = plain_bytes f bs (λ k within. plain (suc k) (omega arith)) in
    let first : f b ≡ b ∷ [] = plain 0 (omega arith) in
    rw (first, rest) refl

pub plain_character : (part : Part) (c : ℕ) → part_byte part c ≡ c ∷ [] → flat_map (part_byte part) (encode_utf8 c) ≡ encode_utf8 c
plain_character part c plain =
    elim (cases_lt c 128) [
      | inl ascii ↦ escaped_ascii part c ascii ∙ plain ∙ sym (encode_ascii c ascii)
      | inr high ↦ plain_bytes (part_byte part) (encode_utf8 c) (λ k within.
          elim (cases_lt (get_or (encode_utf8 c) k 0) 128) [
            | inl low ↦ absurd (omega (arith, inside_one c [] (encode_utf8 c) k (sym (append-nil (encode_utf8 c))) within low))
            | inr high_byte ↦ plain_byte part (get_or (encode_utf8 c) k 0) high_byte
          ])
    ]
