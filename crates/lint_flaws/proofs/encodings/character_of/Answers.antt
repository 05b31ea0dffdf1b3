use Rattle.std.proofs.Common.{◌≡◌, ◌∙◌, true, Option, ℕ, ◌∷◌, sym, ap, subst}
use Rattle.std.specs.Char.{encode_utf8}
use Rattle.lint_flaws.specs.Letters.{is_character, last_byte}
use Rattle.lint_flaws.proofs.Spelled.{made_below, two_bytes, three_bytes}
use Rattle.lint_flaws.proofs.encodings.character_of.Goals as goal
use Rattle.lint_flaws.proofs.encodings.character_of.Goals.{in-None, in-Some}

pub returns : goal.returns
returns c =
    let a = c.args.spelled.first in
    let b = c.args.spelled.second in
    let n = c.match-spelled.number in
    elim c.match-spelled.branch [
      | in-None w ↦
          let bytes = two_bytes a b (subst (λ (o : Option ℕ). is_character (a ∷ b ∷ last_byte o) ≡ true) w.in-None.is c.requires) in
          let made = made_below n c.from_u32.result c.from_u32.ensures.cases c.from_u32.ensures.value (rw w.number-is bytes.0) in
          ap encode_utf8 (c.unwrap_or.ensures ∙ made ∙ w.number-is) ∙ bytes.1 ∙ ap (λ (o : Option ℕ). a ∷ b ∷ last_byte o) (sym w.in-None.is)
      | in-Some w ↦
          let third = w.in-Some.third in
          let bytes = three_bytes a b third (subst (λ (o : Option ℕ). is_character (a ∷ b ∷ last_byte o) ≡ true) w.in-Some.is c.requires) in
          let made = made_below n c.from_u32.result c.from_u32.ensures.cases c.from_u32.ensures.value (rw w.number-is bytes.0) in
          ap encode_utf8 (c.unwrap_or.ensures ∙ made ∙ w.number-is) ∙ bytes.1 ∙ ap (λ (o : Option ℕ). a ∷ b ∷ last_byte o) (sym w.in-Some.is)
    ]
