-- Worked rows: positions and lines.
use Rattle.std.specs.Prelude.{◌≡◌, ℕ, ◌∷◌, codes}
use Rattle.std.proofs.Common.{refl}
use Rattle.fluent_grammar.specs.Words.{Text}
use Rattle.lint_findings.specs.Position.{Position, position_of, line_at}

at : ℕ → ℕ → Position
at line column = record { line = line; column = column }

broken : Text
broken = codes "key1=Value 1\ng@Rb@ge\nkey2 = x\n"

after_the_first_letter : position_of broken 14 ≡ at 2 2
unfolding broken at
after_the_first_letter = refl

characters_count_and_bytes_do_not : position_of (195 ∷ 169 ∷ codes " = { x\n") 7 ≡ at 1 7
unfolding at
characters_count_and_bytes_do_not = refl

the_end_of_the_text : position_of (codes "a = {") 5 ≡ at 1 6
unfolding at
the_end_of_the_text = refl

after_the_last_line_feed : position_of (codes "a\n") 2 ≡ at 2 1
unfolding at
after_the_last_line_feed = refl

the_line : line_at broken 14 ≡ codes "g@Rb@ge"
unfolding broken
the_line = refl

the_line_without_its_crlf : line_at (codes "a = b\r\nc = d\r\n") 8 ≡ codes "c = d"
the_line_without_its_crlf = refl
