-- Words that stand twice, from space to space.
use Rattle.std.proofs.Common.{◌≡◌, ◌∙◌, ℕ, true, false, ◌&&◌, if◌then◌else◌, [], ◌∷◌, drop, Some, None, ap}
use Rattle.memchr.specs.Find.{IsFirstByte, is_byte}
use Rattle.fluent_grammar.specs.Words.{Text, begins_with, space}
use Rattle.lint_findings.specs.Doubled.{doubled_later, is_doubled}
use Rattle.lint_markup.proofs.Signs.{PassesOver, next_found, none_found}

passes : PassesOver (is_byte 32) doubled_later
passes c s h = ap (λ b. if b && is_doubled s then Some s else doubled_later s) h

pub from_space : (s : Text) (k : ℕ) → IsFirstByte (is_byte 32) s (Some k) → doubled_later s ≡ doubled_later (drop k s)
from_space = next_found (is_byte 32) doubled_later passes

pub no_space : (s : Text) → IsFirstByte (is_byte 32) s None → doubled_later s ≡ None
no_space = none_found (is_byte 32) doubled_later passes

after_space : (s : Text) → begins_with space s ≡ true → doubled_later s ≡ (if is_doubled (drop 1 s) then Some (drop 1 s) else doubled_later (drop 1 s))
after_space [] h = absurd cc
after_space (c ∷ s) h = ap (λ b. if b && is_doubled s then Some s else doubled_later s) h

pub space_passed : (s : Text) → begins_with space s ≡ true → is_doubled (drop 1 s) ≡ false → doubled_later s ≡ doubled_later (drop 1 s)
space_passed s h none = after_space s h ∙ ap (λ b. if b then Some (drop 1 s) else doubled_later (drop 1 s)) none

pub found_there : (s : Text) → begins_with space s ≡ true → is_doubled (drop 1 s) ≡ true → doubled_later s ≡ Some (drop 1 s)
found_there s h there = after_space s h ∙ ap (λ b. if b then Some (drop 1 s) else doubled_later (drop 1 s)) there
