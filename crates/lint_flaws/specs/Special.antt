-- Bytes without which nothing is said of the characters of a text.
use Rattle.std.specs.Prelude.{ℕ, ◌==◌, nat_lt, Bool, false, not, ◌&&◌, ◌||◌, List, [], ◌∷◌}
use Rattle.fluent_grammar.specs.Words.{Text, is_between}
use Rattle.lint_findings.specs.Letters.{closes, is_control_byte, is_later_control, is_lost, is_mark, is_word_joiner, is_zero_width_space, opens}

-- no character of which something may be said begins with this byte
abbrev pub is_plain : ℕ → Bool
is_plain c = not (nat_lt c 32 || (c == 127 || (c == 0xC2 || (c == 0xE2 || c == 0xEF))))

-- something may be said of the character at the front
abbrev pub is_special : Text → Bool
is_special s =
    is_later_control s || (is_control_byte s || (is_lost s || (is_zero_width_space s || (is_word_joiner s || (is_mark s || (opens s || closes s))))))

-- of one in a text
abbrev pub has_special : Text → Bool
has_special [] = false
has_special (c ∷ s) = (not (is_plain c) && is_special (c ∷ s)) || has_special s

-- a letter of Greek or Cyrillic begins with such a byte
abbrev pub begins_other : ℕ → Bool
begins_other c = is_between 0xCD 0xD4 c
