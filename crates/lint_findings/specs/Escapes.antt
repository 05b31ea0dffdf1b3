-- The escapes of a string literal that stand for no character.
use Rattle.std.specs.Prelude.{ℕ, ◌==◌, Bool, ◌&&◌, not, if◌then◌else◌, List, [], ◌∷◌, ◌++◌, take}
use Rattle.fluent_grammar.specs.Words.{Text, backslash, small_u, capital_u, hex_digits}
use Rattle.fluent_grammar.specs.Tree as t
use Rattle.fluent_grammar.specs.Tree.{Inline, Nameds}
use Rattle.fluent_grammar.specs.Escapes.{is_scalar, hex_number}

-- Whether this many hex digits stand at the front and write the number of a surrogate, or one above U+10FFFF.
abbrev pub is_no_character : ℕ → Text → Bool
is_no_character count s = hex_digits count s && not (is_scalar (hex_number 0 (take count s)))

-- an escape of this many hex digits, after its letter, if it stands for no character
abbrev pub invalid_digits : ℕ → ℕ → Text → List Text
invalid_digits count letter s = if is_no_character count s then (backslash ∷ letter ∷ take count s) ∷ [] else []

-- the escape with this byte after its backslash, if it stands for no character
abbrev pub invalid_escape : ℕ → Text → List Text
invalid_escape c s = if c == small_u then invalid_digits 4 c s else if c == capital_u then invalid_digits 6 c s else []

-- Those of a raw text. A backslash and the byte after it are one escape, or its beginning.
abbrev pub invalid_escapes : Text → List Text
invalid_escapes [] = []
invalid_escapes (c ∷ []) = []
invalid_escapes (c ∷ d ∷ ds) = if c == backslash then invalid_escape d ds ++ invalid_escapes ds else invalid_escapes (d ∷ ds)

-- those of the string literals of named arguments
abbrev pub literal_escapes : Inline → List Text
literal_escapes (t.string_literal raw) = invalid_escapes raw
literal_escapes _ = []

abbrev pub named_escapes : Nameds → List Text
named_escapes t.no_nameds = []
named_escapes (t.named name e ns) = literal_escapes e ++ named_escapes ns
