-- The names that are one slip of the keyboard away from a name.
use Rattle.std.specs.Prelude.{ℕ, Bool, ◌&&◌, nat_lt, if◌then◌else◌, List, [], ◌∷◌, ◌++◌, length, map, Option, None, option_map, codes}
use Rattle.std.specs.Char.{is_ascii}
use Rattle.std.specs.List.{find, list_all}
use Rattle.fluent_grammar.specs.Words.{Text}
use Rattle.lint_findings.specs.SyntaxErrors.{in_backticks}

-- the bytes of identifiers, small letters first
unfoldable pub name_bytes : Text
name_bytes = codes "abcdefghijklmnopqrstuvwxyzABCDEFGHIJKLMNOPQRSTUVWXYZ0123456789_-"

-- these texts, each after a byte
abbrev pub after_byte : ℕ → List Text → List Text
after_byte x texts = map (λ s. x ∷ s) texts

-- a text after each of the bytes of identifiers
abbrev pub after_any_byte : Text → List Text
after_any_byte s = map (λ x. x ∷ s) name_bytes

-- ---- the slips, each from the front of the name on

-- two neighbouring bytes swapped
abbrev pub swaps : Text → List Text
swaps [] = []
swaps (x ∷ []) = []
swaps (x ∷ y ∷ s) = (y ∷ x ∷ s) ∷ after_byte x (swaps (y ∷ s))

-- one byte left out
abbrev pub omissions : Text → List Text
omissions [] = []
omissions (x ∷ s) = s ∷ after_byte x (omissions s)

-- one byte replaced by another
abbrev pub replacements : Text → List Text
replacements [] = []
replacements (x ∷ s) = after_any_byte s ++ after_byte x (replacements s)

-- one byte added
abbrev pub additions : Text → List Text
additions [] = after_any_byte []
additions (x ∷ s) = after_any_byte (x ∷ s) ++ after_byte x (additions s)

-- ---- near names

abbrev pub near_names : Text → List Text
near_names s = swaps s ++ (omissions s ++ (replacements s ++ additions s))

-- Near names are looked up for a name of 3 to 64 bytes, all ASCII. A shorter one is near too many others.
abbrev pub may_be_slip : Text → Bool
may_be_slip s = nat_lt 2 (length s) && (nat_lt (length s) 65 && list_all is_ascii s)

-- the first near name of a name that is known
unfoldable pub nearest : (Text → Bool) → Text → Option Text
nearest is_known s = if may_be_slip s then find is_known (near_names s) else None

-- that a name may be meant, which is written with this sign before it
abbrev pub near_text : Text → Text → Text
near_text sign name = codes "did you mean " ++ (in_backticks (sign ++ name) ++ codes "?")

-- what may be meant: the nearest name after its sign, if there is one
abbrev pub nearest_hint : Text → (Text → Bool) → Text → Option Text
nearest_hint sign is_known s = option_map (near_text sign) (nearest is_known s)
