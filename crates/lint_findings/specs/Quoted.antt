-- A placeable that is written inside of a string literal, where nothing is filled in.
use Rattle.std.specs.Prelude.{ℕ, ◌-◌, ◌==◌, Bool, not, ◌&&◌, if◌then◌else◌, [], ◌∷◌, ◌++◌, drop, take, length, Option, Some, None, option_map}
use Rattle.std.specs.Option.{option_or}
use Rattle.fluent_grammar.specs.Words.{Text, dollar, hyphen, open_brace, close_brace, begins_with, name_len, skip_spaces}

-- the variable or the term that a placeable of a literal is, with its sign, and how many bytes of the literal stand
-- before its brace, with the quote
pub record Quoted : Type 0 where
  pub inside : ℕ
  pub reference : Text

-- Whether an identifier is at the front, and after it nothing but spaces and a brace that closes.
abbrev pub is_closed_name : Text → Bool
is_closed_name s = not (name_len s == 0) && begins_with close_brace (skip_spaces (drop (name_len s) s))

-- the identifier at the front after this sign, if it is closed
abbrev pub closed_name : Text → Text → Option Text
closed_name sign s = if is_closed_name s then Some (sign ++ take (name_len s) s) else None

-- the variable or the term at the front, if it is closed
abbrev pub closed_reference : Text → Option Text
closed_reference s =
    if begins_with dollar s then closed_name (dollar ∷ []) (drop 1 s)
    else if begins_with hyphen s then closed_name (hyphen ∷ []) (drop 1 s)
    else None

-- the variable or the term that the placeable at the front is, if it is one
abbrev pub reference_in_braces : Text → Option Text
reference_in_braces s = if begins_with open_brace s then closed_reference (skip_spaces (drop 1 s)) else None

abbrev pub quoted_at : ℕ → Text → Option Quoted
quoted_at n s = option_map (λ r. record { inside = n - length (drop 1 s); reference = r }) (reference_in_braces s)

-- the first in an end of a text that has this many bytes
abbrev pub quoted_in : ℕ → Text → Option Quoted
quoted_in n [] = None
quoted_in n (c ∷ cs) = option_or (quoted_at n (c ∷ cs)) (quoted_in n cs)

-- the first in a text
abbrev pub quoted : Text → Option Quoted
quoted raw = quoted_in (length raw) raw
