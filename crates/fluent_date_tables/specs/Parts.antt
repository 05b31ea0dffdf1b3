-- Texts that have `|` between their parts.
use Rattle.std.specs.Prelude.{ℕ, zero, suc, ◌==◌, if◌then◌else◌, List, [], ◌∷◌, Option, Some, None}
use Rattle.std.specs.Borrow.{Bor}
use Rattle.fluent_date_tables.specs.Tables.{Text}

-- what is before the first `|`, and what is after it
abbrev pub before : Text → Text
before [] = []
before (c ∷ cs) = if c == 124 then [] else c ∷ before cs

abbrev pub after : Text → Text
after [] = []
after (c ∷ cs) = if c == 124 then cs else after cs

-- what is after it, as the code finds it
abbrev pub after_found : Option (Bor Text) → Text
after_found None = []
after_found (Some text) = text.now

-- what is left of a text without this number of its parts
abbrev pub skipped : Text → ℕ → Text
skipped text zero = text
skipped text (suc number) = skipped (after text) number

-- the part of this number, the empty text if there is none
abbrev pub part : Text → ℕ → Text
part text zero = before text
part text (suc number) = part (after text) number
