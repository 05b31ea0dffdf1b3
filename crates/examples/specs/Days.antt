-- Days as messages see them.
use Rattle.std.specs.Prelude.{ℕ, List, [], ◌∷◌, codes, if◌then◌else◌, ◌==◌}
use Rattle.fluent_value.specs.Value.{Value, text, number, custom, none, error}

-- the name of a day of that number
abbrev pub name_of : ℕ → List ℕ
name_of day = if day == 7 then codes "Sunday" else if day == 6 then codes "Saturday" else codes "a weekday"

-- whether a shop is open: `yes` or `no` for a day, and an error for any other value
abbrev pub is_open : List (Value ℕ) → Value ℕ
is_open [] = error
is_open (text s ∷ vs) = error
is_open (number n ∷ vs) = error
is_open (custom day ∷ vs) = text (if day == 7 then codes "no" else codes "yes")
is_open (none ∷ vs) = error
is_open (error ∷ vs) = error
