-- Decimal digits as ASCII bytes, and what they are worth.
use Rattle.std.specs.Prelude.{ℕ, zero, suc, ◌+◌, ◌-◌, ◌*◌, ◌/◌, ◌%◌, ◌^◌, ◌==◌, List, [], ◌∷◌, ◌++◌, length, take}
use Rattle.std.specs.List.{suffix_len}

-- a text by its bytes
abbrev pub Text : Type 0
Text = List ℕ

-- the number that digits write: each one counts the power of ten of its place
abbrev pub digits_worth : Text → ℕ
digits_worth [] = 0
digits_worth (c ∷ cs) = (c - 48) * 10 ^ length cs + digits_worth cs

-- the last k digits of a number, with zeros at the front if it has fewer
unfoldable pub last_digits : ℕ → ℕ → Text
last_digits zero n = []
last_digits (suc k) n = last_digits k (n / 10) ++ (48 + n % 10) ∷ []

-- digits up to the last one that isn't 0
abbrev pub without_end_zeros : Text → Text
without_end_zeros digits = take (length digits - suffix_len (λ c. c == 48) digits) digits
