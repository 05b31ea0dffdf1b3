-- Numbers in a locale's digits.
use Rattle.std.specs.Prelude.{ℕ, ◌-◌, List, [], ◌∷◌, ◌++◌, encode_utf8, slice_index_or, replicate, length, decimal}
use Rattle.fluent_date_tables.specs.Tables.{Text}

-- a digit, an ASCII byte, as the locale writes it
abbrev pub native : List ℕ → ℕ → Text
native digits c = encode_utf8 (slice_index_or digits (c - 48) 48)

abbrev pub natives : List ℕ → Text → Text
natives digits [] = []
natives digits (c ∷ cs) = native digits c ++ natives digits cs

-- a number with zeros before it up to a least count of digits
abbrev pub number : List ℕ → ℕ → ℕ → Text
number digits value least = natives digits (replicate (least - length (decimal value)) 48) ++ natives digits (decimal value)
