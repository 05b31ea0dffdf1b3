-- Integers from decimals, and decimals from integers.
use Rattle.std.specs.Prelude.{ℕ, ◌-◌, ◌^◌, ℤ, pos, neg_ℤ, ◌*ℤ◌, int_div, unsigned_abs}
use Rattle.std.specs.Int.{int_min, int_max}
use Rattle.fluent_number.specs.Decimal.{units_per_one}

-- the decimal that an integer is
abbrev pub from_integer : ℤ → ℤ
from_integer n = n *ℤ pos units_per_one

-- the integer that is left of a decimal if what is after the point is dropped
abbrev pub truncated : ℤ → ℤ
truncated value = int_div value (pos units_per_one)

-- the integer from low to high that is nearest to the truncated decimal
abbrev pub integer_within : ℤ → ℤ → ℤ → ℤ
integer_within low high value = int_max low (int_min (truncated value) high)

-- what a signed type of this many bits gets
abbrev pub signed_of : ℕ → ℤ → ℤ
signed_of bits value = integer_within (neg_ℤ (pos (2 ^ (bits - 1)))) (pos (2 ^ (bits - 1) - 1)) value

-- what an unsigned type of this many bits gets
abbrev pub unsigned_of : ℕ → ℤ → ℕ
unsigned_of bits value = unsigned_abs (integer_within (pos 0) (pos (2 ^ bits - 1)) value)
