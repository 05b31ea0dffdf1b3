-- What a decimal is: a whole number of units of 10 ^ -18, with a sign. So it is an integer, and zero has no sign.
use Rattle.std.specs.Prelude.{ℕ, ◌/◌, ◌%◌, ◌^◌, ℤ, pos, negsuc, neg_ℤ, unsigned_abs, Bool, true, false, if◌then◌else◌}

-- how many units make one
abbrev pub units_per_one : ℕ
units_per_one = 10 ^ 18

-- this many units with that sign
abbrev pub signed : Bool → ℕ → ℤ
signed negative units = if negative then neg_ℤ (pos units) else pos units

abbrev pub is_below_zero : ℤ → Bool
is_below_zero (pos n) = false
is_below_zero (negsuc n) = true

-- what stands before the point, without the sign
abbrev pub whole_of : ℤ → ℕ
whole_of value = unsigned_abs value / units_per_one

-- what is after the point, in units
abbrev pub fraction_of : ℤ → ℕ
fraction_of value = unsigned_abs value % units_per_one
