-- What the calls of a device say of its failures.
use Rattle.std.specs.Prelude.{◌⊎◌, ℕ, ◌+◌, ◌-◌, ◌^◌, ◌<◌, ◌≤◌, min, ◌==◌, nat_lt, ◌&&◌, if◌then◌else◌, Result, Ok, Err, List, length}

-- the greatest count: once there, it stays there
abbrev pub greatest_count : ℕ
greatest_count = 2 ^ 64 - 1

abbrev pub one_more : ℕ → ℕ
one_more n = min (n + 1) greatest_count

-- the count of failures after a call of `read`
abbrev pub failures_after_read : {E : Type 0} → ℕ → Result ℕ E → ℕ
failures_after_read old (Ok n) = old
failures_after_read old (Err e) = one_more old

-- the count of bytes that were given, after a call of `read`
abbrev pub given_after_read : {E : Type 0} → ℕ → Result ℕ E → ℕ
given_after_read old (Ok n) = min (old + n) greatest_count
given_after_read old (Err e) = old

-- the count of failures after a call of `write` with these bytes: to take none of them is a failure too
abbrev pub failures_after_write : {E : Type 0} → ℕ → List ℕ → Result ℕ E → ℕ
failures_after_write old bytes (Ok n) = if n == 0 && nat_lt 0 (length bytes) then one_more old else old
failures_after_write old bytes (Err e) = one_more old

-- a call failed between the two counts, as far as counts can show
abbrev pub HasFailed : ℕ → ℕ → Type 0
HasFailed old new = (old < new) ⊎ (greatest_count ≤ old)

-- at least this many bytes were given between the two counts, as far as counts can show
abbrev pub HasGiven : ℕ → ℕ → ℕ → Type 0
HasGiven old new bytes = min (old + bytes) greatest_count ≤ new

-- Why a reader is given up: a call failed, or it gave at least this many bytes without an end.
abbrev pub IsGivenUp : (failures_before failures_after given_before given_after bound : ℕ) → Type 0
IsGivenUp failures_before failures_after given_before given_after bound =
    HasFailed failures_before failures_after ⊎ HasGiven given_before given_after bound
