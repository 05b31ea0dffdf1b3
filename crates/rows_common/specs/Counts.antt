-- What trials are counted as.
use Rattle.std.specs.Prelude.{ℕ, ◌+◌, Bool, if◌then◌else◌}

-- the count of wrong trials after one more
abbrev pub wrong_after : Bool → ℕ → ℕ
wrong_after is_right wrong = if is_right then wrong else wrong + 1
