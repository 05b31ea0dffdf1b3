-- Counts that are worth a line.
use Rattle.std.specs.Prelude.{ℕ, nat_lt, Bool, false, Option, Some, None}
use Rattle.lint_findings.specs.Summary.{Summary}

abbrev pub is_some_number : Option ℕ → Bool
is_some_number None = false
is_some_number (Some n) = nat_lt 0 n

-- the catalog lacks some messages of the file
abbrev pub is_lacking : Summary → Bool
is_lacking s = is_some_number s.missing
