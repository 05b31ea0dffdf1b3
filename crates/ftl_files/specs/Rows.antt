-- The lines of files that aren't UTF-8.
use Rattle.std.specs.Prelude.{◌≡◌, ◌⊎◌, ℕ, suc, ◌==◌, ◌++◌, IsUtf8, [], Option, String, codes, decimal, string_bytes, take}
use Rattle.std.specs.Global.{Global}
use Rattle.std.specs.Option.{option_map_or}
use Rattle.std.specs.List.{count_by}
use Rattle.std.specs.Str.Lossy.{utf8_valid_len}
use Rattle.fluent_serve.specs.Text.{Text, line_feed}

-- the number of the line on which a text ends, from 1
abbrev pub last_row : Text → ℕ
last_row text = suc (count_by (λ b. b == line_feed) text)

-- that of the first byte that isn't UTF-8
abbrev pub bad_row : Text → ℕ
bad_row bytes = last_row (take (utf8_valid_len bytes) bytes)

-- The line of a file that isn't UTF-8: where its first byte is that isn't.
abbrev pub bad_line : Text → Text → Text
bad_line name bytes = codes "ftl: " ++ (name ++ (codes ":" ++ (decimal (bad_row bytes) ++ codes ": a byte that isn't UTF-8\n")))

-- A file is noted by its line if it isn't UTF-8. If memory runs out, nothing is.
abbrev pub IsNoted : Text → Text → Text → Text → Type 0
IsNoted name bytes old new = (new ≡ old) ⊎ ((IsUtf8 bytes → ⊥) × (new ≡ old ++ bad_line name bytes))

-- the lines of those that are noted, if any are
abbrev pub noted : Option (String Global) → Text
noted lines = option_map_or string_bytes lines []
