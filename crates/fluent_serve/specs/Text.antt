-- Texts as lists of bytes, and where they are cut.
use Rattle.std.specs.Prelude.{ℕ, Bool, ◌==◌, if◌then◌else◌, List, length, Option, Some, None}
use Rattle.std.specs.List.{position_or_len, before_first, after_first}

abbrev pub Text : Type 0
Text = List ℕ

abbrev pub tab : ℕ
tab = 9

abbrev pub line_feed : ℕ
line_feed = 10

abbrev pub space : ℕ
space = 32

abbrev pub dollar : ℕ
dollar = 36

abbrev pub hyphen : ℕ
hyphen = 45

abbrev pub dot : ℕ
dot = 46

abbrev pub equals : ℕ
equals = 61

abbrev pub underscore : ℕ
underscore = 95

abbrev pub open_brace : ℕ
open_brace = 123

abbrev pub close_brace : ℕ
close_brace = 125

-- what stands before the first such byte and, if there is one, what is after it
abbrev pub cut_at : ℕ → Text → Text × Option Text
cut_at separator s =
    let is_separator : ℕ → Bool = λ b. b == separator in
    if position_or_len is_separator s == length s then (s, None)
    else (before_first is_separator s, Some (after_first is_separator s))
