-- The line and the column of an offset in a source, and the line that it is on.
use Rattle.std.specs.Prelude.{ℕ, zero, suc, ◌==◌, if◌then◌else◌, [], ◌∷◌, take, Option, Some, None}
use Rattle.fluent_grammar.specs.Words.{Text, line_feed, after_line_end}
use Rattle.fluent_grammar.specs.Escapes.{is_continuation}

-- A line and a column, both from 1. A column counts characters.
pub record Position : Type 0 where
  pub line : ℕ
  pub column : ℕ

-- The position after a text that begins at this one. A line feed ends a line. Only the first byte of a character
-- counts.
abbrev pub position_after : Position → Text → Position
position_after p [] = p
position_after p (c ∷ cs) =
    if c == line_feed then position_after (record { line = suc p.line; column = 1 }) cs
    else if is_continuation c then position_after p cs
    else position_after (record { line = p.line; column = suc p.column }) cs

abbrev pub first_position : Position
first_position = record { line = 1; column = 1 }

-- the position of an offset
abbrev pub position_of : Text → ℕ → Position
position_of source offset = position_after first_position (take offset source)

-- The text from the start of the line on that the end of the first n bytes is on. `line` is the text from the start
-- of the current line on.
abbrev pub line_from : Text → ℕ → Text → Text
line_from line n [] = line
line_from line zero (c ∷ cs) = line
line_from line (suc n) (c ∷ cs) = if c == line_feed then line_from cs n cs else line_from line n cs

abbrev pub stop_at_end : Text → Option Text → Text
stop_at_end more None = more
stop_at_end more (Some rest) = []

-- the text up to its first line end
abbrev pub to_line_end : Text → Text
to_line_end [] = []
to_line_end (c ∷ cs) = stop_at_end (c ∷ to_line_end cs) (after_line_end (c ∷ cs))

-- the line that an offset is on, without its line end
abbrev pub line_at : Text → ℕ → Text
line_at source offset = to_line_end (line_from source offset source)
