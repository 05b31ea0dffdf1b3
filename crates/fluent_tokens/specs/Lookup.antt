-- Places in the lines of a text.
use Rattle.std.specs.Prelude.{◌≡◌, ℕ, ◌+◌, ◌-◌, Bool, true, false, not, if◌then◌else◌, ◌&&◌, ◌||◌, ◌==◌, List, [], ◌∷◌, map, length, take, drop, Option, Some, None, Ok}
use Rattle.std.specs.Int.{from_bool}
use Rattle.fluent_grammar.specs.Words.{Text, line_feed, number_sign, begins, begins_with, rest_of_line}
use Rattle.fluent_grammar.specs.Lines.{ends_line, pattern_ends}
use Rattle.fluent_grammar.specs.Tiling.{at_column_zero}
use Rattle.fluent_tokens.specs.Counted.{IsText, starts_text, is_plain}
use Rattle.fluent_tokens.specs.declared.row.Row.{Row}
use Rattle.fluent_tokens.specs.Table.{line_at, later_lines, row_view}

-- this many bytes, with the line feed after them, if there is one
abbrev pub with_line_feed : ℕ → Text → ℕ
with_line_feed count s = count + from_bool (begins_with line_feed (drop count s))

-- What the row of the line that holds a place, and the rows after it, say of what stands at the place.
pub record Holds (text : Text) (row : Row) (later : List Row) (place : ℕ) : Type 0 where
  pub end : row.end - place ≡ length (rest_of_line (drop place text)).0
  pub plain : row.is_plain ≡ true → is_plain (take (row.end - place) (drop place text)) ≡ true
  pub first : at_column_zero text (drop place text) ≡ true → row_view row ≡ line_at place (drop place text)
  pub behind : map row_view later ≡ later_lines place (drop place text)

-- whether a line feed stands here, after which the pattern ends
abbrev pub is_last_feed : Text → Bool
is_last_feed s = begins_with line_feed s && pattern_ends (drop 1 s)

-- A text that is all of a pattern: this many bytes of one line with its line feed, after which the pattern ends.
abbrev pub IsOneLine : Text → Option ℕ → Type 0
IsOneLine s None = Unit {0}
IsOneLine s (Some count) =
    (begins starts_text s ≡ true) × IsText s (Ok count) × (ends_line (take count s) ≡ true)
    × ((pattern_ends (drop count s) || is_last_feed (drop count s)) ≡ true)

-- whether one byte stands between a line and the next, which is its line feed
abbrev pub feeds_into : Row → Row → Bool
feeds_into row next = next.start - row.end == 1

-- The same by rows: whether a pattern ends after the line feed of a line, or after one more.
abbrev pub is_last_line : Row → List Row → Bool
is_last_line row [] = false
is_last_line row (next ∷ []) = feeds_into row next && next.ends_pattern
is_last_line row (next ∷ third ∷ rows) =
    feeds_into row next && (next.ends_pattern || (next.end == next.start && (feeds_into next third && third.ends_pattern)))

-- Whether a line feed stands at a place of a line, after which a pattern ends.
abbrev pub feeds_last : Row → List Row → ℕ → Bool
feeds_last row [] place = false
feeds_last row (next ∷ rows) place = row.end - place == 0 && (next.start - place == 1 && next.ends_pattern)

-- What follows the rest of a line and the lines after it that begin with `#`: the first place, from here on, that is at column 0
-- and holds another byte; otherwise the end of the text.
abbrev pub past_comments : Bool → Text → Text
past_comments column_zero [] = []
past_comments column_zero (c ∷ cs) = if column_zero && not (c == number_sign) then c ∷ cs else past_comments (c == line_feed) cs
