-- The lines of a text.
use Rattle.std.specs.Prelude.{ℕ, suc, ◌+◌, Bool, List, [], ◌∷◌, ◌==◌, length, take, if◌then◌else◌}
use Rattle.fluent_grammar.specs.Words.{Text, line_feed, number_sign, begins, begins_with, begins_entry, spaces, rest_of_line}
use Rattle.fluent_grammar.specs.Lines.{pattern_ends}
use Rattle.fluent_tokens.specs.Counted.{is_plain}
use Rattle.fluent_tokens.specs.declared.row.Row.{Row}

-- A line: where it begins, where it ends without its line end, how many spaces stand at its front, whether an entry can begin
-- here, whether a comment line does, whether a pattern ends before it, and whether it is plain: no brace stands in it.
pub record Line : Type 0 where
  pub start : ℕ
  pub end : ℕ
  pub spaces : ℕ
  pub begins_entry : Bool
  pub begins_comment : Bool
  pub ends_pattern : Bool
  pub is_plain : Bool

-- the line at the front of a text, of this many bytes, if the text begins at this offset
abbrev pub cut_line_at : ℕ → ℕ → Text → Line
cut_line_at at count s = record {
  start = at;
  end = at + count;
  spaces = spaces s;
  begins_entry = begins begins_entry s;
  begins_comment = begins_with number_sign s;
  ends_pattern = pattern_ends s;
  is_plain = is_plain (take count s);
}

-- the same, up to its line end
abbrev pub line_at : ℕ → Text → Line
line_at at s = cut_line_at at (length (rest_of_line s).0) s

-- the lines after the first one: one after each line feed
abbrev pub later_lines : ℕ → Text → List Line
later_lines at [] = []
later_lines at (c ∷ cs) = let more = later_lines (suc at) cs in if c == line_feed then line_at (suc at) cs ∷ more else more

-- all lines of a text
abbrev pub lines : Text → List Line
lines s = line_at 0 s ∷ later_lines 0 s

-- what a row says
abbrev pub row_view : Row → Line
row_view r = record {
  start = r.start;
  end = r.end;
  spaces = r.spaces;
  begins_entry = r.begins_entry;
  begins_comment = r.begins_comment;
  ends_pattern = r.ends_pattern;
  is_plain = r.is_plain;
}
