-- Pattern lines: pieces as they stand in the source, and the elements that they give.
use Rattle.std.specs.Prelude.{ℕ, ◌-◌, min, Bool, false, not, ◌&&◌, ◌||◌, ◌==◌, if◌then◌else◌, List, [], ◌∷◌, ◌++◌, length, replicate, Option, Some, None}
use Rattle.std.specs.List.{list_all}
use Rattle.std.specs.Str.{trim_end}
use Rattle.fluent_grammar.specs.Words.{Text, space, line_feed, carriage_return, dot, asterisk, open_bracket, open_brace, close_brace, begins, spaces, skip_spaces}
use Rattle.fluent_grammar.specs.Tree.{Elements, no_elements, text, placeable, Expression}

-- A piece of a pattern. A text at the start of a line has the count of its leading spaces apart. A placeable says whether it
-- stands at column 0 of the start of a line.
pub data Piece : Type 0 where
  at_line_start : ℕ → Text → Piece
  in_line : Text → Piece
  placed : Bool → Expression → Piece

-- whether a text piece ends its line
abbrev pub ends_line : Text → Bool
ends_line [] = false
ends_line (c ∷ []) = c == line_feed
ends_line (c ∷ d ∷ ds) = ends_line (d ∷ ds)

-- At column 0 of a line start a pattern goes on before these bytes alone.
abbrev pub goes_on_at_column_zero : ℕ → Bool
goes_on_at_column_zero c = c == open_brace || (c == carriage_return || c == line_feed)

-- After a space or more at a line start it ends before these bytes. (All but these begin indented_char, or a placeable.)
abbrev pub ends_behind_spaces : ℕ → Bool
ends_behind_spaces c = c == close_brace || (c == dot || (c == open_bracket || c == asterisk))

-- Whether a pattern ends at this line start, by the byte that stands there. It ends at the end of the text, too: that is said
-- by the rules of a line.
abbrev pub pattern_ends : Text → Bool
pattern_ends s = if spaces s == 0 then not (begins goes_on_at_column_zero s) else begins ends_behind_spaces (skip_spaces s)

-- only spaces, the line feed aside
abbrev pub is_blank_text : Text → Bool
is_blank_text s = list_all (λ c. c == space || c == line_feed) s

-- whether a piece is blank; a placeable is not
abbrev pub is_blank : Piece → Bool
is_blank (at_line_start n s) = is_blank_text s
is_blank (in_line s) = is_blank_text s
is_blank (placed column_zero e) = false

-- the smaller of two indents, if they are there
abbrev pub lesser : Option ℕ → Option ℕ → Option ℕ
lesser None b = b
lesser (Some a) None = Some a
lesser (Some a) (Some b) = Some (min a b)

-- What a piece says of the common indent: a text at a line start that is not blank, its leading spaces; a placeable at column 0,
-- none; anything else, nothing.
abbrev pub indent_of : Piece → Option ℕ
indent_of (at_line_start n s) = if is_blank_text s then None else Some n
indent_of (in_line s) = None
indent_of (placed column_zero e) = if column_zero then Some 0 else None

-- the least of these, absent if there is none
abbrev pub common_indent : List Piece → Option ℕ
common_indent [] = None
common_indent (p ∷ ps) = lesser (indent_of p) (common_indent ps)

-- Of its leading spaces a text keeps those beyond the common indent. If that is absent it keeps none.
abbrev pub kept_spaces : Option ℕ → ℕ → Text
kept_spaces None n = []
kept_spaces (Some common) n = replicate (n - common) space

-- a text at a line start, without the common indent
abbrev pub dedented : Option ℕ → ℕ → Text → Text
dedented common n s = kept_spaces common n ++ s

-- the pieces up to the last that is not blank
abbrev pub without_blank_end : List Piece → List Piece
without_blank_end [] = []
without_blank_end (p ∷ ps) = if is_blank p && length (without_blank_end ps) == 0 then [] else p ∷ without_blank_end ps

-- The last text loses the white space at its end (Unicode White_Space), perhaps all of it.
abbrev pub trimmed_if_last : List Piece → Text → Text
trimmed_if_last [] s = trim_end s
trimmed_if_last (p ∷ ps) s = s

-- each piece as an element
abbrev pub elements_from : Option ℕ → List Piece → Elements
elements_from common [] = no_elements
elements_from common (at_line_start n s ∷ ps) = text (trimmed_if_last ps (dedented common n s)) (elements_from common ps)
elements_from common (in_line s ∷ ps) = text (trimmed_if_last ps s) (elements_from common ps)
elements_from common (placed z e ∷ ps) = placeable e (elements_from common ps)

-- Pattern: the elements that some pieces give.
abbrev pub elements_of : List Piece → Elements
elements_of ps = elements_from (common_indent ps) (without_blank_end ps)

-- the value that some elements are: a pattern without elements is none
abbrev pub value_of : Elements → Option Elements
value_of no_elements = None
value_of (text x es) = Some (text x es)
value_of (placeable x es) = Some (placeable x es)
