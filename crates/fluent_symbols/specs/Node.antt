-- The nodes of a tree, each at its place in the source.
use Rattle.std.specs.Prelude.{◌-◌, Bool, true, false, if◌then◌else◌, List, [], ◌∷◌, length, drop, Option, Some, None}
use Rattle.fluent_grammar.specs.Words.{Text, spaces, skip_spaces, skip_blank_block, begins_crlf, after_line_end, rest_of_line}

-- what a node is, by the names of the JSON value of a tree
pub data Kind : Type 0 where
  message : Kind
  term : Kind
  comment : Kind
  group_comment : Kind
  resource_comment : Kind
  junk : Kind
  attribute : Kind
  pattern : Kind
  text_element : Kind
  placeable : Kind
  select : Kind
  variant : Kind
  default_variant : Kind
  string_literal : Kind
  number_literal : Kind
  variable_reference : Kind
  message_reference : Kind
  term_reference : Kind
  function_reference : Kind
  call_arguments : Kind
  named_argument : Kind
  identifier : Kind

-- a node, with the source from its first byte on, and with the source after its last byte
pub record Node : Type 0 where
  pub kind : Kind
  pub from : Text
  pub to : Text

abbrev pub node : Kind → Text → Text → Node
node kind from to = record { kind = kind; from = from; to = to }

-- one node, which has no others in it
abbrev pub leaf : Kind → Text → Text → List Node
leaf kind from to = node kind from to ∷ []

-- a name at the front
abbrev pub named : Text → Text → List Node
named name s = leaf identifier s (drop (length name) s)

-- ---- lines

-- the line end after the line at the front, or the end of the text
abbrev pub line_end : Text → Text
line_end s = drop (length (rest_of_line s).0) s

-- what follows the line at the front
abbrev pub next_line : Text → Text
next_line s = (rest_of_line s).1

-- the end of the last of these lines of a comment, or of what is before them
abbrev pub lines_end : Text → List Text → Text → Text
lines_end before [] s = before
lines_end before (line ∷ lines) s = lines_end (line_end s) lines (next_line s)

-- The end of a comment of these lines. A sign at the end of a text is a comment that has none.
abbrev pub comment_end : List Text → Text → Text
comment_end lines s = lines_end (line_end s) lines s

abbrev pub comment_node : Kind → List Text → Text → List Node
comment_node kind lines s = leaf kind s (comment_end lines s)

-- ---- texts of patterns

-- whether a pattern begins on the line after this place
abbrev pub is_block : Option Text → Bool
is_block None = false
is_block (Some line) = true

-- Where a pattern begins: on this line, or with the first line that isn't blank, whose indent belongs to it.
abbrev pub begun : Text → Option Text → Text
begun s None = s
begun s (Some line) = skip_blank_block line

abbrev pub pattern_start : Text → Text
pattern_start s = begun (skip_spaces s) (after_line_end (skip_spaces s))

abbrev pub begins_line : Text → Bool
begins_line s = is_block (after_line_end (skip_spaces s))

-- what is left of the indent of a line by a text that has some of its spaces
abbrev pub after_indent : Bool → Text → Text → Text
after_indent true value s = drop (spaces s - spaces value) s
after_indent false value s = s

-- The line feed of CR LF is a text, and the carriage return is none.
abbrev pub after_return : Text → Text
after_return s = if begins_crlf s then drop 1 s else s

-- Where a text of a pattern begins, which comes next, at the start of a line or not: after the common indent.
abbrev pub text_start : Bool → Text → Text → Text
text_start at_line value s = after_return (after_indent at_line value s)

abbrev pub text_end : Bool → Text → Text → Text
text_end at_line value s = drop (length value) (text_start at_line value s)
