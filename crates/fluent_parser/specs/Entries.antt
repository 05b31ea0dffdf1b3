-- The readings of comments and entries, cut into the steps that the parser takes.
use Rattle.std.specs.Prelude.{ℕ, List, [], ◌∷◌, ◌++◌, length, drop, Option, Some, None, if◌then◌else◌}
use Rattle.fluent_grammar.specs.Words.{Text, begins_with, dot, equals, skip_spaces, skip_blank_block}
use Rattle.fluent_grammar.specs.Refusal.{Reading, got, refused, refuse, mapped, ◌>>=◌}
use Rattle.fluent_grammar.specs.Refusal as r
use Rattle.fluent_grammar.specs.Tree as t
use Rattle.fluent_grammar.specs.Reading.{identifier_at, attributes_at, message_of, term_of, comment_line_at, comment_lines}
use Rattle.fluent_parser.specs.Reads.{byte_at}
use Rattle.fluent_parser.specs.Steps.{pattern_by}

-- the line that stands after a comment's sign, if one does
abbrev pub line_of : {S : Type 0} → (S → Text) → Option S → List Text
line_of text_of None = []
line_of text_of (Some line) = text_of line ∷ []

-- lines, and one more after them
abbrev pub lines_with : List Text → Reading (List Text) → Reading (List Text)
lines_with lines read = mapped (λ line. lines ++ line) read

-- the lines of a comment of a level that are left
unfoldable pub lines_left : ℕ → Text → List Text × Text
lines_left level s = comment_lines (length s) level s

-- the lines of a comment of a level, of which the first has to be there
unfoldable pub comment_content_by : ℕ → Text → Reading (List Text)
comment_content_by level s = comment_line_at (drop level s) >>= (λ first. got (first.0 ++ (lines_left level first.1).0) (lines_left level first.1).1)

-- a name, an equals sign and a value, if there is one
pub record Head : Type 0 where
  pub id : Text
  pub value : Option t.Elements

-- the reading of a head
unfoldable pub head_by : Text → Reading Head
head_by s = identifier_at s >>= (λ id. byte_at equals (skip_spaces id.1) >>= (λ u. mapped (λ value. record { id = id.0; value = value }) (pattern_by u.1)))

-- an attribute's value has to be there
abbrev pub attribute_with : Text → Option t.Elements → Text → Reading t.Attribute
attribute_with id None s = refuse r.missing_value s
attribute_with id (Some v) s = got (record { id = id; value = v }) s

-- the reading of an attribute, from the start of its line on
unfoldable pub attribute_by : Text → Reading t.Attribute
attribute_by s = head_by (drop 1 (skip_spaces s)) >>= (λ h. attribute_with h.0.id h.0.value h.1)

-- an attribute, or none and the place before it
abbrev pub attribute_or_none : Text → Reading t.Attribute → Reading (Option t.Attribute)
attribute_or_none s (got a rest) = got (Some a) rest
attribute_or_none s (refused fault) = got None s

-- the attribute of this line, if it has one
unfoldable pub next_attribute_by : Text → Reading (Option t.Attribute)
next_attribute_by s = if begins_with dot (skip_spaces s) then attribute_or_none s (attribute_by s) else got None s

-- the attributes that are left
unfoldable pub attributes_left : Text → List t.Attribute × Text
attributes_left s = attributes_at (length s) s

-- the same as a reading, which refuses nothing
unfoldable pub attributes_by : Text → Reading (List t.Attribute)
attributes_by s = got (attributes_left s).0 (attributes_left s).1

-- the reading of a message
unfoldable pub message_by : Text → Reading t.Entry
message_by s = head_by s >>= (λ h. attributes_by (skip_blank_block h.1) >>= (λ as_. message_of h.0.id h.0.value as_.0 as_.1))

-- the reading of a term, from its minus sign on
unfoldable pub term_by : Text → Reading t.Entry
term_by s = head_by (drop 1 s) >>= (λ h. attributes_by (skip_blank_block h.1) >>= (λ as_. term_of h.0.id h.0.value as_.0 as_.1))
