-- A source as blank blocks, entries and junk.
use Rattle.std.specs.Prelude.{ℕ, zero, suc, ◌+◌, ◌-◌, Bool, true, false, not, ◌&&◌, ◌||◌, ◌==◌, if◌then◌else◌, List, [], ◌∷◌, ◌++◌, length, take, slice_index, Option, Some, None}
use Rattle.fluent_grammar.specs.Words.{Text, line_feed, number_sign, begins_with, begins_entry, skip_blank_block, rest_of_line}
use Rattle.fluent_grammar.specs.Refusal.{Kind, Refusal, Reading, got, refused}
use Rattle.fluent_grammar.specs.Refusal as r
use Rattle.fluent_grammar.specs.Tree as t
use Rattle.fluent_grammar.specs.Reading.{entry_at}

-- the first place, from here on, that is at column 0 and holds a byte that begins an entry; otherwise the end of the
-- text
abbrev pub resume : Bool → Text → Text
resume column_zero [] = []
resume column_zero (c ∷ cs) = if column_zero && begins_entry c then c ∷ cs else resume (c == line_feed) cs

-- whether a place, given by what follows it, is at column 0 of a text that begins there
abbrev pub at_column_zero : Text → Text → Bool
at_column_zero s place = let p = length s - length place in p == 0 || slice_index s (p - 1) == line_feed

-- What follows the junk of an entry that was refused: it ends at the first such place at or after the place where reading stopped.
abbrev pub behind_junk : Text → Text → Text
behind_junk s place = resume (at_column_zero s place) place

-- an error, with places as offsets in the source
pub record ParserError : Type 0 where
  pub kind : Kind
  pub pos_start : ℕ
  pub pos_end : ℕ
  pub slice_start : ℕ
  pub slice_end : ℕ

-- the two kinds whose range begins where the entry does
abbrev pub is_field_kind : Kind → Bool
is_field_kind (r.expected_token c) = false
is_field_kind r.expected_letter = false
is_field_kind r.expected_digit = false
is_field_kind r.expected_line_end = false
is_field_kind (r.expected_message_field id) = true
is_field_kind (r.expected_term_field id) = true
is_field_kind r.forbidden_callee = false
is_field_kind r.missing_value = false
is_field_kind r.multiple_default_variants = false
is_field_kind r.missing_default_variant = false
is_field_kind r.message_reference_as_selector = false
is_field_kind r.term_reference_as_selector = false
is_field_kind r.expected_simple_expression_as_selector = false
is_field_kind r.term_attribute_as_placeable = false
is_field_kind r.unterminated_string_literal = false
is_field_kind (r.unknown_escape_sequence s) = false
is_field_kind (r.invalid_unicode_escape_sequence s) = false
is_field_kind r.positional_argument_follows_named = false
is_field_kind (r.duplicated_named_argument s) = false
is_field_kind r.unbalanced_closing_brace = false
is_field_kind r.expected_inline_expression = false
is_field_kind r.expected_literal = false

-- a piece of a source: what it is, and whether a blank line stands before it
pub data Piece : Type 0 where
  entry : Bool → t.Entry → Piece
  junk : Text → ParserError → Piece

-- The error of an entry that begins at this offset. Its `pos` is one byte at the place of the refusal, but for the two field
-- kinds: there it is the entry's range. Its slice is the junk's range.
abbrev pub error_of : ℕ → Text → Refusal → ParserError
error_of at s fault =
    let p = at + (length s - length fault.at) in
    let end = at + (length s - length (behind_junk s fault.at)) in
    if is_field_kind fault.kind
    then record { kind = fault.kind; pos_start = at; pos_end = p; slice_start = at; slice_end = end }
    else record { kind = fault.kind; pos_start = p; pos_end = p + 1; slice_start = at; slice_end = end }

-- the piece at the front of a text that begins at this offset, and the pieces after it
abbrev pub and_pieces : (ℕ → Text → List Piece) → ℕ → Bool → Text → Reading t.Entry → List Piece
and_pieces left at apart s (got e rest) = entry apart e ∷ left (at + (length s - length rest)) rest
and_pieces left at apart s (refused fault) =
    let rest = behind_junk s fault.at in
    let n = length s - length rest in
    junk (take n s) (error_of at s fault) ∷ left (at + n) rest

-- the pieces of a text that begins at this offset
unfoldable pub pieces_from : ℕ → ℕ → Text → List Piece
pieces_from zero at s = []
pieces_from (suc n) at s =
    let u = skip_blank_block s in
    let here = at + (length s - length u) in
    if length u == 0 then [] else and_pieces (pieces_from n) here (not (length u == length s)) u (entry_at u)

-- the pieces of a source: blank blocks, with entries and junk between them
abbrev pub pieces : Text → List Piece
pieces source = pieces_from (suc (length source)) 0 source

-- the errors of some pieces
abbrev pub errors_of : List Piece → List ParserError
errors_of [] = []
errors_of (entry apart e ∷ ps) = errors_of ps
errors_of (junk s error ∷ ps) = error ∷ errors_of ps

-- the errors of a source, one for each junk
abbrev pub errors : Text → List ParserError
errors source = errors_of (pieces source)

-- the comment that a message or a term takes: the one that waits, if no blank line lies between
abbrev pub attached : Option (List Text) → Bool → Option (List Text)
attached held apart = if apart then None else held

-- a comment that waits, as an entry of its own
abbrev pub waiting : Option (List Text) → List t.Entry
waiting None = []
waiting (Some lines) = t.comment lines ∷ []

-- what stays before a message or a term: the comment that it doesn't take
abbrev pub left_alone : Option (List Text) → Bool → List t.Entry
left_alone held apart = if apart then waiting held else []

-- The entries of some pieces, after a comment that waits. A comment waits for the piece right after it.
abbrev pub entries_of : Option (List Text) → List Piece → List t.Entry
entries_of held [] = waiting held
entries_of held (junk s error ∷ ps) = waiting held ++ t.junk s ∷ entries_of None ps
entries_of held (entry apart (t.comment lines) ∷ ps) = waiting held ++ entries_of (Some lines) ps
entries_of held (entry apart (t.message m) ∷ ps) = left_alone held apart ++ t.message (record m { comment = attached held apart }) ∷ entries_of None ps
entries_of held (entry apart (t.term m) ∷ ps) = left_alone held apart ++ t.term (record m { comment = attached held apart }) ∷ entries_of None ps
entries_of held (entry apart (t.group_comment c) ∷ ps) = waiting held ++ t.group_comment c ∷ entries_of None ps
entries_of held (entry apart (t.resource_comment c) ∷ ps) = waiting held ++ t.resource_comment c ∷ entries_of None ps
entries_of held (entry apart (t.junk s) ∷ ps) = waiting held ++ t.junk s ∷ entries_of None ps

-- the tree of a source
abbrev pub tree : Text → List t.Entry
tree source = entries_of None (pieces source)

-- the messages and terms of entries, without comments
abbrev pub listed : List t.Entry → List t.Entry
listed [] = []
listed (t.message m ∷ es) = t.message (record m { comment = None }) ∷ listed es
listed (t.term m ∷ es) = t.term (record m { comment = None }) ∷ listed es
listed (t.comment c ∷ es) = listed es
listed (t.group_comment c ∷ es) = listed es
listed (t.resource_comment c ∷ es) = listed es
listed (t.junk s ∷ es) = listed es

-- the messages and terms of a source
abbrev pub list : Text → List t.Entry
list source = listed (tree source)

-- the pieces for runtime use: each line that would begin a comment is passed over
unfoldable pub runtime_pieces_from : ℕ → ℕ → Text → List Piece
runtime_pieces_from zero at s = []
runtime_pieces_from (suc n) at s =
    let u = skip_blank_block s in
    let here = at + (length s - length u) in
    if length u == 0 then []
    else if begins_with number_sign u then (let rest = (rest_of_line u).1 in runtime_pieces_from n (here + (length u - length rest)) rest)
    else and_pieces (runtime_pieces_from n) here false u (entry_at u)

-- the pieces of a source for runtime use
abbrev pub runtime_pieces : Text → List Piece
runtime_pieces source = runtime_pieces_from (suc (length source)) 0 source

-- the tree of a source for runtime use, which has no comments
abbrev pub runtime_tree : Text → List t.Entry
runtime_tree source = entries_of None (runtime_pieces source)

-- the errors of a source for runtime use
abbrev pub runtime_errors : Text → List ParserError
runtime_errors source = errors_of (runtime_pieces source)
