-- Reading from left to right: the node at the front of a text, or the one refusal there.
-- What nests or repeats is read through `Readers`: `step` reads one level, given readers for shorter texts, and
-- `readers n` reads n levels. So a text of length below n is read by `readers n`.
use Rattle.std.specs.Prelude.{ℕ, zero, suc, ◌-◌, Bool, true, false, ◌&&◌, ◌||◌, ◌==◌, if◌then◌else◌, List, [], ◌∷◌, ◌++◌, length, take, drop, Option, Some, None, is_some}
use Rattle.std.specs.List.{prefix_len, list_all}
use Rattle.std.specs.Str.{continuation_len}
use Rattle.fluent_grammar.specs.Words.{Text, line_feed, carriage_return, space, quote, number_sign, dollar, open_paren, close_paren, asterisk, hyphen, dot, colon, equals, open_bracket, backslash, close_bracket, open_brace, close_brace, is_letter, is_digit, is_hex_digit, is_callee_byte, begins, begins_with, spaces, skip_spaces, begins_crlf, after_line_end, skip_blank, skip_blank_block, name_len, small_u, capital_u, begins_arrow, skip_separator, rest_of_line, comment_level, hex_digits, is_among}
use Rattle.fluent_grammar.specs.Refusal.{Kind, Refusal, Reading, got, refused, refuse, mapped, ◌>>=◌}
use Rattle.fluent_grammar.specs.Refusal as r
use Rattle.fluent_grammar.specs.Tree as t
use Rattle.fluent_grammar.specs.Lines.{Piece, at_line_start, in_line, placed, elements_of, ends_line, pattern_ends, value_of}

-- Identifier
unfoldable pub identifier_at : Text → Reading Text
identifier_at s = if begins is_letter s then got (take (name_len s) s) (drop (name_len s) s) else refuse r.expected_letter s

-- at least one digit, and more as long as there are any
unfoldable pub digits_at : Text → Reading Text
digits_at s = if begins is_digit s then got (take (prefix_len is_digit s) s) (drop (prefix_len is_digit s) s) else refuse r.expected_digit s

-- the bytes of a text before its rest
abbrev pub front : Text → Text → Text
front s rest = take (length s - length rest) s

-- A number that begins with this text, after its whole digits: a point and digits, if a point follows. It is the text up to
-- what is left.
unfoldable pub fraction_at : Text → Text → Reading Text
fraction_at s rest =
    if begins_with dot rest then digits_at (drop 1 rest) >>= (λ d. got (front s d.1) d.1)
    else got (front s rest) rest

-- NumberLiteral: an optional minus, digits, and a fraction if a point follows.
unfoldable pub number_at : Text → Reading Text
number_at s = digits_at (if begins_with hyphen s then drop 1 s else s) >>= (λ d. fraction_at s d.1)

-- the character at the front
abbrev pub first_char : Text → Text
first_char [] = []
first_char (b ∷ bs) = b ∷ take (continuation_len b) bs

-- the refusal where hex digits are missing
unfoldable pub missing_hex : {A : Type 0} → Text → Reading A
missing_hex s =
    let n = prefix_len is_hex_digit s in
    refuse (r.invalid_unicode_escape_sequence (take n s ++ first_char (drop n s))) (drop n s)

-- some text before what is read
abbrev pub before : Text → Reading Text → Reading Text
before s read = mapped (λ more. s ++ more) read

-- StringLiteral, from after its opening quote on: bytes up to the quote that ends it, which is taken. A backslash goes with
-- a backslash, a quote, a `u` before 4 hex digits or a `U` before 6.
unfoldable pub string_content : Text → Reading Text
string_content [] = refuse (r.expected_token quote) []
string_content (c ∷ []) =
    if c == quote then got [] []
    else if c == line_feed then refuse r.unterminated_string_literal (c ∷ [])
    else if c == backslash then refuse (r.unknown_escape_sequence (space ∷ [])) (c ∷ [])
    else refuse (r.expected_token quote) []
string_content (c ∷ d ∷ ds) =
    if c == quote then got [] (d ∷ ds)
    else if c == line_feed then refuse r.unterminated_string_literal (c ∷ d ∷ ds)
    else if c == backslash then (
    if d == backslash || d == quote then before (c ∷ d ∷ []) (string_content ds)
    else if d == small_u then (if hex_digits 4 ds then before (c ∷ d ∷ []) (string_content ds) else missing_hex ds)
    else if d == capital_u then (if hex_digits 6 ds then before (c ∷ d ∷ []) (string_content ds) else missing_hex ds)
    else refuse (r.unknown_escape_sequence (first_char (d ∷ ds))) (c ∷ d ∷ ds))
    else before (c ∷ []) (string_content (d ∷ ds))

-- A text piece: up to and with the next line feed, or up to an opening brace, a CR LF or the end of the text.
unfoldable pub text_run : Text → Reading Text
text_run [] = got [] []
text_run (c ∷ cs) =
    if c == open_brace then got [] (c ∷ cs)
    else if c == close_brace then refuse r.unbalanced_closing_brace (c ∷ cs)
    else if c == line_feed then got (c ∷ []) cs
    else if c == carriage_return && begins_with line_feed cs then got [] (c ∷ cs)
    else before (c ∷ []) (text_run cs)

-- a term's attribute, which may stand before `->` alone
abbrev pub is_term_attribute : t.Inline → Bool
is_term_attribute (t.string_literal s) = false
is_term_attribute (t.number_literal s) = false
is_term_attribute (t.function_reference s a) = false
is_term_attribute (t.message_reference s a) = false
is_term_attribute (t.term_reference s a c) = is_some a
is_term_attribute (t.variable_reference s) = false
is_term_attribute (t.nested e) = false

-- why an inline expression can't be a selector, if it can't
abbrev pub selector_fault : t.Inline → Option Kind
selector_fault (t.string_literal s) = None
selector_fault (t.number_literal s) = None
selector_fault (t.function_reference s a) = None
selector_fault (t.message_reference s None) = Some r.message_reference_as_selector
selector_fault (t.message_reference s (Some a)) = None
selector_fault (t.term_reference s None c) = Some r.term_reference_as_selector
selector_fault (t.term_reference s (Some a) c) = None
selector_fault (t.variable_reference s) = None
selector_fault (t.nested e) = Some r.expected_simple_expression_as_selector

-- AttributeAccessor directly at the front, or nothing if no dot stands there
unfoldable pub accessor_at : Text → Reading (Option Text)
accessor_at s = if begins_with dot s then mapped Some (identifier_at (drop 1 s)) else got None s

-- the number literal or the identifier of a VariantKey
unfoldable pub key_at : Text → Reading t.VariantKey
key_at s =
    if begins is_digit s || begins_with hyphen s then mapped t.number_key (number_at s)
    else mapped t.identifier_key (identifier_at s)

-- the value of a NamedArgument: a string or number literal
unfoldable pub literal_at : Text → Reading t.Inline
literal_at s =
    if begins_with quote s then mapped t.string_literal (string_content (drop 1 s))
    else if begins is_digit s || begins_with hyphen s then mapped t.number_literal (number_at s)
    else refuse r.expected_literal s

-- call arguments with one more positional one in front
abbrev pub with_positional : t.Inline → t.Arguments → t.Arguments
with_positional e (t.arguments ps ns) = t.arguments (t.positional e ps) ns

-- call arguments with one more named one in front
abbrev pub with_named : Text → t.Inline → t.Arguments → t.Arguments
with_named name e (t.arguments ps ns) = t.arguments ps (t.named name e ns)

-- the name of an argument, if the expression can be one: an identifier alone
abbrev pub name_of_argument : t.Inline → Option Text
name_of_argument (t.string_literal s) = None
name_of_argument (t.number_literal s) = None
name_of_argument (t.function_reference s a) = None
name_of_argument (t.message_reference s None) = Some s
name_of_argument (t.message_reference s (Some a)) = None
name_of_argument (t.term_reference s a c) = None
name_of_argument (t.variable_reference s) = None
name_of_argument (t.nested e) = None

-- Readers of what stands inside a construct, or after its first part. Each is only asked about a shorter text.
pub record Readers : Type 0 where
  pub inline : Text → Reading t.Inline
  -- what is left of call arguments, after arguments of these names, at one of them or at the closing parenthesis
  pub arguments : List Text → Text → Reading t.Arguments
  -- what is left of a select's variants; whether the default was marked before
  pub variants : Bool → Text → Reading t.Variants
  -- the pieces of a pattern from a line start on, and from within a line on
  pub line : Text → Reading (List Piece)
  pub pieces : Text → Reading (List Piece)

module _ (inside : Readers) where
  -- SelectExpression after its arrow and blank inline: a line end, blank, variants.
  unfoldable pub variants_after : t.Inline → Text → Option Text → Reading t.Expression
  variants_after e s None = refuse r.expected_line_end s
  variants_after e s (Some rest) = mapped (t.select e) (inside.variants false (skip_blank rest))

  -- SelectExpression from its arrow on, if this is the fault of its selector.
  unfoldable pub select_at : t.Inline → Option Kind → Text → Reading t.Expression
  select_at e (Some kind) s = refuse kind s
  select_at e None s = variants_after e (skip_spaces (drop 2 s)) (after_line_end (skip_spaces (drop 2 s)))

  -- What a placeable holds, after its inline expression and the blank there: a select if an arrow follows.
  unfoldable pub select_or_inline_at : t.Inline → Text → Reading t.Expression
  select_or_inline_at e s =
      if begins_arrow s then select_at e (selector_fault e) s
      else if is_term_attribute e then refuse r.term_attribute_as_placeable s
      else got (t.inline e) s

  -- the closing brace of a placeable
  unfoldable pub closing_at : t.Expression → Text → Reading t.Expression
  closing_at e s = if begins_with close_brace s then got e (drop 1 s) else refuse (r.expected_token close_brace) s

  -- InlinePlaceable and BlockPlaceable, from the opening brace on; the brace itself was looked at before
  unfoldable pub placeable_at : Text → Reading t.Expression
  placeable_at s =
      inside.inline (skip_blank (drop 1 s)) >>= (λ e.
      select_or_inline_at e.0 (skip_blank e.1) >>= (λ x.
      closing_at x.0 (skip_blank x.1)))

  -- the rest of a TermReference after its name, attribute and blank: call arguments or nothing
  unfoldable pub term_arguments_at : Text → Option Text → Text → Reading t.Inline
  term_arguments_at id attr s =
      if begins_with open_paren s then mapped (λ args. t.term_reference id attr (t.with_arguments args)) (inside.arguments [] (skip_blank (drop 1 s)))
      else got (t.term_reference id attr t.no_arguments) s

  -- TermReference, after its minus: the name, directly after it the attribute, blank, and call arguments
  unfoldable pub term_at : Text → Reading t.Inline
  term_at s = identifier_at s >>= (λ id. accessor_at id.1 >>= (λ attr. term_arguments_at id.0 attr.0 (skip_blank attr.1)))

  -- FunctionReference, once its arguments were read: its name has no small letter.
  unfoldable pub function_of : Text → t.Arguments → Text → Reading t.Inline
  function_of id args s = if list_all is_callee_byte id then got (t.function_reference id args) s else refuse r.forbidden_callee s

  -- after an identifier and blank: the call arguments of a FunctionReference, or the attribute of a MessageReference
  unfoldable pub called_at : Text → Text → Reading t.Inline
  called_at id s =
      if begins_with open_paren s then inside.arguments [] (skip_blank (drop 1 s)) >>= (λ args. function_of id args.0 args.1)
      else mapped (t.message_reference id) (accessor_at s)

  -- FunctionReference and MessageReference
  unfoldable pub named_at : Text → Reading t.Inline
  named_at s = identifier_at s >>= (λ id. called_at id.0 (skip_blank id.1))

  -- InlineExpression, chosen by its first byte. A minus before a letter begins a term, any other a number.
  unfoldable pub inline_at : Text → Reading t.Inline
  inline_at s =
      if begins_with quote s then mapped t.string_literal (string_content (drop 1 s))
      else if begins is_digit s then mapped t.number_literal (number_at s)
      else if begins_with hyphen s then (if begins is_letter (drop 1 s) then term_at (drop 1 s) else mapped t.number_literal (number_at s))
      else if begins_with dollar s then mapped t.variable_reference (identifier_at (drop 1 s))
      else if begins is_letter s then named_at s
      else if begins_with open_brace s then mapped t.nested (placeable_at s)
      else refuse r.expected_inline_expression s

  -- A positional argument, after its expression, and the arguments that follow. None may follow a named one.
  unfoldable pub positional_at : List Text → t.Inline → Text → Reading t.Arguments
  positional_at [] e s = mapped (with_positional e) (inside.arguments [] (skip_separator s))
  positional_at (name ∷ names) e s = refuse r.positional_argument_follows_named s

  -- NamedArgument, at its colon, and the arguments that follow. No name may come twice.
  unfoldable pub named_value_at : List Text → Text → Text → Reading t.Arguments
  named_value_at names name s =
      if is_among name names then refuse (r.duplicated_named_argument name) s
      else literal_at (skip_blank (drop 1 s)) >>= (λ v. mapped (with_named name v.0) (inside.arguments (name ∷ names) (skip_separator v.1)))

  -- Argument, after its expression: it is named if the expression can be a name and a colon follows.
  unfoldable pub argument_at : List Text → t.Inline → Option Text → Text → Reading t.Arguments
  argument_at names e (Some name) s = if begins_with colon s then named_value_at names name s else positional_at names e s
  argument_at names e None s = positional_at names e s

  -- CallArguments, what is left of them: the closing parenthesis, or an argument and what follows it.
  unfoldable pub arguments_at : List Text → Text → Reading t.Arguments
  arguments_at names s =
      if length s == 0 then refuse (r.expected_token close_paren) []
      else if begins_with close_paren s then got (t.arguments t.no_inlines t.no_nameds) (drop 1 s)
      else inline_at s >>= (λ e. argument_at names e.0 (name_of_argument e.0) e.1)

  -- the pieces after a text: from the next line on if the text ended its line, otherwise from within the line on
  unfoldable pub after_text_at : Bool → Text → Reading (List Piece)
  after_text_at true s = inside.line s
  after_text_at false s = inside.pieces s

  -- a placeable and the pieces after it
  unfoldable pub placeable_piece_at : Bool → Text → Reading (List Piece)
  placeable_piece_at column_zero s = placeable_at s >>= (λ e. mapped (λ ps. placed column_zero e.0 ∷ ps) (inside.pieces e.1))

  -- a text, as such a piece, and the pieces after it
  unfoldable pub text_piece_at : (Text → Piece) → Text → Reading (List Piece)
  text_piece_at piece s = text_run s >>= (λ x. mapped (λ ps. piece x.0 ∷ ps) (after_text_at (ends_line x.0) x.1))

  -- the pieces from within a line on; a CR LF gives one line feed
  unfoldable pub pieces_at : Text → Reading (List Piece)
  pieces_at s =
      if length s == 0 then got [] []
      else if begins_with open_brace s then placeable_piece_at false s
      else if begins_crlf s then mapped (λ ps. in_line (line_feed ∷ []) ∷ ps) (inside.line (drop 2 s))
      else text_piece_at in_line s

  -- The pieces from a line start on. Spaces at the end of the text are taken, those before the end of the pattern are not.
  unfoldable pub line_at : Text → Reading (List Piece)
  line_at s =
      if length (skip_spaces s) == 0 then got [] []
      else if pattern_ends s then got [] s
      else if begins_with open_brace (skip_spaces s) then placeable_piece_at (spaces s == 0) (skip_spaces s)
      else if begins_crlf (skip_spaces s) then pieces_at (skip_spaces s)
      else text_piece_at (at_line_start (spaces s)) (skip_spaces s)

  -- The pieces of a pattern after its first blank inline: on this line, or after the line end and the blank block there.
  unfoldable pub first_pieces_at : Text → Option Text → Reading (List Piece)
  first_pieces_at s None = pieces_at s
  first_pieces_at s (Some rest) = line_at (skip_blank_block rest)

  -- Pattern. Without elements there is none.
  unfoldable pub pattern_at : Text → Reading t.Elements
  pattern_at s = mapped elements_of (first_pieces_at (skip_spaces s) (after_line_end (skip_spaces s)))

  -- A variant with its value, and the variants that follow. It has to have a value.
  unfoldable pub variants_behind : Bool → t.VariantKey → Bool → t.Elements → Text → Reading t.Variants
  variants_behind default key marked t.no_elements s = refuse r.missing_value s
  variants_behind default key marked (t.text x es) s = mapped (t.variant key (t.text x es) default) (inside.variants marked (skip_blank s))
  variants_behind default key marked (t.placeable x es) s = mapped (t.variant key (t.placeable x es) default) (inside.variants marked (skip_blank s))

  -- a variant from its closing bracket on, and the variants that follow
  unfoldable pub variant_value_at : Bool → t.VariantKey → Bool → Text → Reading t.Variants
  variant_value_at default key marked s =
      if begins_with close_bracket s then pattern_at (drop 1 s) >>= (λ value. variants_behind default key marked value.0 value.1)
      else refuse (r.expected_token close_bracket) s

  -- Variant and DefaultVariant from the opening bracket on, and the variants that follow
  unfoldable pub variant_at : Bool → Bool → Text → Reading t.Variants
  variant_at default marked s = key_at (skip_blank (drop 1 s)) >>= (λ key. variant_value_at default key.0 marked (skip_blank key.1))

  -- after the `*`, or if there is none: a variant, or the end of the variants, of which one has to be the default
  unfoldable pub variant_or_end_at : Bool → Bool → Text → Reading t.Variants
  variant_or_end_at default marked s =
      if begins_with open_bracket s then variant_at default marked s
      else if marked then got t.no_variants s
      else refuse r.missing_default_variant s

  -- The variants that are left. There is one `*`; it counts if no variant is after it, too.
  unfoldable pub variants_at : Bool → Text → Reading t.Variants
  variants_at marked s =
      if begins_with asterisk s then (if marked then refuse r.multiple_default_variants (drop 1 s) else variant_or_end_at true true (drop 1 s))
      else variant_or_end_at false marked s

-- one level
abbrev pub step : Readers → Readers
step inside = record {
  inline = inline_at inside;
  arguments = arguments_at inside;
  variants = variants_at inside;
  line = line_at inside;
  pieces = pieces_at inside;
}

-- no level: what it answers is never asked for
abbrev pub no_readers : Readers
no_readers = record {
  inline = λ s. refuse r.expected_inline_expression s;
  arguments = λ names s. refuse r.expected_inline_expression s;
  variants = λ marked s. refuse r.expected_inline_expression s;
  line = λ s. refuse r.expected_inline_expression s;
  pieces = λ s. refuse r.expected_inline_expression s;
}

-- this many levels
abbrev pub readers : ℕ → Readers
readers zero = no_readers
readers (suc n) = step (readers n)

-- an attribute with its value, which has to be there
abbrev pub attribute_of : Text → t.Elements → Text → Reading t.Attribute
attribute_of id t.no_elements s = refuse r.missing_value s
attribute_of id (t.text x es) s = got (record { id = id; value = t.text x es }) s
attribute_of id (t.placeable x es) s = got (record { id = id; value = t.placeable x es }) s

-- Attribute, from the start of its line on; the dot was looked at before
unfoldable pub attribute_at : Text → Reading t.Attribute
attribute_at s = identifier_at (drop 1 (skip_spaces s)) >>= (λ id.
    let u = skip_spaces id.1 in
    if begins_with equals u then pattern_at (readers (suc (length u))) (drop 1 u) >>= (λ value. attribute_of id.0 value.0 value.1)
    else refuse (r.expected_token equals) u)

-- an attribute before what is left, or the end at the start of its line
abbrev pub more_attributes : (Text → List t.Attribute × Text) → Text → Reading t.Attribute → List t.Attribute × Text
more_attributes left s (refused fault) = ([], s)
more_attributes left s (got a rest) = let others = left rest in (a ∷ others.0, others.1)

-- attributes, one after the other, up to the first line that isn't one
unfoldable pub attributes_at : ℕ → Text → List t.Attribute × Text
attributes_at zero s = ([], s)
attributes_at (suc n) s = if begins_with dot (skip_spaces s) then more_attributes (attributes_at n) s (attribute_at s) else ([], s)

-- an identifier, blank inline, an equals sign and what may be a pattern
unfoldable pub head_at : Text → Reading (Text × t.Elements)
head_at s = identifier_at s >>= (λ id.
    let u = skip_spaces id.1 in
    if begins_with equals u then mapped (λ value. (id.0, value)) (pattern_at (readers (suc (length u))) (drop 1 u))
    else refuse (r.expected_token equals) u)

-- a message by its parts: a value or an attribute has to be there
abbrev pub message_of : Text → Option t.Elements → List t.Attribute → Text → Reading t.Entry
message_of id None [] s = refuse (r.expected_message_field id) s
message_of id None (a ∷ more) s = got (t.message (record { id = id; value = None; attributes = a ∷ more; comment = None })) s
message_of id (Some v) attributes s = got (t.message (record { id = id; value = Some v; attributes = attributes; comment = None })) s

-- a term by its parts: a value has to be there
abbrev pub term_of : Text → Option t.Elements → List t.Attribute → Text → Reading t.Entry
term_of id None attributes s = refuse (r.expected_term_field id) s
term_of id (Some v) attributes s = got (t.term (record { id = id; value = v; attributes = attributes; comment = None })) s

-- Message
unfoldable pub message_at : Text → Reading t.Entry
message_at s = head_at s >>= (λ h.
    let u = skip_blank_block h.1 in
    let attributes = attributes_at (length u) u in
    message_of h.0.0 (value_of h.0.1) attributes.0 attributes.1)

-- Term, from its minus on
unfoldable pub term_entry_at : Text → Reading t.Entry
term_entry_at s = head_at (drop 1 s) >>= (λ h.
    let u = skip_blank_block h.1 in
    let attributes = attributes_at (length u) u in
    term_of h.0.0 (value_of h.0.1) attributes.0 attributes.1)

-- CommentLine after its sign: a line end, or a space and the rest of the line. A sign at the end of the text adds no line.
unfoldable pub comment_line_at : Text → Reading (List Text)
comment_line_at s =
    if length s == 0 then got [] []
    else if is_some (after_line_end s) then got ([] ∷ []) (rest_of_line s).1
    else if begins_with space s then got ((rest_of_line (drop 1 s)).0 ∷ []) (rest_of_line (drop 1 s)).1
    else refuse (r.expected_token space) s

-- a line before what is left, or the end at the start of the line
abbrev pub more_lines : (Text → List Text × Text) → Text → Reading (List Text) → List Text × Text
more_lines left s (refused fault) = ([], s)
more_lines left s (got line rest) = let others = left rest in (line ++ others.0, others.1)

-- the lines of a comment of a level, up to the first line that isn't one
unfoldable pub comment_lines : ℕ → ℕ → Text → List Text × Text
comment_lines zero level s = ([], s)
comment_lines (suc n) level s =
    if comment_level s == level then more_lines (comment_lines n level) s (comment_line_at (drop level s)) else ([], s)

-- the comment of a level: one, two or three signs
abbrev pub comment_of : ℕ → List Text → t.Entry
comment_of level lines = if level == 1 then t.comment lines else if level == 2 then t.group_comment lines else t.resource_comment lines

-- a comment, from its first sign on: its first line says the level
unfoldable pub comment_at : Text → Reading t.Entry
comment_at s =
    let level = comment_level s in
    comment_line_at (drop level s) >>= (λ first.
    let others = comment_lines (length s) level first.1 in
    got (comment_of level (first.0 ++ others.0)) others.1)

-- Entry, chosen by its first byte
unfoldable pub entry_at : Text → Reading t.Entry
entry_at s = if begins_with number_sign s then comment_at s else if begins_with hyphen s then term_entry_at s else message_at s
