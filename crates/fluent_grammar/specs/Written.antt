-- The written text of a tree: signs at their levels, one after the other, and how they are laid out
-- (docs/reference/written-text.md).
use Rattle.std.specs.Prelude.{ℕ, zero, suc, ◌+◌, ◌-◌, ◌*◌, Bool, true, false, not, ◌&&◌, ◌||◌, ◌==◌, if◌then◌else◌, List, [], ◌∷◌, ◌++◌, length, replicate, Option, Some, None}
use Rattle.std.specs.List.{list_any}
use Rattle.std.specs.Str.{trim_end}
use Rattle.fluent_grammar.specs.Words.{Text, line_feed, space, quote, number_sign, dollar, open_paren, close_paren, asterisk, comma, hyphen, dot, colon, equals, greater, open_bracket, close_bracket, open_brace, close_brace, begins_with}
use Rattle.fluent_grammar.specs.Tree as t
use Rattle.fluent_grammar.specs.Tree.{Elements, no_elements, text, placeable, Expression, select, inline, Variants, no_variants, variant, Inline, Arguments, arguments, Inlines, no_inlines, positional, Nameds, no_nameds, named, VariantKey, identifier_key, number_key, MaybeArguments, no_arguments, with_arguments, Attribute, Message, Term, Entry}

-- what is written, one after the other: a sign or a text at a level, or the mark of a default variant
pub data Sign : Type 0 where
  sign : ℕ → Text → Sign
  default_mark : ℕ → Sign

-- whether what was written ends in a line feed, when a text is written after something that does or doesn't
abbrev pub ends_line : Bool → Text → Bool
ends_line before [] = before
ends_line before (c ∷ cs) = ends_line (c == line_feed) cs

-- four spaces a level
abbrev pub indent : ℕ → Text
indent level = replicate (4 * level) space

-- whether a piece takes an indent if a line feed stands before it: not if it is empty or begins with one
abbrev pub takes_indent : Text → Bool
takes_indent [] = false
takes_indent (c ∷ cs) = not (c == line_feed)

abbrev pub indent_before : Bool → ℕ → Text → Text
indent_before at_line_start level s = if at_line_start && takes_indent s then indent level else []

-- the bytes of signs; whether a line feed stands before them. The mark of a default variant takes the place of the last space of its indent.
abbrev pub laid_out : Bool → List Sign → Text
laid_out at_line_start [] = []
laid_out at_line_start (sign level s ∷ more) = indent_before at_line_start level s ++ (s ++ laid_out (ends_line at_line_start s) more)
laid_out at_line_start (default_mark level ∷ more) = replicate (4 * level - 1) space ++ (asterisk ∷ laid_out false more)

-- a text with signs laid out after it
unfoldable pub onto : Text → List Sign → Text
onto before signs = before ++ laid_out (ends_line false before) signs

abbrev pub new_line : Sign
new_line = sign 0 (line_feed ∷ [])

-- whether a text holds a line feed
abbrev pub holds_line_feed : Text → Bool
holds_line_feed s = list_any (λ c. c == line_feed) s

-- a select, also in placeables nested directly in each other
abbrev mutual
  pub is_select : Expression → Bool
  is_select (select s vs) = true
  is_select (inline i) = is_select_inline i

  pub is_select_inline : Inline → Bool
  is_select_inline (t.string_literal s) = false
  is_select_inline (t.number_literal s) = false
  is_select_inline (t.function_reference s a) = false
  is_select_inline (t.message_reference s a) = false
  is_select_inline (t.term_reference s a c) = false
  is_select_inline (t.variable_reference s) = false
  is_select_inline (t.nested e) = is_select e

-- whether a pattern holds a text with a line feed, or a select
abbrev pub is_many_lined : Elements → Bool
is_many_lined no_elements = false
is_many_lined (text s es) = holds_line_feed s || is_many_lined es
is_many_lined (placeable e es) = is_select e || is_many_lined es

abbrev pub begins_with_dot : Elements → Bool
begins_with_dot no_elements = false
begins_with_dot (text s es) = begins_with dot s
begins_with_dot (placeable e es) = false

-- a pattern begins on a line of its own, or after one space
abbrev pub pattern_start : ℕ → Elements → Sign
pattern_start level es = if is_many_lined es && not (begins_with_dot es) then new_line else sign level (space ∷ [])

abbrev pub key_text : VariantKey → Text
key_text (identifier_key s) = s
key_text (number_key s) = s

-- what stands before the bracket of a variant
abbrev pub mark : ℕ → Bool → List Sign
mark level true = default_mark level ∷ []
mark level false = []

-- a variant up to its pattern, on a line of its own one level below its select
abbrev pub variant_head_signs : ℕ → VariantKey → Bool → List Sign
variant_head_signs level key default = new_line ∷ mark (level + 1) default ++ sign (level + 1) (open_bracket ∷ []) ∷ sign (level + 1) (key_text key) ∷ sign (level + 1) (close_bracket ∷ []) ∷ []

-- the accessor of an attribute, after a reference
abbrev pub accessor_signs : ℕ → Option Text → List Sign
accessor_signs level None = []
accessor_signs level (Some name) = sign level (dot ∷ []) ∷ sign level name ∷ []

-- a comma and a space between what was written before and what comes
abbrev pub between : ℕ → Bool → List Sign
between level false = []
between level true = sign level (comma ∷ space ∷ []) ∷ []

-- an argument's name, after what separates it from an argument before it
abbrev pub argument_name_signs : ℕ → Bool → Text → List Sign
argument_name_signs level after name = between level after ++ sign level name ∷ sign level (colon ∷ space ∷ []) ∷ []

abbrev pub has_positional : Inlines → Bool
has_positional no_inlines = false
has_positional (positional e ps) = true

-- signs in braces, with a space inside each
abbrev pub in_braces : ℕ → List Sign → List Sign
in_braces level inside = sign level (open_brace ∷ space ∷ []) ∷ (inside ++ sign level (space ∷ close_brace ∷ []) ∷ [])

-- what closes two placeables that share their braces, after an inline expression and after a select
abbrev pub closing_nested : Expression → Text
closing_nested (select s vs) = close_brace ∷ close_brace ∷ []
closing_nested (inline i) = space ∷ close_brace ∷ close_brace ∷ []

abbrev mutual
  -- the elements of a pattern, at the pattern's level
  pub elements_signs : ℕ → Elements → List Sign
  elements_signs level no_elements = []
  elements_signs level (text s es) = sign level s ∷ elements_signs level es
  elements_signs level (placeable e es) = placeable_signs level e ++ elements_signs level es

  -- a placeable of a pattern. One that is nested directly shares its braces.
  pub placeable_signs : ℕ → Expression → List Sign
  placeable_signs level (select s vs) = sign level (open_brace ∷ space ∷ []) ∷ ((inline_signs level s ++ sign level (space ∷ hyphen ∷ greater ∷ []) ∷ (variants_signs level vs ++ new_line ∷ [])) ++ sign level (close_brace ∷ []) ∷ [])
  placeable_signs level (inline (t.nested e)) = sign level (open_brace ∷ open_brace ∷ space ∷ []) ∷ (expression_signs level e ++ sign level (closing_nested e) ∷ [])
  placeable_signs level (inline (t.string_literal s)) = in_braces level (inline_signs level (t.string_literal s))
  placeable_signs level (inline (t.number_literal s)) = in_braces level (inline_signs level (t.number_literal s))
  placeable_signs level (inline (t.function_reference s a)) = in_braces level (inline_signs level (t.function_reference s a))
  placeable_signs level (inline (t.message_reference s a)) = in_braces level (inline_signs level (t.message_reference s a))
  placeable_signs level (inline (t.term_reference s a c)) = in_braces level (inline_signs level (t.term_reference s a c))
  placeable_signs level (inline (t.variable_reference s)) = in_braces level (inline_signs level (t.variable_reference s))

  -- an expression between its braces; a select up to the line feed before the closing brace
  pub expression_signs : ℕ → Expression → List Sign
  expression_signs level (select s vs) = inline_signs level s ++ sign level (space ∷ hyphen ∷ greater ∷ []) ∷ (variants_signs level vs ++ new_line ∷ [])
  expression_signs level (inline i) = inline_signs level i

  -- the variants of a select, the pattern of each two levels in
  pub variants_signs : ℕ → Variants → List Sign
  variants_signs level no_variants = []
  variants_signs level (variant key es default vs) = (variant_head_signs level key default ++ pattern_start (level + 2) es ∷ elements_signs (level + 2) es) ++ variants_signs level vs

  -- an inline expression anywhere else
  pub inline_signs : ℕ → Inline → List Sign
  inline_signs level (t.string_literal s) = sign level (quote ∷ []) ∷ sign level s ∷ sign level (quote ∷ []) ∷ []
  inline_signs level (t.number_literal s) = sign level s ∷ []
  inline_signs level (t.function_reference s a) = sign level s ∷ arguments_signs level a
  inline_signs level (t.message_reference s a) = sign level s ∷ accessor_signs level a
  inline_signs level (t.term_reference s a c) = (sign level (hyphen ∷ []) ∷ sign level s ∷ accessor_signs level a) ++ maybe_arguments_signs level c
  inline_signs level (t.variable_reference s) = sign level (dollar ∷ []) ∷ sign level s ∷ []
  inline_signs level (t.nested e) = sign level (open_brace ∷ []) ∷ (expression_signs level e ++ sign level (close_brace ∷ []) ∷ [])

  pub maybe_arguments_signs : ℕ → MaybeArguments → List Sign
  maybe_arguments_signs level no_arguments = []
  maybe_arguments_signs level (with_arguments a) = arguments_signs level a

  pub arguments_signs : ℕ → Arguments → List Sign
  arguments_signs level (arguments ps ns) = sign level (open_paren ∷ []) ∷ ((inlines_signs level false ps ++ nameds_signs level (has_positional ps) ns) ++ sign level (close_paren ∷ []) ∷ [])

  -- arguments without a name; whether one was written before
  pub inlines_signs : ℕ → Bool → Inlines → List Sign
  inlines_signs level after no_inlines = []
  inlines_signs level after (positional e ps) = between level after ++ (inline_signs level e ++ inlines_signs level true ps)

  -- arguments with a name; whether one was written before
  pub nameds_signs : ℕ → Bool → Nameds → List Sign
  nameds_signs level after no_nameds = []
  nameds_signs level after (named name e ns) = argument_name_signs level after name ++ (inline_signs level e ++ nameds_signs level true ns)

-- a pattern at its level
abbrev pub pattern_signs : ℕ → Elements → List Sign
pattern_signs level es = pattern_start level es ∷ elements_signs level es

abbrev pub value_signs : Option Elements → List Sign
value_signs None = []
value_signs (Some es) = pattern_signs 1 es

-- each attribute on a line of its own, one level in, and its pattern two
abbrev pub attributes_signs : List Attribute → List Sign
attributes_signs [] = []
attributes_signs (a ∷ more) = (new_line ∷ sign 1 (dot ∷ []) ∷ sign 1 a.id ∷ sign 1 (space ∷ equals ∷ []) ∷ pattern_signs 2 a.value) ++ attributes_signs more

-- what is after the sign of a comment's line: nothing if the line is empty or white space alone
abbrev pub comment_text_signs : Text → List Sign
comment_text_signs line = if length (trim_end line) == 0 then [] else sign 0 (space ∷ []) ∷ sign 0 line ∷ []

-- a comment, each line after its sign
abbrev pub comment_signs : Text → List Text → List Sign
comment_signs level [] = []
comment_signs level (line ∷ lines) = (sign 0 level ∷ (comment_text_signs line ++ new_line ∷ [])) ++ comment_signs level lines

-- the comment of a message or a term, right above it
abbrev pub own_comment_signs : Option (List Text) → List Sign
own_comment_signs None = []
own_comment_signs (Some lines) = comment_signs (number_sign ∷ []) lines

abbrev pub message_signs : Message → List Sign
message_signs m = own_comment_signs m.comment ++ ((sign 0 m.id ∷ sign 0 (space ∷ equals ∷ []) ∷ value_signs m.value) ++ (attributes_signs m.attributes ++ new_line ∷ []))

abbrev pub term_signs : Term → List Sign
term_signs m = own_comment_signs m.comment ++ ((sign 0 (hyphen ∷ []) ∷ sign 0 m.id ∷ sign 0 (space ∷ equals ∷ []) ∷ pattern_signs 1 m.value) ++ (attributes_signs m.attributes ++ new_line ∷ []))

-- the line feed before a comment that stands by itself, after another entry
abbrev pub gap_signs : Bool → List Sign
gap_signs after = if after then new_line ∷ [] else []

abbrev pub free_comment_signs : Bool → Text → List Text → List Sign
free_comment_signs after level lines = gap_signs after ++ (comment_signs level lines ++ new_line ∷ [])

abbrev pub junk_signs : Bool → Text → List Sign
junk_signs with_junk s = if with_junk then sign 0 s ∷ [] else []

-- an entry; whether one that isn't junk stands right before it
abbrev pub entry_signs : Bool → Bool → Entry → List Sign
entry_signs with_junk after (t.message m) = message_signs m
entry_signs with_junk after (t.term m) = term_signs m
entry_signs with_junk after (t.comment c) = free_comment_signs after (number_sign ∷ []) c
entry_signs with_junk after (t.group_comment c) = free_comment_signs after (number_sign ∷ number_sign ∷ []) c
entry_signs with_junk after (t.resource_comment c) = free_comment_signs after (number_sign ∷ number_sign ∷ number_sign ∷ []) c
entry_signs with_junk after (t.junk s) = junk_signs with_junk s

abbrev pub is_no_junk : Entry → Bool
is_no_junk (t.message m) = true
is_no_junk (t.term m) = true
is_no_junk (t.comment c) = true
is_no_junk (t.group_comment c) = true
is_no_junk (t.resource_comment c) = true
is_no_junk (t.junk s) = false

-- the entries; whether one that isn't junk stands right before the first
abbrev pub entries_signs : Bool → Bool → List Entry → List Sign
entries_signs with_junk after [] = []
entries_signs with_junk after (e ∷ es) = entry_signs with_junk after e ++ entries_signs with_junk (is_no_junk e) es

-- the written text of a tree, with its junk or without
abbrev pub written_with : Bool → List Entry → Text
written_with with_junk es = laid_out false (entries_signs with_junk false es)

abbrev pub written : List Entry → Text
written = written_with false
