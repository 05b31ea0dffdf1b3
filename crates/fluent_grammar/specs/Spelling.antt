-- The grammar, as a relation: a text begins with a node, and the rest is what follows the node. One constructor is one
-- rule. A text is the rest of a source, and no rule looks at what stands before it. The order in which a reader tries
-- things, how deep it may go and what it refuses are not said here: see `Reading`. The words are in `Lexical`.
use Rattle.std.specs.Prelude.{◌≡◌, ◌≢◌, ◌⊎◌, ℕ, Bool, true, false, ◌==◌, List, [], ◌∷◌, ◌++◌, drop, Option, Some, None}
use Rattle.std.specs.List.{list_all}
use Rattle.fluent_grammar.specs.Words.{Text, line_feed, quote, dollar, open_paren, close_paren, asterisk, hyphen, dot, colon, equals, greater, space, open_bracket, close_bracket, open_brace, close_brace, is_callee_byte, begins_with, spaces, skip_spaces, begins_crlf, after_line_end, skip_blank, skip_blank_block, begins_arrow, skip_separator, is_among, comment_level}
use Rattle.fluent_grammar.specs.Lexical.{SpellsLineEnd, SpellsRestOfLine, SpellsName, SpellsNumber, SpellsString, SpellsAccessor, SpellsKey, SpellsLiteral, SpellsText}
use Rattle.fluent_grammar.specs.Lines.{Piece, at_line_start, in_line, placed, elements_of, ends_line, pattern_ends, value_of}
use Rattle.fluent_grammar.specs.Tree as t

-- Expressions that a placeable may hold without a select: all but a term's attribute.
abbrev pub may_stand_alone : t.Inline → Bool
may_stand_alone (t.term_reference id (Some attribute) args) = false
may_stand_alone _ = true

-- Selectors: a string or number literal, a variable, a call, a message's attribute, a term's attribute.
abbrev pub may_be_selector : t.Inline → Bool
may_be_selector (t.string_literal raw) = true
may_be_selector (t.number_literal number) = true
may_be_selector (t.function_reference id args) = true
may_be_selector (t.message_reference id None) = false
may_be_selector (t.message_reference id (Some attribute)) = true
may_be_selector (t.term_reference id None args) = false
may_be_selector (t.term_reference id (Some attribute) args) = true
may_be_selector (t.variable_reference id) = true
may_be_selector (t.nested e) = false

-- An expression before a rest is no named argument's name: an identifier before a colon is one.
abbrev pub IsPositional : t.Inline → Text → Type 0
IsPositional (t.message_reference id None) rest = begins_with colon rest ≡ false
IsPositional _ rest = Unit {0}

-- A text piece begins here: no brace, no CR LF, and not the end of the text.
pub record BeginsText (s : Text) : Type 0 where
  pub not_end : s ≢ []
  pub no_brace : begins_with open_brace s ≡ false
  pub no_crlf : begins_crlf s ≡ false

mutual
  -- InlineExpression
  pub data SpellsInline : t.Inline → Text → Text → Type 0 where
    -- StringLiteral
    a_string_literal : {raw s u rest : Text} → s ≡ quote ∷ u → SpellsString raw u rest → SpellsInline (t.string_literal raw) s rest
    -- NumberLiteral
    a_number_literal : {number s rest : Text} → SpellsNumber number s rest → SpellsInline (t.number_literal number) s rest
    -- VariableReference
    a_variable_reference : {name s u rest : Text} → s ≡ dollar ∷ u → SpellsName name u rest → SpellsInline (t.variable_reference name) s rest
    -- TermReference: the attribute stands directly after the name.
    a_term_reference : {name s u v w rest : Text} {attribute : Option Text} {arguments : t.MaybeArguments} → s ≡ hyphen ∷ u → SpellsName name u v →
        SpellsAccessor attribute v w → SpellsMaybeArguments arguments (skip_blank w) rest → SpellsInline (t.term_reference name attribute arguments) s rest
    -- MessageReference: blank may stand before the dot, and is taken if no dot follows, too.
    a_message_reference : {name s u rest : Text} {attribute : Option Text} → SpellsName name s u → begins_with open_paren (skip_blank u) ≡ false →
        SpellsAccessor attribute (skip_blank u) rest → SpellsInline (t.message_reference name attribute) s rest
    -- FunctionReference: the name has no small letter.
    a_function_reference : {name s u v rest : Text} {arguments : t.Arguments} → SpellsName name s u → list_all is_callee_byte name ≡ true →
        skip_blank u ≡ open_paren ∷ v → SpellsArguments [] arguments (skip_blank v) rest → SpellsInline (t.function_reference name arguments) s rest
    -- InlinePlaceable
    a_placeable : {s rest : Text} {e : t.Expression} → SpellsPlaceable e s rest → SpellsInline (t.nested e) s rest

  -- CallArguments of a term, which may be absent. The blank before them was read.
  pub data SpellsMaybeArguments : t.MaybeArguments → Text → Text → Type 0 where
    no_call : {s : Text} → begins_with open_paren s ≡ false → SpellsMaybeArguments t.no_arguments s s
    a_call : {s u rest : Text} {arguments : t.Arguments} → s ≡ open_paren ∷ u → SpellsArguments [] arguments (skip_blank u) rest →
        SpellsMaybeArguments (t.with_arguments arguments) s rest

  -- CallArguments, what is left of them after named arguments of these names, to and with the closing parenthesis.
  -- Positional arguments come first, and no name comes twice. After each there may be blank, a comma and blank.
  pub data SpellsArguments : List Text → t.Arguments → Text → Text → Type 0 where
    no_more : {names : List Text} {s rest : Text} → s ≡ close_paren ∷ rest → SpellsArguments names (t.arguments t.no_inlines t.no_nameds) s rest
    -- Argument
    positional : {s u rest : Text} {e : t.Inline} {ps : t.Inlines} {ns : t.Nameds} → SpellsInline e s u → IsPositional e u →
        SpellsArguments [] (t.arguments ps ns) (skip_separator u) rest → SpellsArguments [] (t.arguments (t.positional e ps) ns) s rest
    -- NamedArgument
    named : {names : List Text} {name s u v w rest : Text} {e : t.Inline} {ps : t.Inlines} {ns : t.Nameds} → SpellsName name s u →
        skip_blank u ≡ colon ∷ v → is_among name names ≡ false → SpellsLiteral e (skip_blank v) w →
        SpellsArguments (name ∷ names) (t.arguments ps ns) (skip_separator w) rest → SpellsArguments names (t.arguments ps (t.named name e ns)) s rest

  -- InlinePlaceable and BlockPlaceable
  pub data SpellsPlaceable : t.Expression → Text → Text → Type 0 where
    in_braces : {s u v rest : Text} {e : t.Expression} → s ≡ open_brace ∷ u → SpellsExpression e (skip_blank u) v → skip_blank v ≡ close_brace ∷ rest →
        SpellsPlaceable e s rest

  -- The expression of a placeable, with the blank after an inline one.
  pub data SpellsExpression : t.Expression → Text → Text → Type 0 where
    an_inline : {s u : Text} {e : t.Inline} → SpellsInline e s u → begins_arrow (skip_blank u) ≡ false → may_stand_alone e ≡ true →
        SpellsExpression (t.inline e) s (skip_blank u)
    -- SelectExpression
    a_select : {s u v w rest : Text} {e : t.Inline} {vs : t.Variants} → SpellsInline e s u → skip_blank u ≡ hyphen ∷ greater ∷ v →
        may_be_selector e ≡ true → after_line_end (skip_spaces v) ≡ Some w → SpellsVariants false vs (skip_blank w) rest →
        SpellsExpression (t.select e vs) s rest

  -- The variants that are left, if the default was marked before, or not yet.
  pub data SpellsVariants : Bool → t.Variants → Text → Text → Type 0 where
    all_read : {s : Text} → begins_with asterisk s ≡ false → begins_with open_bracket s ≡ false → SpellsVariants true t.no_variants s s
    -- A `*` without a variant counts as the mark. Fluent Syntax 1.0 has no such rule.
    lone_mark : {s u : Text} → s ≡ asterisk ∷ u → begins_with open_bracket u ≡ false → SpellsVariants false t.no_variants s u
    -- Variant
    a_variant : {marked : Bool} {s u rest : Text} {key : t.VariantKey} {value : t.Elements} {vs : t.Variants} → SpellsVariant key value s u →
        SpellsVariants marked vs (skip_blank u) rest → SpellsVariants marked (t.variant key value false vs) s rest
    -- DefaultVariant
    the_default : {s u v rest : Text} {key : t.VariantKey} {value : t.Elements} {vs : t.Variants} → s ≡ asterisk ∷ u → SpellsVariant key value u v →
        SpellsVariants true vs (skip_blank v) rest → SpellsVariants false (t.variant key value true vs) s rest

  -- VariantKey in its brackets, and the variant's pattern.
  pub data SpellsVariant : t.VariantKey → t.Elements → Text → Text → Type 0 where
    keyed : {s u v w rest : Text} {key : t.VariantKey} {value : t.Elements} → s ≡ open_bracket ∷ u → SpellsKey key (skip_blank u) v →
        skip_blank v ≡ close_bracket ∷ w → SpellsPattern value w rest → value ≢ t.no_elements → SpellsVariant key value s rest

  -- Pattern. If it has no elements there is no pattern, and what is spelled is blank.
  pub data SpellsPattern : t.Elements → Text → Text → Type 0 where
    on_the_line : {s rest : Text} {ps : List Piece} {value : t.Elements} → after_line_end (skip_spaces s) ≡ None →
        SpellsPieces ps (skip_spaces s) rest → value ≡ elements_of ps → SpellsPattern value s rest
    on_the_next : {s u rest : Text} {ps : List Piece} {value : t.Elements} → after_line_end (skip_spaces s) ≡ Some u →
        SpellsLine ps (skip_blank_block u) rest → value ≡ elements_of ps → SpellsPattern value s rest

  -- PatternElements, as pieces: from within a line on.
  pub data SpellsPieces : List Piece → Text → Text → Type 0 where
    nothing_left : SpellsPieces [] [] []
    -- A CR LF gives a piece that is one LF.
    crlf_piece : {s rest : Text} {ps : List Piece} → begins_crlf s ≡ true → SpellsLine ps (drop 2 s) rest → SpellsPieces (in_line (line_feed ∷ []) ∷ ps) s rest
    text_piece : {piece s u rest : Text} {ps : List Piece} → BeginsText s → SpellsText piece s u → SpellsBehindText (ends_line piece) ps u rest →
        SpellsPieces (in_line piece ∷ ps) s rest
    placeable_piece : {s u rest : Text} {e : t.Expression} {ps : List Piece} → SpellsPlaceable e s u → SpellsPieces ps u rest →
        SpellsPieces (placed false e ∷ ps) s rest

  -- PatternElements, as pieces: from the start of a line on. Spaces at the end of the text are taken. Spaces before a
  -- byte that ends the pattern are not.
  pub data SpellsLine : List Piece → Text → Text → Type 0 where
    only_spaces_left : {s : Text} → skip_spaces s ≡ [] → SpellsLine [] s []
    pattern_over : {s : Text} → skip_spaces s ≢ [] → pattern_ends s ≡ true → SpellsLine [] s s
    line_of_text : {piece s u rest : Text} {ps : List Piece} → pattern_ends s ≡ false → BeginsText (skip_spaces s) → SpellsText piece (skip_spaces s) u →
        SpellsBehindText (ends_line piece) ps u rest → SpellsLine (at_line_start (spaces s) piece ∷ ps) s rest
    line_of_placeable : {s u rest : Text} {e : t.Expression} {ps : List Piece} → pattern_ends s ≡ false → SpellsPlaceable e (skip_spaces s) u →
        SpellsPieces ps u rest → SpellsLine (placed (spaces s == 0) e ∷ ps) s rest
    line_of_crlf : {s rest : Text} {ps : List Piece} → pattern_ends s ≡ false → begins_crlf (skip_spaces s) ≡ true → SpellsPieces ps (skip_spaces s) rest →
        SpellsLine ps s rest

  -- What is after a text piece: the next line if the piece ended its line, otherwise more of this one.
  pub data SpellsBehindText : Bool → List Piece → Text → Text → Type 0 where
    next_line : {s rest : Text} {ps : List Piece} → SpellsLine ps s rest → SpellsBehindText true ps s rest
    same_line : {s rest : Text} {ps : List Piece} → SpellsPieces ps s rest → SpellsBehindText false ps s rest

-- An identifier, blank inline, `=` and what may be a pattern: the beginning of a message, a term or an attribute.
pub data SpellsHead : Text → t.Elements → Text → Text → Type 0 where
  a_head : {id s u v rest : Text} {value : t.Elements} → SpellsName id s u → skip_spaces u ≡ equals ∷ v → SpellsPattern value v rest →
      SpellsHead id value s rest

-- Attribute, from the start of its line on.
pub data SpellsAttribute : t.Attribute → Text → Text → Type 0 where
  an_attribute : {id s u rest : Text} {value : t.Elements} → skip_spaces s ≡ dot ∷ u → SpellsHead id value u rest → value ≢ t.no_elements →
      SpellsAttribute (record { id = id; value = value }) s rest

-- Attributes, one directly after the other, as many as can be read.
pub data SpellsAttributes : List t.Attribute → Text → Text → Type 0 where
  no_more_attributes : {s : Text} → ((a : t.Attribute) (rest : Text) → SpellsAttribute a s rest → ⊥) → SpellsAttributes [] s s
  one_more_attribute : {s u rest : Text} {a : t.Attribute} {others : List t.Attribute} → SpellsAttribute a s u → SpellsAttributes others u rest →
      SpellsAttributes (a ∷ others) s rest

-- CommentLine after its sign: a line end, or a space and the rest of the line. Nothing, at the end of the text, adds no
-- line.
pub data SpellsCommentText : List Text → Text → Text → Type 0 where
  at_end : SpellsCommentText [] [] []
  empty_line : {s rest : Text} → SpellsLineEnd s rest → SpellsCommentText ([] ∷ []) s rest
  some_line : {line s rest : Text} → SpellsRestOfLine line s rest → SpellsCommentText (line ∷ []) (space ∷ s) rest

-- CommentLine of a level: one sign, `#`, `##` or `###`.
pub record SpellsCommentLine (level : ℕ) (lines : List Text) (text rest : Text) : Type 0 where
  pub sign : comment_level text ≡ level
  pub content : SpellsCommentText lines (drop level text) rest

-- More lines of a comment of a level, as many as can be read.
pub data SpellsCommentLines : ℕ → List Text → Text → Text → Type 0 where
  no_more_lines : {level : ℕ} {s : Text} → ((lines : List Text) (rest : Text) → SpellsCommentLine level lines s rest → ⊥) → SpellsCommentLines level [] s s
  one_more_line : {level : ℕ} {s u rest : Text} {line others : List Text} → SpellsCommentLine level line s u → SpellsCommentLines level others u rest →
      SpellsCommentLines level (line ++ others) s rest

-- A comment of a level: a line, and more of them.
pub data SpellsComment : ℕ → List Text → Text → Text → Type 0 where
  some_lines : {level : ℕ} {s u rest : Text} {line others : List Text} → SpellsCommentLine level line s u → SpellsCommentLines level others u rest →
      SpellsComment level (line ++ others) s rest

-- Entry, at column 0. The comment that stands above a message or a term is an entry of its own here: `Tiling` sets it.
pub data SpellsEntry : t.Entry → Text → Text → Type 0 where
  -- Message: a pattern, an attribute, or both.
  a_message : {id s u rest : Text} {value : t.Elements} {attributes : List t.Attribute} → SpellsHead id value s u →
      SpellsAttributes attributes (skip_blank_block u) rest → (value ≢ t.no_elements) ⊎ (attributes ≢ []) →
      SpellsEntry (t.message (record { id = id; value = value_of value; attributes = attributes; comment = None })) s rest
  -- Term: a pattern, and attributes if there are any.
  a_term : {id s u v rest : Text} {value : t.Elements} {attributes : List t.Attribute} → s ≡ hyphen ∷ u → SpellsHead id value u v →
      SpellsAttributes attributes (skip_blank_block v) rest → value ≢ t.no_elements →
      SpellsEntry (t.term (record { id = id; value = value; attributes = attributes; comment = None })) s rest
  a_comment : {s rest : Text} {lines : List Text} → SpellsComment 1 lines s rest → SpellsEntry (t.comment lines) s rest
  a_group_comment : {s rest : Text} {lines : List Text} → SpellsComment 2 lines s rest → SpellsEntry (t.group_comment lines) s rest
  a_resource_comment : {s rest : Text} {lines : List Text} → SpellsComment 3 lines s rest → SpellsEntry (t.resource_comment lines) s rest
