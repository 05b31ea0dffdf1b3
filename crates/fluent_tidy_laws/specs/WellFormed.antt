-- Well-formed trees: what reading gives if there is no shape, and what its written text spells.
use Rattle.std.specs.Prelude.{◌≡◌, ◌≢◌, ℕ, suc, Bool, true, false, not, ◌&&◌, ◌||◌, ◌==◌, if◌then◌else◌, List, [], ◌∷◌, ◌++◌, length, Option, Some, None}
use Rattle.std.specs.List.{list_all}
use Rattle.std.specs.Str.{trim_end}
use Rattle.fluent_grammar.specs.Words.{Text, line_feed, carriage_return, quote, close_brace, is_letter, is_name_byte, is_callee_byte, begins, spaces, skip_spaces, is_among}
use Rattle.fluent_grammar.specs.Tree as t
use Rattle.fluent_grammar.specs.Lexical.{is_text_byte}
use Rattle.fluent_grammar.specs.Lines.{is_blank_text, ends_line, ends_behind_spaces}
use Rattle.fluent_grammar.specs.Spelling.{may_stand_alone, may_be_selector}
use Rattle.fluent_grammar.specs.Refusal.{got}
use Rattle.fluent_grammar.specs.Reading.{number_at, string_content}
use Rattle.fluent_grammar.specs.Written.{is_many_lined}
use Rattle.fluent_tidy_laws.specs.Shapes.{is_white_line}

-- ---- words

pub record IsName (name : Text) : Type 0 where
  pub letter_first : begins is_letter name ≡ true
  pub bytes : list_all is_name_byte name ≡ true

-- A number literal is read as a whole before a brace.
pub record IsNumber (number : Text) : Type 0 where
  pub read : number_at (number ++ close_brace ∷ []) ≡ got number (close_brace ∷ [])

-- So is what stands between quotes before a quote.
pub record IsRaw (raw : Text) : Type 0 where
  pub read : string_content (raw ++ quote ∷ []) ≡ got raw []

abbrev pub IsAttribute : Option Text → Type 0
IsAttribute None = Unit {0}
IsAttribute (Some name) = IsName name

abbrev pub IsKey : t.VariantKey → Type 0
IsKey (t.identifier_key name) = IsName name
IsKey (t.number_key number) = IsNumber number

-- ---- texts of a pattern

-- no brace and no carriage return, and a line feed at the end alone
abbrev pub is_line : Text → Bool
is_line [] = true
is_line (c ∷ []) = c == line_feed || (is_text_byte c && not (c == carriage_return))
is_line (c ∷ d ∷ ds) = (is_text_byte c && not (c == carriage_return)) && is_line (d ∷ ds)

-- a text that may stand at the start of a line: it is blank and ends its line, or what follows its spaces doesn't end the pattern
abbrev pub may_start : Text → Bool
may_start s = if is_blank_text s then ends_line s else not (begins ends_behind_spaces (skip_spaces s))

-- whether some text at a line start, that isn't blank, begins without a space; the first is at one or not
abbrev pub has_margin : Bool → t.Elements → Bool
has_margin at t.no_elements = false
has_margin at (t.text s es) = (at && (not (is_blank_text s) && spaces s == 0)) || has_margin (ends_line s) es
has_margin at (t.placeable e es) = has_margin false es

-- no text at a line start is anything but blank, and none begins with a space
abbrev pub has_no_line : Bool → t.Elements → Bool
has_no_line at t.no_elements = true
has_no_line at (t.text s es) = (not at || (is_blank_text s && spaces s == 0)) && has_no_line (ends_line s) es
has_no_line at (t.placeable e es) = has_no_line false es

-- each text is a line, not empty, and is after a placeable or a text that ends its line; those at a line start may stand there
abbrev pub are_lines : Bool → Bool → t.Elements → Bool
are_lines behind at t.no_elements = true
are_lines behind at (t.text s es) = (not behind && (is_line s && (not (length s == 0) && (not at || may_start s)))) && are_lines (not (ends_line s)) (ends_line s) es
are_lines behind at (t.placeable e es) = are_lines false false es

-- The last element is a placeable, or a text that isn't blank, ends no line, and comes back when the line feed after it is trimmed.
abbrev pub EndsWell : t.Elements → Type 0
EndsWell t.no_elements = ⊥
EndsWell (t.text s t.no_elements) = (trim_end (s ++ line_feed ∷ []) ≡ s) × (is_blank_text s ≡ false) × (ends_line s ≡ false)
EndsWell (t.text s (t.text x es)) = EndsWell (t.text x es)
EndsWell (t.text s (t.placeable e es)) = EndsWell (t.placeable e es)
EndsWell (t.placeable e t.no_elements) = Unit {0}
EndsWell (t.placeable e (t.text x es)) = EndsWell (t.text x es)
EndsWell (t.placeable e (t.placeable x es)) = EndsWell (t.placeable x es)

abbrev pub first_is_not_blank : t.Elements → Bool
first_is_not_blank t.no_elements = false
first_is_not_blank (t.text s es) = not (is_blank_text s)
first_is_not_blank (t.placeable e es) = true

-- the first text begins without a space
abbrev pub begins_flush : t.Elements → Bool
begins_flush t.no_elements = true
begins_flush (t.text s es) = spaces s == 0
begins_flush (t.placeable e es) = true

-- The texts of a pattern, of many lines (the first text is then written at a line start) or on one line.
abbrev pub are_texts : Bool → t.Elements → Bool
are_texts true es = first_is_not_blank es && (are_lines false true es && (has_margin true es || has_no_line true es))
are_texts false es = first_is_not_blank es && (are_lines false false es && begins_flush es)

-- ---- trees

abbrev pub default_count : t.Variants → ℕ
default_count t.no_variants = 0
default_count (t.variant key es true vs) = suc (default_count vs)
default_count (t.variant key es false vs) = default_count vs

abbrev mutual
  pub WellFormedInline : t.Inline → Type 0
  WellFormedInline (t.string_literal raw) = IsRaw raw
  WellFormedInline (t.number_literal number) = IsNumber number
  WellFormedInline (t.function_reference name a) = IsName name × (list_all is_callee_byte name ≡ true) × WellFormedArguments a
  WellFormedInline (t.message_reference name attribute) = IsName name × IsAttribute attribute
  WellFormedInline (t.term_reference name attribute c) = IsName name × IsAttribute attribute × WellFormedMaybe c
  WellFormedInline (t.variable_reference name) = IsName name
  WellFormedInline (t.nested e) = WellFormedExpression e

  pub WellFormedMaybe : t.MaybeArguments → Type 0
  WellFormedMaybe t.no_arguments = Unit {0}
  WellFormedMaybe (t.with_arguments a) = WellFormedArguments a

  pub WellFormedArguments : t.Arguments → Type 0
  WellFormedArguments (t.arguments ps ns) = WellFormedInlines ps × WellFormedNameds ns []

  pub WellFormedInlines : t.Inlines → Type 0
  WellFormedInlines t.no_inlines = Unit {0}
  WellFormedInlines (t.positional e ps) = WellFormedInline e × WellFormedInlines ps

  -- after named arguments of these names
  pub WellFormedNameds : t.Nameds → List Text → Type 0
  WellFormedNameds t.no_nameds names = Unit {0}
  WellFormedNameds (t.named name e ns) names = IsName name × (is_among name names ≡ false) × WellFormedLiteral e × WellFormedNameds ns (name ∷ names)

  pub WellFormedLiteral : t.Inline → Type 0
  WellFormedLiteral (t.string_literal raw) = IsRaw raw
  WellFormedLiteral (t.number_literal number) = IsNumber number
  WellFormedLiteral (t.function_reference name a) = ⊥
  WellFormedLiteral (t.message_reference name a) = ⊥
  WellFormedLiteral (t.term_reference name a c) = ⊥
  WellFormedLiteral (t.variable_reference name) = ⊥
  WellFormedLiteral (t.nested e) = ⊥

  pub WellFormedExpression : t.Expression → Type 0
  WellFormedExpression (t.select i vs) = WellFormedInline i × (may_be_selector i ≡ true) × WellFormedVariants vs × (default_count vs ≡ 1)
  WellFormedExpression (t.inline i) = WellFormedInline i × (may_stand_alone i ≡ true)

  pub WellFormedVariants : t.Variants → Type 0
  WellFormedVariants t.no_variants = Unit {0}
  WellFormedVariants (t.variant key es default vs) = IsKey key × ((are_texts (is_many_lined es) es ≡ true) × EndsWell es × WellFormedElements es) × WellFormedVariants vs

  -- the placeables of a pattern
  pub WellFormedElements : t.Elements → Type 0
  WellFormedElements t.no_elements = Unit {0}
  WellFormedElements (t.text s es) = WellFormedElements es
  WellFormedElements (t.placeable e es) = WellFormedExpression e × WellFormedElements es

abbrev pub WellFormedPattern : t.Elements → Type 0
WellFormedPattern es = (are_texts (is_many_lined es) es ≡ true) × EndsWell es × WellFormedElements es

abbrev pub WellFormedAttributes : List t.Attribute → Type 0
WellFormedAttributes [] = Unit {0}
WellFormedAttributes (a ∷ more) = IsName a.id × WellFormedPattern a.value × WellFormedAttributes more

-- a line of a comment: no line feed, no carriage return, and not white space alone
abbrev pub is_comment_line : Text → Bool
is_comment_line s = list_all (λ c. not (c == line_feed || c == carriage_return)) s && not (is_white_line s)

abbrev pub WellFormedComment : List Text → Type 0
WellFormedComment lines = (lines ≢ []) × (list_all is_comment_line lines ≡ true)

abbrev pub WellFormedOwn : Option (List Text) → Type 0
WellFormedOwn None = Unit {0}
WellFormedOwn (Some lines) = WellFormedComment lines

abbrev pub WellFormedEntry : t.Entry → Type 0
WellFormedEntry (t.message m) = IsName m.id × WellFormedValue m.value m.attributes × WellFormedAttributes m.attributes × WellFormedOwn m.comment
  where
    WellFormedValue : Option t.Elements → List t.Attribute → Type 0
    WellFormedValue None attributes = attributes ≢ []
    WellFormedValue (Some es) attributes = WellFormedPattern es
WellFormedEntry (t.term m) = IsName m.id × WellFormedPattern m.value × WellFormedAttributes m.attributes × WellFormedOwn m.comment
WellFormedEntry (t.comment c) = WellFormedComment c
WellFormedEntry (t.group_comment c) = WellFormedComment c
WellFormedEntry (t.resource_comment c) = WellFormedComment c
WellFormedEntry (t.junk s) = ⊥

-- Of neighbours nothing is asked: writing puts an empty line after a free comment, and one before it, so that no
-- message takes it and no other comment runs on into it.
abbrev pub WellFormedTree : List t.Entry → Type 0
WellFormedTree [] = Unit {0}
WellFormedTree (e ∷ es) = WellFormedEntry e × WellFormedTree es
