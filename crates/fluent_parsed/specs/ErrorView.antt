-- Errors as plain data, and which error reports which refusal.
use Rattle.std.specs.Prelude.{ℕ, List, [], ◌∷◌, Option, Some, option_map, codes, string_bytes}
use Rattle.std.specs.declared.ops.Range.{Range}
use Rattle.fluent_grammar.specs.Refusal as r
use Rattle.fluent_grammar.specs.Words.{line_feed, carriage_return, space}
use Rattle.fluent_grammar.specs.Tiling as grammar
use Rattle.fluent_parsed.specs.declared.errors.ErrorKind.{ErrorKind}
use Rattle.fluent_parsed.specs.declared.errors.ErrorKind.TheVariants as kind
use Rattle.fluent_parsed.specs.declared.errors.ParserError.{ParserError}

-- what an `ErrorKind` says: its variant, and the bytes of its text
pub data KindView : Type 0 where
  expected_token : ℕ → KindView
  expected_char_range : List ℕ → KindView
  expected_message_field : List ℕ → KindView
  expected_term_field : List ℕ → KindView
  forbidden_callee : KindView
  missing_default_variant : KindView
  missing_value : KindView
  multiple_default_variants : KindView
  message_reference_as_selector : KindView
  term_reference_as_selector : KindView
  message_attribute_as_selector : KindView
  term_attribute_as_placeable : KindView
  unterminated_string_literal : KindView
  positional_argument_follows_named : KindView
  duplicated_named_argument : List ℕ → KindView
  unknown_escape_sequence : List ℕ → KindView
  invalid_unicode_escape_sequence : List ℕ → KindView
  unbalanced_closing_brace : KindView
  expected_inline_expression : KindView
  expected_simple_expression_as_selector : KindView
  expected_literal : KindView

-- what an `ErrorKind` says
abbrev pub kind_view : ErrorKind → KindView
kind_view (kind.ExpectedToken c) = expected_token c
kind_view (kind.ExpectedCharRange s) = expected_char_range (string_bytes s)
kind_view (kind.ExpectedMessageField s) = expected_message_field (string_bytes s)
kind_view (kind.ExpectedTermField s) = expected_term_field (string_bytes s)
kind_view kind.ForbiddenCallee = forbidden_callee
kind_view kind.MissingDefaultVariant = missing_default_variant
kind_view kind.MissingValue = missing_value
kind_view kind.MultipleDefaultVariants = multiple_default_variants
kind_view kind.MessageReferenceAsSelector = message_reference_as_selector
kind_view kind.TermReferenceAsSelector = term_reference_as_selector
kind_view kind.MessageAttributeAsSelector = message_attribute_as_selector
kind_view kind.TermAttributeAsPlaceable = term_attribute_as_placeable
kind_view kind.UnterminatedStringLiteral = unterminated_string_literal
kind_view kind.PositionalArgumentFollowsNamed = positional_argument_follows_named
kind_view (kind.DuplicatedNamedArgument s) = duplicated_named_argument (string_bytes s)
kind_view (kind.UnknownEscapeSequence s) = unknown_escape_sequence (string_bytes s)
kind_view (kind.InvalidUnicodeEscapeSequence s) = invalid_unicode_escape_sequence (string_bytes s)
kind_view kind.UnbalancedClosingBrace = unbalanced_closing_brace
kind_view kind.ExpectedInlineExpression = expected_inline_expression
kind_view kind.ExpectedSimpleExpressionAsSelector = expected_simple_expression_as_selector
kind_view kind.ExpectedLiteral = expected_literal

-- the name of the variant, which is the text that it shows
abbrev pub kind_name : KindView → List ℕ
kind_name (expected_token s) = codes "ExpectedToken"
kind_name (expected_char_range s) = codes "ExpectedCharRange"
kind_name (expected_message_field s) = codes "ExpectedMessageField"
kind_name (expected_term_field s) = codes "ExpectedTermField"
kind_name forbidden_callee = codes "ForbiddenCallee"
kind_name missing_default_variant = codes "MissingDefaultVariant"
kind_name missing_value = codes "MissingValue"
kind_name multiple_default_variants = codes "MultipleDefaultVariants"
kind_name message_reference_as_selector = codes "MessageReferenceAsSelector"
kind_name term_reference_as_selector = codes "TermReferenceAsSelector"
kind_name message_attribute_as_selector = codes "MessageAttributeAsSelector"
kind_name term_attribute_as_placeable = codes "TermAttributeAsPlaceable"
kind_name unterminated_string_literal = codes "UnterminatedStringLiteral"
kind_name positional_argument_follows_named = codes "PositionalArgumentFollowsNamed"
kind_name (duplicated_named_argument s) = codes "DuplicatedNamedArgument"
kind_name (unknown_escape_sequence s) = codes "UnknownEscapeSequence"
kind_name (invalid_unicode_escape_sequence s) = codes "InvalidUnicodeEscapeSequence"
kind_name unbalanced_closing_brace = codes "UnbalancedClosingBrace"
kind_name expected_inline_expression = codes "ExpectedInlineExpression"
kind_name expected_simple_expression_as_selector = codes "ExpectedSimpleExpressionAsSelector"
kind_name expected_literal = codes "ExpectedLiteral"

-- the range of what ends a line: LF, space, bar, space, CR, LF
abbrev pub line_end_range : List ℕ
line_end_range = line_feed ∷ space ∷ 124 ∷ space ∷ carriage_return ∷ line_feed ∷ []

-- what reports a refusal
abbrev pub told : r.Kind → KindView
told (r.expected_token c) = expected_token c
told r.expected_letter = expected_char_range (codes "a-zA-Z")
told r.expected_digit = expected_char_range (codes "0-9")
told r.expected_line_end = expected_char_range line_end_range
told (r.expected_message_field id) = expected_message_field id
told (r.expected_term_field id) = expected_term_field id
told r.forbidden_callee = forbidden_callee
told r.missing_value = missing_value
told r.multiple_default_variants = multiple_default_variants
told r.missing_default_variant = missing_default_variant
told r.message_reference_as_selector = message_reference_as_selector
told r.term_reference_as_selector = term_reference_as_selector
told r.expected_simple_expression_as_selector = expected_simple_expression_as_selector
told r.term_attribute_as_placeable = term_attribute_as_placeable
told r.unterminated_string_literal = unterminated_string_literal
told (r.unknown_escape_sequence s) = unknown_escape_sequence s
told (r.invalid_unicode_escape_sequence s) = invalid_unicode_escape_sequence s
told r.positional_argument_follows_named = positional_argument_follows_named
told (r.duplicated_named_argument s) = duplicated_named_argument s
told r.unbalanced_closing_brace = unbalanced_closing_brace
told r.expected_inline_expression = expected_inline_expression
told r.expected_literal = expected_literal

-- a range of bytes
pub record Span : Type 0 where
  pub start : ℕ
  pub end : ℕ

-- what a `ParserError` says, in bytes of the source
pub record ErrorView : Type 0 where
  pub pos : Span
  pub slice : Option Span
  pub kind : KindView

-- a `Range`
abbrev pub span : Range ℕ → Span
span range = record { start = range.start; end = range.end }

-- what a `ParserError` says
abbrev pub error_view : ParserError → ErrorView
error_view e = record { pos = span e.pos; slice = option_map span e.slice; kind = kind_view e.kind }

-- what reports an error of the grammar: its place, and its junk as the slice
abbrev pub error_told : grammar.ParserError → ErrorView
error_told e = record { pos = record { start = e.pos_start; end = e.pos_end }; slice = Some (record { start = e.slice_start; end = e.slice_end }); kind = told e.kind }
