-- Which refusal an error tells of.
use Rattle.std.specs.Prelude.{if◌then◌else◌, codes}
use Rattle.std.specs.Str.{bytes_eq}
use Rattle.fluent_grammar.specs.Words.{Text}
use Rattle.fluent_grammar.specs.Refusal as r
use Rattle.fluent_parsed.specs.ErrorView.{KindView, kind_view, expected_token, expected_char_range, expected_message_field, expected_term_field, forbidden_callee, missing_default_variant, missing_value, multiple_default_variants, message_reference_as_selector, term_reference_as_selector, message_attribute_as_selector, term_attribute_as_placeable, unterminated_string_literal, positional_argument_follows_named, duplicated_named_argument, unknown_escape_sequence, invalid_unicode_escape_sequence, unbalanced_closing_brace, expected_inline_expression, expected_simple_expression_as_selector, expected_literal}
use Rattle.fluent_parsed.specs.declared.errors.ErrorKind.{ErrorKind}

-- The kind of refusal that is told so. No source has the error of a message's attribute as a selector.
abbrev pub kind_of : KindView → r.Kind
kind_of (expected_token c) = r.expected_token c
kind_of (expected_char_range range) =
    if bytes_eq range (codes "a-zA-Z") then r.expected_letter
    else if bytes_eq range (codes "0-9") then r.expected_digit
    else r.expected_line_end
kind_of (expected_message_field id) = r.expected_message_field id
kind_of (expected_term_field id) = r.expected_term_field id
kind_of forbidden_callee = r.forbidden_callee
kind_of missing_default_variant = r.missing_default_variant
kind_of missing_value = r.missing_value
kind_of multiple_default_variants = r.multiple_default_variants
kind_of message_reference_as_selector = r.message_reference_as_selector
kind_of term_reference_as_selector = r.term_reference_as_selector
kind_of message_attribute_as_selector = r.message_reference_as_selector
kind_of term_attribute_as_placeable = r.term_attribute_as_placeable
kind_of unterminated_string_literal = r.unterminated_string_literal
kind_of positional_argument_follows_named = r.positional_argument_follows_named
kind_of (duplicated_named_argument name) = r.duplicated_named_argument name
kind_of (unknown_escape_sequence s) = r.unknown_escape_sequence s
kind_of (invalid_unicode_escape_sequence s) = r.invalid_unicode_escape_sequence s
kind_of unbalanced_closing_brace = r.unbalanced_closing_brace
kind_of expected_inline_expression = r.expected_inline_expression
kind_of expected_simple_expression_as_selector = r.expected_simple_expression_as_selector
kind_of expected_literal = r.expected_literal

-- the refusal that an error of this kind tells of, where this text is
abbrev pub refusal_by : ErrorKind → Text → r.Refusal
refusal_by kind at = record { kind = kind_of (kind_view kind); at = at }
