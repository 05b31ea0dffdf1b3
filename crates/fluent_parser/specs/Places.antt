-- The error of an entry by its places in the source.
use Rattle.std.specs.Prelude.{ℕ, ◌+◌, Bool, true, false, Some}
use Rattle.fluent_parsed.specs.ErrorView.{KindView, expected_token, expected_char_range, expected_message_field, expected_term_field, forbidden_callee, missing_default_variant, missing_value, multiple_default_variants, message_reference_as_selector, term_reference_as_selector, message_attribute_as_selector, term_attribute_as_placeable, unterminated_string_literal, positional_argument_follows_named, duplicated_named_argument, unknown_escape_sequence, invalid_unicode_escape_sequence, unbalanced_closing_brace, expected_inline_expression, expected_simple_expression_as_selector, expected_literal, Span, ErrorView}

-- the two kinds that show an entry as a whole
abbrev pub shows_entry : KindView → Bool
shows_entry (expected_token c) = false
shows_entry (expected_char_range s) = false
shows_entry (expected_message_field s) = true
shows_entry (expected_term_field s) = true
shows_entry forbidden_callee = false
shows_entry missing_default_variant = false
shows_entry missing_value = false
shows_entry multiple_default_variants = false
shows_entry message_reference_as_selector = false
shows_entry term_reference_as_selector = false
shows_entry message_attribute_as_selector = false
shows_entry term_attribute_as_placeable = false
shows_entry unterminated_string_literal = false
shows_entry positional_argument_follows_named = false
shows_entry (duplicated_named_argument s) = false
shows_entry (unknown_escape_sequence s) = false
shows_entry (invalid_unicode_escape_sequence s) = false
shows_entry unbalanced_closing_brace = false
shows_entry expected_inline_expression = false
shows_entry expected_simple_expression_as_selector = false
shows_entry expected_literal = false

-- where an error is shown: the entry up to the place of the refusal, or one byte there
abbrev pub shown_span : Bool → ℕ → ℕ → Span
shown_span true start place = record { start = start; end = place }
shown_span false start place = record { start = place; end = place + 1 }

-- the error of the junk from `start` to `end`
abbrev pub error_by : KindView → ℕ → ℕ → ℕ → ErrorView
error_by kind start place end = record { pos = shown_span (shows_entry kind) start place; slice = Some (record { start = start; end = end }); kind = kind }
