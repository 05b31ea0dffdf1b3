-- What is reported of junk: which refusal, at which offset, and in which words.
use Rattle.std.specs.Prelude.{ℕ, ◌+◌, ◌-◌, ◌==◌, if◌then◌else◌, Bool, [], ◌∷◌, ◌++◌, length, take, drop, Option, Some, None, is_some, codes}
use Rattle.std.specs.Option.{option_map_or}
use Rattle.fluent_grammar.specs.Words.{Text, space, quote, hyphen, dot, equals, close_brace, close_bracket, close_paren, backslash, begins_with, skip_spaces, after_line_end, name_len}
use Rattle.fluent_grammar.specs.Refusal as r
use Rattle.fluent_grammar.specs.Refusal.{Kind, Refusal, Reading, got, refused}
use Rattle.fluent_grammar.specs.Tree as t
use Rattle.fluent_grammar.specs.Reading.{attribute_at, first_char}
use Rattle.fluent_grammar.specs.Tiling.{is_field_kind}

-- ---- which refusal, and where

-- whether junk begins with an attribute: spaces and a dot
abbrev pub begins_attribute : Text → Bool
begins_attribute s = begins_with dot (skip_spaces s)

abbrev pub attribute_refusal : Refusal → Reading t.Attribute → Refusal
attribute_refusal refusal (refused inner) = inner
attribute_refusal refusal (got a rest) = refusal

-- The refusal that is reported of junk. An attribute that isn't read isn't part of its entry, and its line becomes
-- junk. Then it is the refusal of the attribute.
abbrev pub reported_refusal : Text → Refusal → Refusal
reported_refusal s refusal = if begins_attribute s then attribute_refusal refusal (attribute_at s) else refusal

-- its offset, of junk that begins at this offset
abbrev pub reported_offset : ℕ → Text → Refusal → ℕ
reported_offset at s refusal = if is_field_kind refusal.kind then at else at + (length s - length refusal.at)

-- ---- the name in front of the sentence

-- an identifier after a sign, if there is one
abbrev pub signed_name : Text → Text → Option Text
signed_name sign s = if name_len s == 0 then None else Some (sign ++ take (name_len s) s)

-- The name at the front of junk, if there is one: of an attribute with its dot, of a term with its minus, or of a
-- message.
abbrev pub name_at_front : Text → Option Text
name_at_front s =
    if begins_attribute s then signed_name (dot ∷ []) (drop 1 (skip_spaces s))
    else if begins_with hyphen s then signed_name (hyphen ∷ []) (drop 1 s)
    else signed_name [] s

-- ---- the sentence

abbrev pub in_backticks : Text → Text
in_backticks s = codes "`" ++ (s ++ codes "`")

-- what a text begins with, in words
abbrev pub front_in_words : Text → Text
front_in_words [] = codes "the end of the file"
front_in_words (c ∷ cs) =
    if is_some (after_line_end (c ∷ cs)) then codes "the end of the line"
    else if c == space then codes "a space"
    else if c == 9 then codes "a tab"
    else in_backticks (first_char (c ∷ cs))

-- what is expected at the front of a text
abbrev pub expected_at : Text → Text → Text
expected_at at expected = codes "expected " ++ (expected ++ (codes ", found " ++ front_in_words at))

-- a token that is expected in junk, in words
abbrev pub token_in_words : ℕ → Text → Text
token_in_words token s =
    if token == equals then option_map_or (λ name. codes "`=` after " ++ in_backticks name) (name_at_front s) (codes "`=`")
    else if token == close_brace then codes "`}` at the end of a placeable"
    else if token == close_bracket then codes "`]` after the key of a variant"
    else if token == close_paren then codes "`)` at the end of the arguments"
    else if token == quote then codes "`\"` at the end of a string"
    else codes "a space after `#`"

-- at the front of junk an entry is expected, and an identifier further on
abbrev pub letter_in_words : Text → Text → Text
letter_in_words s at = if length at == length s then codes "a message, a term or a comment" else codes "an identifier"

-- The sentence for a kind of refusal, in junk that begins with `s`. `at` is the text from the place of the refusal on.
abbrev pub sentence_of : Text → Text → Kind → Text
sentence_of s at (r.expected_token token) = expected_at at (token_in_words token s)
sentence_of s at r.expected_letter = expected_at at (letter_in_words s at)
sentence_of s at r.expected_digit = expected_at at (codes "a digit")
sentence_of s at r.expected_line_end = expected_at at (codes "the end of the line after `->`")
sentence_of s at (r.expected_message_field id) = codes "the message has neither a value nor an attribute"
sentence_of s at (r.expected_term_field id) = codes "the term has no value"
sentence_of s at r.forbidden_callee = codes "the name of a function can't have lowercase letters"
sentence_of s at r.missing_value = codes "a variant or an attribute has no value"
sentence_of s at r.multiple_default_variants = codes "a second variant is marked with `*`"
sentence_of s at r.missing_default_variant = codes "no variant is marked with `*`"
sentence_of s at r.message_reference_as_selector = codes "a message can't be a selector"
sentence_of s at r.term_reference_as_selector = codes "a term can't be a selector"
sentence_of s at r.expected_simple_expression_as_selector = codes "a placeable can't be a selector"
sentence_of s at r.term_attribute_as_placeable = codes "an attribute of a term can't be shown"
sentence_of s at r.unterminated_string_literal = codes "the string isn't closed on its line"
sentence_of s at (r.unknown_escape_sequence c) = codes "unknown escape " ++ in_backticks (backslash ∷ c)
sentence_of s at (r.invalid_unicode_escape_sequence c) = expected_at at (codes "a hex digit")
sentence_of s at r.positional_argument_follows_named = codes "a positional argument follows a named one"
sentence_of s at (r.duplicated_named_argument name) = codes "there are two arguments " ++ in_backticks name
sentence_of s at r.unbalanced_closing_brace = codes "`}` has no matching `{`"
sentence_of s at r.expected_inline_expression = expected_at at (codes "an expression")
sentence_of s at r.expected_literal = expected_at at (codes "a string or a number as the value of a named argument")

abbrev pub sentence : Text → Refusal → Text
sentence s refusal = sentence_of s refusal.at refusal.kind
