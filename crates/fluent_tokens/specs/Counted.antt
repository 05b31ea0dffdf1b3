-- What the counts of bytes say that the words of the grammar have.
use Rattle.std.specs.Prelude.{◌≡◌, ℕ, suc, ◌+◌, ◌-◌, ◌<◌, ◌≤◌, Bool, true, false, not, ◌&&◌, ◌||◌, ◌==◌, nat_lt, [], ◌∷◌, length, take, drop, slice_index, Some, None, is_some, Result, Ok, Err, unwrap_or, if◌then◌else◌}
use Rattle.std.specs.Str.{IsUtf8, IsCharBoundary, continuation_len}
use Rattle.std.specs.List.{prefix_len, list_all}
use Rattle.fluent_grammar.specs.Words.{Text, begins, is_digit, is_letter, hyphen, space, line_feed, carriage_return, quote, backslash, number_sign, open_brace, close_brace, begins_with, after_line_end, is_hex_digit, rest_of_line}
use Rattle.fluent_grammar.specs.Refusal.{Reading, got, refuse}
use Rattle.fluent_grammar.specs.Refusal as r
use Rattle.fluent_grammar.specs.Reading.{number_at, text_run, string_content, before, missing_hex, first_char}
use Rattle.fluent_tokens.specs.declared.strings.StringEnd.{StringEnd}
use Rattle.fluent_tokens.specs.declared.strings.StringEnd.TheVariants as end
use Rattle.fluent_tokens.specs.declared.strings.StringStep.{StringStep}
use Rattle.fluent_tokens.specs.declared.strings.StringStep.TheVariants as step

-- this many bytes stand at the front, and the text may be cut after them
pub record Cuts (text : Text) (count : ℕ) : Type 0 where
  pub within : count ≤ length text
  pub boundary : IsUtf8 text → IsCharBoundary text count

-- whether a blank stands at the front: a space or a line end
abbrev pub is_blank_at : Text → Bool
is_blank_at [] = false
is_blank_at (c ∷ cs) = (c == space || c == line_feed) || (c == carriage_return && begins_with line_feed cs)

-- the sign of a comment
abbrev pub is_sign : ℕ → Bool
is_sign c = c == number_sign

-- what may follow a comment's signs: the end, a space or a line end
abbrev pub is_comment_line : Text → Bool
is_comment_line text = (length text == 0 || begins_with space text) || is_some (after_line_end text)

-- 0 if no line end stands
abbrev pub IsLineEnd : Text → ℕ → Type 0
IsLineEnd text count = after_line_end text ≡ (if count == 0 then None else Some (drop count text))

-- how many bytes the number at the front has, or where its reading stops without a digit
abbrev pub IsNumber : Text → Result ℕ ℕ → Type 0
IsNumber text (Ok count) = (number_at text ≡ got (take count text) (drop count text)) × Cuts text count
IsNumber text (Err count) = (number_at text ≡ refuse r.expected_digit (drop count text)) × Cuts text count

-- how many bytes the text at the front has, or where its reading stops at a closing brace
abbrev pub IsText : Text → Result ℕ ℕ → Type 0
IsText text (Ok count) = (text_run text ≡ got (take count text) (drop count text)) × Cuts text count
IsText text (Err count) = (text_run text ≡ refuse r.unbalanced_closing_brace (drop count text)) × Cuts text count

-- the end of the text whose line feed is here
abbrev pub line_feed_end : Text → ℕ → ℕ
line_feed_end text end = if nat_lt 0 end && slice_index text (end - 1) == carriage_return then end - 1 else end + 1

-- a line without its line end
abbrev pub IsLine : Text → ℕ → Type 0
IsLine text count = rest_of_line text ≡ (take count text, unwrap_or (after_line_end (drop count text)) [])

-- the end of the line whose line feed is here
abbrev pub before_feed : Text → ℕ → ℕ
before_feed text end = if nat_lt 0 end && slice_index text (end - 1) == carriage_return then end - 1 else end

-- no brace stands in a text
abbrev pub is_no_brace : ℕ → Bool
is_no_brace c = not (c == open_brace || c == close_brace)

-- no brace stands anywhere in a text
abbrev pub is_plain : Text → Bool
is_plain text = list_all is_no_brace text

-- how many bytes the character at the front has
abbrev pub char_len : Text → ℕ
char_len [] = 0
char_len (b ∷ bs) = suc (continuation_len b)

-- what an escape that is none is reported by: the character after the backslash, or a space at the end
abbrev pub character_or_space : Text → Text
character_or_space [] = space ∷ []
character_or_space (b ∷ bs) = first_char (b ∷ bs)

-- where the content of a string ends, or why it doesn't
abbrev pub IsString : Text → StringEnd → Type 0
IsString text (end.Quote count) = (string_content text ≡ got (take count text) (drop (suc count) text)) × (begins_with quote (drop count text) ≡ true) × Cuts text count
IsString text (end.TextEnd count) = (string_content text ≡ refuse (r.expected_token quote) (drop count text)) × Cuts text count
IsString text (end.LineFeed count) = (string_content text ≡ refuse r.unterminated_string_literal (drop count text)) × Cuts text count
IsString text (end.UnknownEscape count) = (string_content text ≡ refuse (r.unknown_escape_sequence (character_or_space (drop (suc count) text))) (drop count text)) × (begins_with backslash (drop count text) ≡ true) × Cuts text count
IsString text (end.MissingDigit start stop) = (string_content text ≡ missing_hex (drop start text)) × (start + prefix_len is_hex_digit (drop start text) ≡ stop) × Cuts text start

-- what stands at the front of what is left of a string
abbrev pub IsStringStep : Text → StringStep → Type 0
IsStringStep text (step.Part count) = (string_content text ≡ before (take count text) (string_content (drop count text))) × (0 < count) × (count ≤ length text)
IsStringStep text step.Quote = begins_with quote text ≡ true
IsStringStep text step.LineFeed = begins_with line_feed text ≡ true
IsStringStep text step.UnknownEscape = (begins_with backslash text ≡ true) × (string_content text ≡ refuse (r.unknown_escape_sequence (character_or_space (drop 1 text))) text)
IsStringStep text (step.MissingDigit count) = (begins_with backslash text ≡ true) × (2 ≤ length text) × (slice_index text 1 < 128) × (string_content text ≡ missing_hex (drop 2 text)) × (count ≡ prefix_len is_hex_digit (drop 2 text))

-- an escape of this many hex digits, of which that many are there
abbrev pub IsHexStep : ℕ → ℕ → StringStep → Type 0
IsHexStep wanted digits (step.Part count) = (wanted ≤ digits) × (count ≡ 2)
IsHexStep wanted digits step.Quote = ⊥
IsHexStep wanted digits step.LineFeed = ⊥
IsHexStep wanted digits step.UnknownEscape = ⊥
IsHexStep wanted digits (step.MissingDigit count) = (digits < wanted) × (count ≡ digits)

-- a quote, a digit, or a minus that no letter follows
abbrev pub begins_literal : Text → Bool
begins_literal s = (begins_with quote s || begins is_digit s) || (begins_with hyphen s && not (begins is_letter (drop 1 s)))

-- a quote, a digit or a minus
abbrev pub begins_value : Text → Bool
begins_value s = begins_with quote s || (begins is_digit s || begins_with hyphen s)

-- a byte that begins a text of a pattern, at a line start or not: no space, no line feed, no carriage return, no opening brace
abbrev pub starts_text : ℕ → Bool
starts_text c = not (c == space || (c == line_feed || (c == carriage_return || c == open_brace)))
