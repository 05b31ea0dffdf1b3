-- Words at the front of texts, computed: what the definitions give that the contracts of this crate name. Counted by hand.
use Rattle.std.specs.Prelude.{◌≡◌, true, false, [], ◌∷◌, Some, None, codes}
use Rattle.std.proofs.Common.{refl}
use Rattle.fluent_grammar.specs.Words.{Text, begins, begins_with, begins_crlf, begins_arrow, is_letter, spaces, skip_blank, skip_blank_block, after_line_end, name_len, rest_of_line, comment_level, hex_digits, open_brace}
use Rattle.fluent_grammar.specs.Refusal.{got, refuse}
use Rattle.fluent_grammar.specs.Refusal as r
use Rattle.fluent_grammar.specs.Lines.{ends_line, pattern_ends}
use Rattle.fluent_grammar.specs.Reading.{number_at, digits_at, fraction_at, text_run, string_content, missing_hex}
use Rattle.fluent_tokens.specs.Counted.{begins_value, begins_literal, starts_text, char_len, is_comment_line, is_plain}

-- ---- first bytes

-- carriage return and line feed before a text
abbrev crlf : Text → Text
crlf s = 13 ∷ 10 ∷ s

brace_there : begins_with open_brace (codes "{a") ≡ true
brace_there = refl

brace_behind : begins_with open_brace (codes "a{") ≡ false
brace_behind = refl

brace_nowhere : begins_with open_brace [] ≡ false
brace_nowhere = refl

capital_letter : begins is_letter (codes "Z1") ≡ true
capital_letter = refl

small_letter : begins is_letter (codes "a") ≡ true
small_letter = refl

no_letter : begins is_letter (codes "1Z") ≡ false
no_letter = refl

line_end : begins_crlf (crlf (codes "a")) ≡ true
line_end = refl

half_a_line_end : begins_crlf (13 ∷ []) ≡ false
half_a_line_end = refl

no_return : begins_crlf (10 ∷ []) ≡ false
no_return = refl

arrow : begins_arrow (codes "->") ≡ true
arrow = refl

no_arrow : begins_arrow (codes "- >") ≡ false
no_arrow = refl

quoted_value : begins_value (34 ∷ codes "a") ≡ true
quoted_value = refl

value_with_minus : begins_value (codes "-1") ≡ true
value_with_minus = refl

value_of_digits : begins_value (codes "0") ≡ true
value_of_digits = refl

no_value : begins_value (codes "a") ≡ false
no_value = refl

literal_with_minus : begins_literal (codes "-1") ≡ true
literal_with_minus = refl

quoted_literal : begins_literal (34 ∷ []) ≡ true
quoted_literal = refl

no_literal : begins_literal (codes "-a") ≡ false
no_literal = refl

text_there : begins starts_text (codes "}a") ≡ true
text_there = refl

no_text : begins starts_text (codes " a") ≡ false
no_text = refl

-- ---- lengths of words

two_spaces : spaces (32 ∷ 32 ∷ 9 ∷ codes "a") ≡ 2
two_spaces = refl

name : name_len (codes "a-1_B = c") ≡ 5
name = refl

no_name : name_len (codes "1a") ≡ 0
no_name = refl

long_name : name_len (codes "a-name-of-more-than-16-bytes_1 = c") ≡ 30
long_name = refl

number : number_at (codes "-3.14)") ≡ got (codes "-3.14") (codes ")")
unfolding number_at digits_at fraction_at
number = refl

no_fraction : number_at (codes "3. ") ≡ refuse r.expected_digit (codes " ")
unfolding number_at digits_at fraction_at
no_fraction = refl

no_digit : number_at (codes "-a") ≡ refuse r.expected_digit (codes "a")
unfolding number_at digits_at fraction_at
no_digit = refl

one_byte : char_len (97 ∷ 195 ∷ 169 ∷ []) ≡ 1
one_byte = refl

two_bytes : char_len (195 ∷ 169 ∷ []) ≡ 2
two_bytes = refl

three_bytes : char_len (226 ∷ 128 ∷ 166 ∷ 97 ∷ []) ≡ 3
three_bytes = refl

four_bytes : char_len (240 ∷ 159 ∷ 152 ∷ 130 ∷ []) ≡ 4
four_bytes = refl

-- ---- blanks and lines

feed_first : after_line_end (10 ∷ 10 ∷ []) ≡ Some (10 ∷ [])
feed_first = refl

return_first : after_line_end (crlf []) ≡ Some []
return_first = refl

return_alone : after_line_end (13 ∷ codes "a") ≡ None
return_alone = refl

blank : skip_blank (32 ∷ 10 ∷ crlf (codes " a")) ≡ codes "a"
blank = refl

blank_lines : skip_blank_block (32 ∷ 32 ∷ 10 ∷ crlf (codes " a")) ≡ codes " a"
blank_lines = refl

line : rest_of_line (97 ∷ 32 ∷ 98 ∷ crlf (codes "c")) ≡ (codes "a b", codes "c")
line = refl

last_line : rest_of_line (codes "a b") ≡ (codes "a b", [])
last_line = refl

ended_line : ends_line (97 ∷ 10 ∷ []) ≡ true
ended_line = refl

feed_before : ends_line (10 ∷ 97 ∷ []) ≡ false
feed_before = refl

no_line : ends_line [] ≡ false
no_line = refl

plain : is_plain (codes "a b") ≡ true
plain = refl

opened : is_plain (codes "a {") ≡ false
opened = refl

closed : is_plain (codes "} a") ≡ false
closed = refl

-- ---- texts of patterns

before_brace : text_run (codes "a {") ≡ got (codes "a ") (codes "{")
unfolding text_run
before_brace = refl

with_feed : text_run (97 ∷ 10 ∷ codes "b") ≡ got (97 ∷ 10 ∷ []) (codes "b")
unfolding text_run
with_feed = refl

before_return : text_run (97 ∷ crlf (codes "b")) ≡ got (codes "a") (crlf (codes "b"))
unfolding text_run
before_return = refl

closing_brace : text_run (codes "a}") ≡ refuse r.unbalanced_closing_brace (codes "}")
unfolding text_run
closing_brace = refl

long_text : text_run (codes "a text of 23 bytes, so {") ≡ got (codes "a text of 23 bytes, so ") (codes "{")
unfolding text_run
long_text = refl

end_at_letter : pattern_ends (codes "a") ≡ true
end_at_letter = refl

end_at_attribute : pattern_ends (codes " .a") ≡ true
end_at_attribute = refl

end_at_brace : pattern_ends (codes " }") ≡ true
end_at_brace = refl

indented_line : pattern_ends (codes " a") ≡ false
indented_line = refl

placeable_line : pattern_ends (codes "{") ≡ false
placeable_line = refl

blank_line : pattern_ends (10 ∷ []) ≡ false
blank_line = refl

-- ---- comments

group_sign : comment_level (codes "## a") ≡ 2
group_sign = refl

four_signs : comment_level (codes "####") ≡ 3
four_signs = refl

comment_line : is_comment_line (codes " a") ≡ true
comment_line = refl

empty_comment_line : is_comment_line (crlf []) ≡ true
empty_comment_line = refl

comment_at_the_end : is_comment_line [] ≡ true
comment_at_the_end = refl

no_comment_line : is_comment_line (codes "a") ≡ false
no_comment_line = refl

-- ---- strings

closed_string : string_content (97 ∷ 92 ∷ 34 ∷ 92 ∷ 117 ∷ 48 ∷ 48 ∷ 101 ∷ 57 ∷ 34 ∷ []) ≡ got (97 ∷ 92 ∷ 34 ∷ 92 ∷ 117 ∷ 48 ∷ 48 ∷ 101 ∷ 57 ∷ []) []
unfolding string_content hex_digits
closed_string = refl

open_string : string_content (codes "ab") ≡ refuse (r.expected_token 34) []
unfolding string_content
open_string = refl

broken_string : string_content (97 ∷ 10 ∷ 34 ∷ []) ≡ refuse r.unterminated_string_literal (10 ∷ 34 ∷ [])
unfolding string_content
broken_string = refl

unknown_escape : string_content (97 ∷ 92 ∷ 100 ∷ 34 ∷ []) ≡ refuse (r.unknown_escape_sequence (codes "d")) (92 ∷ 100 ∷ 34 ∷ [])
unfolding string_content
unknown_escape = refl

missing_digit : string_content (92 ∷ 85 ∷ 48 ∷ 49 ∷ 102 ∷ 54 ∷ 48 ∷ 34 ∷ []) ≡ missing_hex (48 ∷ 49 ∷ 102 ∷ 54 ∷ 48 ∷ 34 ∷ [])
unfolding string_content hex_digits
missing_digit = refl
