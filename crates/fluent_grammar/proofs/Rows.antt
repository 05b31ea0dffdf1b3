-- Worked sources: what the definitions give, by computing. Places are counted by hand.
use Rattle.std.specs.Prelude.{◌≡◌, ℕ, ◌+◌, true, false, [], ◌∷◌, ◌++◌, Some, None, codes, length}
use Rattle.std.proofs.Common.{refl}
use Rattle.fluent_grammar.specs.Words.{Text, carriage_return, line_feed, quote, close_brace, close_bracket, close_paren, equals, space}
use Rattle.fluent_grammar.specs.Refusal as r
use Rattle.fluent_grammar.specs.Refusal.{Kind}
use Rattle.fluent_grammar.specs.Tree as t
use Rattle.fluent_grammar.specs.Tiling.{ParserError, errors, tree, runtime_errors, runtime_tree}
use Rattle.fluent_grammar.specs.Escapes.{unescaped}
use Rattle.fluent_grammar.proofs.Computing.{computing}

-- ---- how the rows are written

-- an error whose place is one byte, with the range of its junk
error_at : Kind → ℕ → ℕ → ℕ → ParserError
error_at kind place start end = record { kind = kind; pos_start = place; pos_end = place + 1; slice_start = start; slice_end = end }

one_text : Text → t.Elements
one_text s = t.text s t.no_elements

message_of : Text → t.Elements → t.Entry
message_of id value = t.message (record { id = id; value = Some value; attributes = []; comment = None })

-- a select alone
selected : t.Inline → t.Variants → t.Elements
selected i vs = t.placeable (t.select i vs) t.no_elements

-- the source is one junk, refused at this place
Refuses : Text → Kind → ℕ → Type 0
Refuses s kind place = errors s ≡ error_at kind place 0 (length s) ∷ []

-- ---- whole sources

empty_text : tree [] ≡ []
unfolding computing
empty_text = refl

broken_middle : Text
broken_middle = codes "\nkey1 = Value 1\n\ng@Rb@ge = #2y ds\n\nkey2 = Value 2\n\n"

broken_middle_entry_is_junk :
    tree broken_middle ≡ message_of (codes "key1") (one_text (codes "Value 1")) ∷ t.junk (codes "g@Rb@ge = #2y ds\n\n") ∷
    message_of (codes "key2") (one_text (codes "Value 2")) ∷ []
unfolding computing broken_middle message_of one_text
broken_middle_entry_is_junk = refl

broken_middle_entry_is_refused : errors broken_middle ≡ error_at (r.expected_token equals) 18 17 35 ∷ []
unfolding computing broken_middle error_at
broken_middle_entry_is_refused = refl

message_without_value_hides_no_other :
    tree (codes "foo =\nbar = x\n") ≡ t.junk (codes "foo =\n") ∷ message_of (codes "bar") (one_text (codes "x")) ∷ []
unfolding computing message_of one_text
message_without_value_hides_no_other = refl

spaces_alone_are_junk : Refuses (codes "  ") r.expected_letter 0
unfolding computing Refuses error_at
spaces_alone_are_junk = refl

three_lines_lose_their_common_indent :
    tree (codes "a =\n    one\n      two\n    three\n") ≡
    message_of (codes "a") (t.text (codes "one\n") (t.text (codes "  two\n") (one_text (codes "three")))) ∷ []
unfolding computing message_of one_text
three_lines_lose_their_common_indent = refl

crlf : Text
crlf = carriage_return ∷ line_feed ∷ []

crlf_gives_a_line_feed_of_its_own :
    tree (codes "a =" ++ crlf ++ codes "    x" ++ crlf ++ codes "    y" ++ crlf) ≡
    message_of (codes "a") (t.text (codes "x") (t.text (codes "\n") (one_text (codes "y")))) ∷ []
unfolding computing message_of one_text crlf
crlf_gives_a_line_feed_of_its_own = refl

placeable_at_column_zero_keeps_indents :
    tree (codes "a =\n{\".\"}\n    four") ≡
    message_of (codes "a") (t.placeable (t.inline (t.string_literal (codes "."))) (t.text (codes "\n") (one_text (codes "    four")))) ∷ []
unfolding computing message_of one_text
placeable_at_column_zero_keeps_indents = refl

last_text_is_trimmed_to_nothing :
    tree (codes "a = b\n    " ++ 9 ∷ codes "\n") ≡ message_of (codes "a") (t.text (codes "b\n") (one_text [])) ∷ []
unfolding computing message_of one_text
last_text_is_trimmed_to_nothing = refl

closing_brace_at_column_zero_begins_junk : errors (codes "x = 1\n}\n    y\nb = 2\n") ≡ error_at r.expected_letter 6 6 14 ∷ []
unfolding computing error_at
closing_brace_at_column_zero_begins_junk = refl

failed_attribute_begins_junk : errors (codes "foo = v\n    .x = 1\n    .y\nbar = w\n") ≡ error_at r.expected_letter 19 19 26 ∷ []
unfolding computing error_at
failed_attribute_begins_junk = refl

-- ---- comments

comment_directly_above :
    tree (codes "# c\na = b\n") ≡
    t.message (record { id = codes "a"; value = Some (one_text (codes "b")); attributes = []; comment = Some (codes "c" ∷ []) }) ∷ []
unfolding computing one_text
comment_directly_above = refl

comment_behind_a_blank_line : tree (codes "# c\n\na = b\n") ≡ t.comment (codes "c" ∷ []) ∷ message_of (codes "a") (one_text (codes "b")) ∷ []
unfolding computing message_of one_text
comment_behind_a_blank_line = refl

sign_at_the_end_adds_no_line : tree (codes "## x\n##") ≡ t.group_comment (codes "x" ∷ []) ∷ []
unfolding computing
sign_at_the_end_adds_no_line = refl

comment_without_space : errors (codes "#bad\na = b\n") ≡ error_at (r.expected_token space) 1 0 5 ∷ []
unfolding computing error_at
comment_without_space = refl

comment_without_space_at_runtime : runtime_tree (codes "#bad\na = b\n") ≡ message_of (codes "a") (one_text (codes "b")) ∷ []
unfolding computing message_of one_text
comment_without_space_at_runtime = refl

no_error_at_runtime : runtime_errors (codes "#bad\na = b\n") ≡ []
unfolding computing
no_error_at_runtime = refl

-- ---- expressions

select_with_default :
    tree (codes "m={$n ->\n[a]x\n*[1.0]y\n}") ≡
    message_of (codes "m") (t.placeable (t.select (t.variable_reference (codes "n"))
    (t.variant (t.identifier_key (codes "a")) (one_text (codes "x")) false
    (t.variant (t.number_key (codes "1.0")) (one_text (codes "y")) true t.no_variants))) t.no_elements) ∷ []
unfolding computing message_of one_text
select_with_default = refl

lone_mark_ends_the_variants :
    tree (codes "m = { $n ->\n    [a] x\n  * }\n") ≡
    message_of (codes "m") (t.placeable (t.select (t.variable_reference (codes "n"))
    (t.variant (t.identifier_key (codes "a")) (one_text (codes "x")) false t.no_variants)) t.no_elements) ∷ []
unfolding computing message_of one_text
lone_mark_ends_the_variants = refl

arguments_of_a_call :
    tree (codes "m={F(b .c,-1,{-t},k : \"v\",)}") ≡
    message_of (codes "m") (t.placeable (t.inline (t.function_reference (codes "F") (t.arguments
    (t.positional (t.message_reference (codes "b") (Some (codes "c")))
    (t.positional (t.number_literal (codes "-1"))
    (t.positional (t.nested (t.inline (t.term_reference (codes "t") None t.no_arguments))) t.no_inlines)))
    (t.named (codes "k") (t.string_literal (codes "v")) t.no_nameds)))) t.no_elements) ∷ []
unfolding computing message_of one_text
arguments_of_a_call = refl

identifier_is_greedy : Refuses (codes "a={$n->\n*[b]c\n}") (r.expected_token close_brace) 6
unfolding computing Refuses error_at
identifier_is_greedy = refl

-- ---- each kind of refusal, at its place

expected_equals : Refuses (codes "a b") (r.expected_token equals) 2
unfolding computing Refuses error_at
expected_equals = refl

expected_closing_brace : Refuses (codes "a={b c}") (r.expected_token close_brace) 5
unfolding computing Refuses error_at
expected_closing_brace = refl

expected_closing_bracket : Refuses (codes "a={1->\n*[b c]d\n}") (r.expected_token close_bracket) 11
unfolding computing Refuses error_at
expected_closing_bracket = refl

expected_closing_parenthesis : Refuses (codes "a={F(") (r.expected_token close_paren) 5
unfolding computing Refuses error_at
expected_closing_parenthesis = refl

expected_closing_quote : Refuses (codes "a = { \"x") (r.expected_token quote) 8
unfolding computing Refuses error_at
expected_closing_quote = refl

expected_digit : Refuses (codes "a={-") r.expected_digit 4
unfolding computing Refuses error_at
expected_digit = refl

expected_line_end : Refuses (codes "a={1->x") r.expected_line_end 6
unfolding computing Refuses error_at
expected_line_end = refl

-- the range is the entry's, to the place after its attributes
expected_message_field :
    errors (codes "foo =\nbar = x\n") ≡ record { kind = r.expected_message_field (codes "foo"); pos_start = 0; pos_end = 6; slice_start = 0; slice_end = 6 } ∷ []
unfolding computing
expected_message_field = refl

-- the attribute is read first
expected_term_field :
    errors (codes "-a=\n .b=c\n}") ≡ record { kind = r.expected_term_field (codes "a"); pos_start = 0; pos_end = 10; slice_start = 0; slice_end = 11 } ∷ []
unfolding computing
expected_term_field = refl

forbidden_callee : Refuses (codes "a = { foo() }") r.forbidden_callee 11
unfolding computing Refuses error_at
forbidden_callee = refl

missing_value : Refuses (codes "a={1->\n*[b]\n}") r.missing_value 12
unfolding computing Refuses error_at
missing_value = refl

multiple_default_variants : Refuses (codes "a={1->\n*[b]c\n*[d]e\n}") r.multiple_default_variants 14
unfolding computing Refuses error_at
multiple_default_variants = refl

missing_default_variant : Refuses (codes "a = { $n ->\n    [x] y\n }\n") r.missing_default_variant 23
unfolding computing Refuses error_at
missing_default_variant = refl

message_reference_as_selector : Refuses (codes "a = { b ->\n   *[x] y\n }\n") r.message_reference_as_selector 8
unfolding computing Refuses error_at
message_reference_as_selector = refl

-- a message's attribute is a selector
selected_by_gender : Text
selected_by_gender = codes "brand = Firefox\n    .gender = masculine\nupd = { brand.gender ->\n    [masculine] He\n   *[other] It\n }\n"

a_messages_attribute_is_read_as_selector :
    tree selected_by_gender ≡
    t.message (record {
      id = codes "brand";
      value = Some (one_text (codes "Firefox"));
      attributes = record { id = codes "gender"; value = one_text (codes "masculine") } ∷ [];
      comment = None;
    }) ∷ message_of (codes "upd") (selected (t.message_reference (codes "brand") (Some (codes "gender")))
    (t.variant (t.identifier_key (codes "masculine")) (one_text (codes "He")) false (t.variant (t.identifier_key (codes "other")) (one_text (codes "It")) true t.no_variants))) ∷ []
unfolding computing message_of one_text selected selected_by_gender
a_messages_attribute_is_read_as_selector = refl

a_messages_attribute_is_not_refused : errors selected_by_gender ≡ []
unfolding computing selected_by_gender
a_messages_attribute_is_not_refused = refl

-- blank may stand before its dot, as in any message reference
blank_before_the_dot_of_a_selector :
    tree (codes "a={b .c ->\n*[d]e\n}") ≡
    message_of (codes "a") (selected (t.message_reference (codes "b") (Some (codes "c"))) (t.variant (t.identifier_key (codes "d")) (one_text (codes "e")) true t.no_variants)) ∷ []
unfolding computing message_of one_text selected
blank_before_the_dot_of_a_selector = refl

-- after it a line end is needed
line_end_behind_a_messages_attribute : Refuses (codes "a={b.c ->") r.expected_line_end 9
unfolding computing Refuses error_at
line_end_behind_a_messages_attribute = refl

-- a minus directly after its name is of the name
minus_behind_a_messages_attribute : Refuses (codes "a={b.c->") (r.expected_token close_brace) 7
unfolding computing Refuses error_at
minus_behind_a_messages_attribute = refl

-- it takes no arguments
called_messages_attribute : Refuses (codes "a={b.c() ->") (r.expected_token close_brace) 6
unfolding computing Refuses error_at
called_messages_attribute = refl

nested_messages_attribute_as_selector : Refuses (codes "a={{b.c} ->") r.expected_simple_expression_as_selector 9
unfolding computing Refuses error_at
nested_messages_attribute_as_selector = refl

term_reference_as_selector : Refuses (codes "a={-b() ->") r.term_reference_as_selector 8
unfolding computing Refuses error_at
term_reference_as_selector = refl

nested_placeable_as_selector : Refuses (codes "a={{b}->") r.expected_simple_expression_as_selector 6
unfolding computing Refuses error_at
nested_placeable_as_selector = refl

term_attribute_as_placeable : Refuses (codes "a={-b.c }") r.term_attribute_as_placeable 8
unfolding computing Refuses error_at
term_attribute_as_placeable = refl

unterminated_string_literal : errors (codes "a = { \"x\nb = c\n") ≡ error_at r.unterminated_string_literal 8 0 9 ∷ []
unfolding computing error_at
unterminated_string_literal = refl

unknown_escape_sequence : Refuses (codes "a={\"\\q\"}") (r.unknown_escape_sequence (codes "q")) 4
unfolding computing Refuses error_at
unknown_escape_sequence = refl

-- the character after the digits, whole: two bytes
invalid_unicode_escape_sequence :
    Refuses (codes "a = { \"\\u12" ++ 195 ∷ 169 ∷ codes "\" }") (r.invalid_unicode_escape_sequence (49 ∷ 50 ∷ 195 ∷ 169 ∷ [])) 11
unfolding computing Refuses error_at
invalid_unicode_escape_sequence = refl

positional_argument_follows_named : Refuses (codes "a = { F(x: 1, 2) }") r.positional_argument_follows_named 15
unfolding computing Refuses error_at
positional_argument_follows_named = refl

-- the blank after a term reference without arguments is taken
positional_term_follows_named : Refuses (codes "a={F(x:1,-t )}") r.positional_argument_follows_named 12
unfolding computing Refuses error_at
positional_term_follows_named = refl

duplicated_named_argument : Refuses (codes "a = { F(x: 1, x: 2) }") (r.duplicated_named_argument (codes "x")) 15
unfolding computing Refuses error_at
duplicated_named_argument = refl

unbalanced_closing_brace : Refuses (codes "a = b } c") r.unbalanced_closing_brace 6
unfolding computing Refuses error_at
unbalanced_closing_brace = refl

expected_inline_expression : Refuses (codes "a = {{{") r.expected_inline_expression 7
unfolding computing Refuses error_at
expected_inline_expression = refl

expected_literal : Refuses (codes "a={F(x:y)}") r.expected_literal 7
unfolding computing Refuses error_at
expected_literal = refl

-- ---- where the rules leave a choice, and where two failures meet at one place

-- a pattern that isn't there takes its blank
absent_pattern_takes_its_blank :
    errors (codes "a = ") ≡ record { kind = r.expected_message_field (codes "a"); pos_start = 0; pos_end = 4; slice_start = 0; slice_end = 4 } ∷ []
unfolding computing
absent_pattern_takes_its_blank = refl

value_is_missing_at_the_end : Refuses (codes "a={F(x:") r.expected_literal 7
unfolding computing Refuses error_at
value_is_missing_at_the_end = refl

term_attribute_at_the_end : Refuses (codes "a={-b.c") r.term_attribute_as_placeable 7
unfolding computing Refuses error_at
term_attribute_at_the_end = refl

escape_before_line_feed_is_met_first : Refuses (codes "a={\"\\\n") (r.unknown_escape_sequence (codes "\n")) 4
unfolding computing Refuses error_at
escape_before_line_feed_is_met_first = refl

escape_before_the_end_is_met_first : Refuses (codes "a={\"\\") (r.unknown_escape_sequence (codes " ")) 4
unfolding computing Refuses error_at
escape_before_the_end_is_met_first = refl

digits_are_missing_at_the_end : Refuses (codes "a={\"\\u1") (r.invalid_unicode_escape_sequence (codes "1")) 7
unfolding computing Refuses error_at
digits_are_missing_at_the_end = refl

minus_begins_a_number_as_value : Refuses (codes "a={F(x:-t") r.expected_digit 8
unfolding computing Refuses error_at
minus_begins_a_number_as_value = refl

no_blank_before_the_attribute_of_a_term : Refuses (codes "a={-b .c}") (r.expected_token close_brace) 6
unfolding computing Refuses error_at
no_blank_before_the_attribute_of_a_term = refl

four_escapes_alone : Refuses (codes "a={\"\\{\"}") (r.unknown_escape_sequence (codes "{")) 4
unfolding computing Refuses error_at
four_escapes_alone = refl

call_is_refused_behind_its_arguments : Refuses (codes "a={f(x:1,x:2)}") (r.duplicated_named_argument (codes "x")) 10
unfolding computing Refuses error_at
call_is_refused_behind_its_arguments = refl

four_signs_are_three_and_no_space : Refuses (codes "#### a") (r.expected_token space) 3
unfolding computing Refuses error_at
four_signs_are_three_and_no_space = refl

lone_mark_before_a_line_end :
    tree (codes "a={1->\n*\n}") ≡ message_of (codes "a") (t.placeable (t.select (t.number_literal (codes "1")) t.no_variants) t.no_elements) ∷ []
unfolding computing message_of
lone_mark_before_a_line_end = refl

junk_ends_behind_the_place_of_the_refusal :
    errors (codes "a = {\nc = 1\nd = 2\n") ≡ error_at (r.expected_token close_brace) 8 0 12 ∷ []
unfolding computing error_at
junk_ends_behind_the_place_of_the_refusal = refl

junk_ends_before_a_comment :
    errors (codes "a = {\n# x\nc = 1\n") ≡ error_at r.expected_inline_expression 6 0 6 ∷ []
unfolding computing error_at
junk_ends_before_a_comment = refl

tab_at_the_end_is_trimmed : tree (codes "a = b\t") ≡ message_of (codes "a") (one_text (codes "b")) ∷ []
unfolding computing message_of one_text
tab_at_the_end_is_trimmed = refl

tab_alone_is_an_empty_text : tree (codes "a = \t") ≡ message_of (codes "a") (one_text []) ∷ []
unfolding computing message_of one_text
tab_alone_is_an_empty_text = refl

-- a line of spaces within a pattern keeps those beyond the common indent
blank_line_keeps_its_spaces :
    tree (codes "a=\n b\n  \n c") ≡ message_of (codes "a") (t.text (codes "b\n") (t.text (codes " \n") (one_text (codes "c")))) ∷ []
unfolding computing message_of one_text
blank_line_keeps_its_spaces = refl

blank_block_behind_a_line_that_is_passed_over : runtime_tree (codes "#a\n \nb = c") ≡ message_of (codes "b") (one_text (codes "c")) ∷ []
unfolding computing message_of one_text
blank_block_behind_a_line_that_is_passed_over = refl

-- ---- escapes

escapes_give_their_characters : unescaped (codes "Foo \\u5bd2 Bar\\\\\\U01F602\\\"") ≡ codes "Foo " ++ 229 ∷ 175 ∷ 146 ∷ codes " Bar\\" ++ 240 ∷ 159 ∷ 152 ∷ 130 ∷ codes "\""
unfolding computing
escapes_give_their_characters = refl

too_few_digits : unescaped (codes "\\u00e") ≡ 239 ∷ 191 ∷ 189 ∷ []
unfolding computing
too_few_digits = refl

count_cuts_a_character : unescaped (codes "\\u123" ++ 195 ∷ 169 ∷ codes "x") ≡ 239 ∷ 191 ∷ 189 ∷ codes "x"
unfolding computing
count_cuts_a_character = refl

no_scalar_value : unescaped (codes "\\U110000\\uD800") ≡ 239 ∷ 191 ∷ 189 ∷ 239 ∷ 191 ∷ 189 ∷ []
unfolding computing
no_scalar_value = refl

other_escapes : unescaped (codes "\\q\\" ++ 195 ∷ 169 ∷ codes "\\") ≡ 239 ∷ 191 ∷ 189 ∷ 239 ∷ 191 ∷ 189 ∷ 239 ∷ 191 ∷ 189 ∷ []
unfolding computing
other_escapes = refl
