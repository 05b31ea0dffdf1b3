-- Worked answers: a source, the id that is asked, its arguments, and the text and the errors that come out.
use Rattle.std.specs.Prelude.{◌≡◌, refl, ⊤, ℕ, zero, suc, ◌+◌, ◌-◌, ◌&&◌, Bool, true, false, if◌then◌else◌, nat_le, pos, List, [], ◌∷◌, ◌++◌, length, map, replicate, Option, Some, None, option_map, codes, encode_utf8}
use Rattle.std.specs.List.{concat}
use Rattle.fluent_grammar.specs.Words.{Text}
use Rattle.fluent_grammar.proofs.Computing.{computing}
use Rattle.fluent_grammar.specs.Tree as t
use Rattle.fluent_grammar.specs.Tiling.{list}
use Rattle.fluent_number.specs.Number.{number_from_integer}
use Rattle.fluent_number.specs.Plurals.{english}
use Rattle.fluent_errors.specs.Texts.{resolver_text}
use Rattle.fluent_value.specs.Value.{Value, text, number, custom, none, error, number_or_text}
use Rattle.fluent_meaning.specs.Environment.{Environment}
use Rattle.fluent_meaning.specs.Ids.{Ids, Meaning, number_function, function, message, term, find, number_pair, with_ids, entries_by_id, attribute_named}
use Rattle.fluent_meaning.specs.Steps.{Budget, may_open, shut, Done, done}
use Rattle.fluent_meaning.specs.Same.{same_elements}
use Rattle.fluent_meaning.specs.Substitution.{expression_with, elements_with, pattern_at, pattern_written}
use Rattle.fluent_number.specs.Digits.{last_digits}
use Rattle.std.specs.Fmt.{digits}
use Rattle.fluent_number.specs.Text.{number_text}
use Rattle.fluent_number.specs.Reading.{read_number}
use Rattle.fluent_number.specs.Operands.{operands_of}
use Rattle.fluent_meaning.specs.Substitution.{answer_written, answer_handed, arguments_found, missed_written, reference_written, unmarked_written, outset, most_placeables}
use Rattle.fluent_meaning.specs.Work.{placeables_of, most_references}

-- opens the definitions of reading, of numbers and of resolving
unfoldable resolving : ⊤
unfolding computing digits read_number number_text operands_of last_digits same_elements expression_with elements_with pattern_at pattern_written
resolving = tt

-- a program's own values are texts here, and its one function gives a text's length
data Function : Type 0 where
  strlen : Function

abbrev length_of : List (Value Text) → Value Text
length_of [] = error
length_of (text s ∷ vs) = number (number_from_integer (pos (length s)))
length_of (number n ∷ vs) = error
length_of (custom c ∷ vs) = error
length_of (none ∷ vs) = error
length_of (error ∷ vs) = error

record Settings : Type 0 where
  functions : List (Text × Meaning Function)
  isolating : Bool
  transformed : Text → Text
  formatter : Value Text → Option Text

abbrev plain : Settings
plain = record { functions = []; isolating = true; transformed = λ s. s; formatter = λ v. None }

abbrev bare : Settings
bare = record plain { isolating = false }

abbrev with_strlen : Settings
with_strlen = record plain { functions = (codes "STRLEN", function strlen) ∷ [] }

abbrev capital : ℕ → ℕ
capital c = if nat_le 97 c && nat_le c 122 then c - 32 else c

abbrev in_capitals : Settings
in_capitals = record plain { transformed = map capital }

abbrev bracketed : Value Text → Option Text
bracketed (text s) = Some (codes "[" ++ (s ++ codes "]"))
bracketed (number n) = None
bracketed (custom c) = None
bracketed none = None
bracketed error = None

abbrev in_brackets : Settings
in_brackets = record plain { formatter = bracketed }

abbrev ids_of : Settings → Text → Ids Function
ids_of settings source = with_ids false (number_pair ∷ []) (settings.functions ++ entries_by_id (list source))

abbrev environment : Settings → Text → Environment Text Function
environment settings source = record {
  find = find (ids_of settings source);
  call = λ f positional named. length_of positional;
  isolating = settings.isolating;
  transformed = settings.transformed;
  formatted = settings.formatter;
  plurals = english;
  shown = λ c. c;
}

abbrev pattern_of : Option Text → Option (Meaning Function) → Option t.Elements
pattern_of attr None = None
pattern_of attr (Some number_function) = None
pattern_of attr (Some (function f)) = None
pattern_of attr (Some (term m)) = None
pattern_of None (Some (message m)) = m.value
pattern_of (Some a) (Some (message m)) = attribute_named a m.attributes

abbrev told : Done Text → Text × List Text
told a = (a.value, map resolver_text a.errors)

abbrev asked : Settings → Text → Text → Option Text → List (Text × Value Text) → Option (Text × List Text)
asked settings source id attr args =
    let env = environment settings source in option_map (λ es. told (answer_written env args es)) (pattern_of attr (env.find id))

-- the same for what is handed out
abbrev handed : Settings → Text → Text → Option Text → List (Text × Value Text) → Option (Text × List Text)
handed settings source id attr args =
    let env = environment settings source in option_map (λ es. told (answer_handed env args es)) (pattern_of attr (env.find id))

abbrev times : ℕ → Text → Text
times n s = concat (replicate n s)

abbrev many_and : ℕ → Text → Text → Text
many_and n name behind = name ++ (codes " = " ++ (times n (codes "{ \"a\" }") ++ (behind ++ codes "\n")))

abbrev many : ℕ → Text → Text
many n name = many_and n name []

a_variable_stands_between_marks : asked plain (codes "intro = Welcome, { $name }.\n") (codes "intro") None ((codes "name", number_or_text (codes "John")) ∷ []) ≡ Some ((codes "Welcome, " ++ (encode_utf8 8296 ++ (codes "John" ++ (encode_utf8 8297 ++ (codes "."))))), [])
unfolding resolving
a_variable_stands_between_marks = refl

a_missing_variable_is_told : asked bare (codes "intro = Welcome, { $name }.\n") (codes "intro") None [] ≡ Some ((codes "Welcome, {$name}."), ((codes "Unknown variable: $name") ∷ []))
unfolding resolving
a_missing_variable_is_told = refl

an_attribute_is_asked : asked plain (codes "login =\n    .title = Hi\nx = { login }\n") (codes "login") (Some (codes "title")) [] ≡ Some ((codes "Hi"), [])
unfolding resolving
an_attribute_is_asked = refl

a_message_without_value_is_told : asked plain (codes "login =\n    .title = Hi\nx = { login }\n") (codes "x") None [] ≡ Some ((codes "{login}"), ((codes "No value: login") ∷ []))
unfolding resolving
a_message_without_value_is_told = refl

a_cycle_is_told_by_the_reference_that_closes_it : asked plain (codes "a = { b }\nb = { c }\nc = { b }\n") (codes "a") None [] ≡ Some ((codes "{c}"), ((codes "Cyclical dependency detected") ∷ []))
unfolding resolving
a_cycle_is_told_by_the_reference_that_closes_it = refl

behind_an_inner_term_the_arguments_of_the_outer_one_stand : asked plain (codes "-inner = I\n-outer = { -inner } { $v }\nm = { -outer(v: \"x\") }\n") (codes "m") None ((codes "v", number_or_text (codes "req")) ∷ []) ≡ Some ((codes "I " ++ (encode_utf8 8296 ++ (codes "x" ++ (encode_utf8 8297)))), [])
unfolding resolving
behind_an_inner_term_the_arguments_of_the_outer_one_stand = refl

a_message_is_no_term : asked plain (codes "a = one\n-a = two\nb = { -a }\n") (codes "b") None [] ≡ Some ((codes "{-a}"), ((codes "Unknown term: -a") ∷ []))
unfolding resolving
a_message_is_no_term = refl

the_placeable_behind_a_hundred_is_told : asked plain (many 101 (codes "m")) (codes "m") None [] ≡ Some ((times 100 (codes "a")), ((codes "Too many placeables") ∷ []))
unfolding resolving
the_placeable_behind_a_hundred_is_told = refl

one_too_many_ends_each_pattern_around : asked plain (codes "m = { t }x\n" ++ many 100 (codes "t")) (codes "m") None [] ≡ Some ((times 99 (codes "a") ++ codes "{t}"), ((codes "Too many placeables") ∷ []))
unfolding resolving
one_too_many_ends_each_pattern_around = refl

a_nested_placeable_does_not_count : asked bare (codes "m = {{ t }}x\n" ++ many 100 (codes "t")) (codes "m") None [] ≡ Some ((times 99 (codes "a") ++ codes "{t}"), ((codes "Too many placeables") ∷ []))
unfolding resolving
a_nested_placeable_does_not_count = refl

a_select_falls_back_to_its_selector : asked bare (codes "m = { \"k\" ->\n   *[k] { t }\n }x\n" ++ many 100 (codes "t")) (codes "m") None [] ≡ Some ((times 98 (codes "a") ++ codes "{t}{\"k\"}"), ((codes "Too many placeables") ∷ []))
unfolding resolving
a_select_falls_back_to_its_selector = refl

a_number_key_matches_its_value : asked plain (codes "n =\n    { $n ->\n        [0] none\n        [one] one\n       *[other] { $n } many\n    }\n") (codes "n") None ((codes "n", number_or_text (codes "00")) ∷ []) ≡ Some ((codes "none"), [])
unfolding resolving
a_number_key_matches_its_value = refl

a_text_matches_a_key : asked plain (codes "n =\n    { $n ->\n        [0] none\n        [one] one\n       *[other] { $n } many\n    }\n") (codes "n") None ((codes "n", number_or_text (codes "one")) ∷ []) ≡ Some ((codes "one"), [])
unfolding resolving
a_text_matches_a_key = refl

digits_behind_the_point_count_for_a_category : asked plain (codes "n =\n    { $n ->\n        [0] none\n        [one] one\n       *[other] { $n } many\n    }\n") (codes "n") None ((codes "n", number_or_text (codes "1.0")) ∷ []) ≡ Some ((encode_utf8 8296 ++ (codes "1.0" ++ (encode_utf8 8297 ++ (codes " many")))), [])
unfolding resolving
digits_behind_the_point_count_for_a_category = refl

a_result_that_is_an_error_shows_the_name : asked plain (codes "n = { NUMBER($x) }\n") (codes "n") None ((codes "x", number_or_text (codes "abc")) ∷ []) ≡ Some ((codes "NUMBER()"), [])
unfolding resolving
a_result_that_is_an_error_shows_the_name = refl

an_argument_that_is_missing_is_told : asked plain (codes "n = { NUMBER($x) }\n") (codes "n") None [] ≡ Some ((codes "NUMBER()"), ((codes "Unknown variable: $x") ∷ []))
unfolding resolving
an_argument_that_is_missing_is_told = refl

an_option_asks_for_a_point : asked plain (codes "q = { NUMBER(5, minimumFractionDigits: 0) }\n") (codes "q") None [] ≡ Some ((codes "5."), [])
unfolding resolving
an_option_asks_for_a_point = refl

a_place_has_a_category_of_its_own : asked plain (codes "rank = { NUMBER($n, type: \"ordinal\") ->\n    [1] first\n    [2] second\n    [3] third\n    [one] {$n}st\n    [two] {$n}nd\n    [few] {$n}rd\n    *[other] {$n}th\n}\n") (codes "rank") None ((codes "n", number_or_text (codes "22")) ∷ []) ≡ Some ((encode_utf8 8296 ++ (codes "22" ++ (encode_utf8 8297 ++ (codes "nd")))), [])
unfolding resolving
a_place_has_a_category_of_its_own = refl

a_number_key_of_another_type_does_not_match : asked plain (codes "rank = { NUMBER($n, type: \"ordinal\") ->\n    [1] first\n    [2] second\n    [3] third\n    [one] {$n}st\n    [two] {$n}nd\n    [few] {$n}rd\n    *[other] {$n}th\n}\n") (codes "rank") None ((codes "n", number_or_text (codes "1")) ∷ []) ≡ Some ((encode_utf8 8296 ++ (codes "1" ++ (encode_utf8 8297 ++ (codes "st")))), [])
unfolding resolving
a_number_key_of_another_type_does_not_match = refl

escapes_are_characters : asked plain (codes "e = { \"\\u00e9\\U01F602\" }\n") (codes "e") None [] ≡ Some ((encode_utf8 233 ++ (encode_utf8 128514)), [])
unfolding resolving
escapes_are_characters = refl

a_function_of_the_program_is_called : asked with_strlen (codes "length = { STRLEN(\"12345\") }\n") (codes "length") None [] ≡ Some ((codes "5"), [])
unfolding resolving
a_function_of_the_program_is_called = refl

texts_alone_are_transformed : asked in_capitals (codes "a = x { \"y\" }\n") (codes "a") None [] ≡ Some ((codes "X y"), [])
unfolding resolving
texts_alone_are_transformed = refl

what_is_handed_out_is_formatted : handed in_brackets (codes "a = x\n") (codes "a") None [] ≡ Some ((codes "[x]"), [])
unfolding resolving
what_is_handed_out_is_formatted = refl

a_text_element_is_not_formatted : asked in_brackets (codes "a = x\n") (codes "a") None [] ≡ Some ((codes "x"), [])
unfolding resolving
a_text_element_is_not_formatted = refl

a_value_that_is_handed_out_is_formatted_twice : handed in_brackets (codes "a = { $n }\n") (codes "a") None ((codes "n", text (codes "v")) ∷ []) ≡ Some ((codes "[[v]]"), [])
unfolding resolving
a_value_that_is_handed_out_is_formatted_twice = refl

a_value_that_is_written_is_formatted_once : asked in_brackets (codes "a = { $n }\n") (codes "a") None ((codes "n", text (codes "v")) ∷ []) ≡ Some ((codes "[v]"), [])
unfolding resolving
a_value_that_is_written_is_formatted_once = refl

a_number_is_written : asked plain (codes "a = { $n }\n") (codes "a") None ((codes "n", number (number_from_integer (pos 5))) ∷ []) ≡ Some ((codes "5"), [])
unfolding resolving
a_number_is_written = refl

a_message_that_names_itself_is_a_cycle : asked plain (codes "a = { a }\n") (codes "a") None [] ≡ Some ((codes "{a}"), ((codes "Cyclical dependency detected") ∷ []))
unfolding resolving
a_message_that_names_itself_is_a_cycle = refl

behind_a_hundred_placeables_a_text_is_written : asked plain (many_and 100 (codes "m") (codes "x")) (codes "m") None [] ≡ Some ((times 100 (codes "a") ++ codes "x"), [])
unfolding resolving
behind_a_hundred_placeables_a_text_is_written = refl

an_attribute_is_referred_to : asked plain (codes "a = v\n    .t = { $q } x\nb = { a.t } y\nc = { b } { a.no }\n") (codes "c") None ((codes "q", text (codes "Z")) ∷ []) ≡ Some ((encode_utf8 8296 ++ (codes "Z" ++ (encode_utf8 8297 ++ (codes " x y {a.no}")))), ((codes "Unknown attribute: a.no") ∷ []))
unfolding resolving
an_attribute_is_referred_to = refl

-- ---- arguments of terms

a_missing_variable_of_a_term_is_not_told : asked plain (codes "-t = { $v }\nm = { -t }\n") (codes "m") None [] ≡ Some (codes "{$v}", [])
unfolding resolving
a_missing_variable_of_a_term_is_not_told = refl

arguments_of_a_request_do_not_reach_into_a_term : asked plain (codes "-t = { $v }\nm = { -t }\n") (codes "m") None ((codes "v", text (codes "req")) ∷ []) ≡ Some (codes "{$v}", [])
unfolding resolving
arguments_of_a_request_do_not_reach_into_a_term = refl

arguments_of_a_term_reach_into_its_messages : asked plain (codes "-t = { a }\na = { $v }\nm = { -t(v: \"x\") }\n") (codes "m") None ((codes "v", text (codes "req")) ∷ []) ≡ Some (codes "x", [])
unfolding resolving
arguments_of_a_term_reach_into_its_messages = refl

arguments_are_resolved_before_a_missing_term_is_told : asked plain (codes "m = { -t({ $x }) }\n") (codes "m") None [] ≡ Some (codes "{-t}", codes "Unknown variable: $x" ∷ codes "Unknown term: -t" ∷ [])
unfolding resolving
arguments_are_resolved_before_a_missing_term_is_told = refl

-- ---- selects without a default

a_lone_star_is_no_variant : asked plain (codes "m = { $n ->\n    [a] x\n  * }\n") (codes "m") None ((codes "n", text (codes "b")) ∷ []) ≡ Some ([], codes "No default" ∷ [])
unfolding resolving
a_lone_star_is_no_variant = refl

abbrev nowhere : Environment Text Function
nowhere = environment plain []

no_variants_give_no_text : told (answer_written nowhere [] (t.placeable (t.select (t.string_literal (codes "k")) t.no_variants) t.no_elements)) ≡ ([], codes "No default" ∷ [])
unfolding resolving
no_variants_give_no_text = refl

-- ---- selects by a message's attribute

abbrev by_gender : Text
by_gender = codes "brand = Firefox\n    .gender = masculine\nupd = { brand.gender ->\n    [masculine] He\n   *[other] It\n }\n"

a_messages_attribute_selects : asked plain by_gender (codes "upd") None [] ≡ Some (codes "He", [])
unfolding resolving
a_messages_attribute_selects = refl

abbrev updated : Option (Done Text)
updated = let env = environment plain by_gender in option_map (answer_written env []) (pattern_of None (env.find (codes "upd")))

-- the asked pattern, the attribute's and the variant's: 1 + 1 * 2, the select being one reference and its selector another
a_messages_attribute_is_entered : option_map (λ (a : Done Text). a.entered) updated ≡ Some 3
unfolding resolving
a_messages_attribute_is_entered = refl

and_counts_as_a_reference : most_references (t.placeable (t.select (t.message_reference (codes "b") (Some (codes "c"))) t.no_variants) t.no_elements) ≡ 2
unfolding resolving
and_counts_as_a_reference = refl

a_missing_attribute_takes_the_default : asked plain (codes "b = v\nx = { b.size ->\n   *[other] It\n }\n") (codes "x") None [] ≡ Some (codes "It", codes "Unknown attribute: b.size" ∷ [])
unfolding resolving
a_missing_attribute_takes_the_default = refl

an_attribute_by_itself_is_a_cycle : asked plain (codes "a = v\n    .t = { a.t ->\n       *[x] y\n    }\n") (codes "a") (Some (codes "t")) [] ≡ Some (codes "y", codes "Cyclical dependency detected" ∷ [])
unfolding resolving
an_attribute_by_itself_is_a_cycle = refl

abbrev by_size : Text
by_size = codes "b = v\n    .size = 1\nx = { b.size ->\n    [1] number\n    [one] category\n   *[other] text\n }\n"

-- it is a text, which no number and no category matches
an_attribute_of_digits_is_a_text : asked plain by_size (codes "x") None [] ≡ Some (codes "text", [])
unfolding resolving
an_attribute_of_digits_is_a_text = refl

an_attribute_is_transformed_before_it_selects :
    asked in_capitals (codes "b = v\n    .c = d\nx = { b.c ->\n    [d] as it stands\n    [D] in capitals\n   *[other] neither\n }\n") (codes "x") None [] ≡ Some (codes "IN CAPITALS", [])
unfolding resolving
an_attribute_is_transformed_before_it_selects = refl

an_attribute_of_a_term_is_none_of_a_message : asked plain (codes "-b = v\n    .c = d\nx = { b.c ->\n    [d] y\n   *[other] z\n }\n") (codes "x") None [] ≡ Some (codes "z", codes "Unknown attribute: b.c" ∷ [])
unfolding resolving
an_attribute_of_a_term_is_none_of_a_message = refl

an_attribute_without_default : asked plain (codes "b = v\n    .c = d\nx = { b.c ->\n    [a] y\n  * }\n") (codes "x") None [] ≡ Some ([], codes "No default" ∷ [])
unfolding resolving
an_attribute_without_default = refl

-- two placeables are opened before those of `t`: that of `m` and that of the variant
a_select_falls_back_to_an_attribute :
    asked bare (codes "b = v\n    .c = d\nm = { b.c ->\n   *[k] { t }\n }x\n" ++ many 100 (codes "t")) (codes "m") None [] ≡ Some (times 98 (codes "a") ++ codes "{t}{b.c}", codes "Too many placeables" ∷ [])
unfolding resolving
a_select_falls_back_to_an_attribute = refl

-- once too many are opened by the attribute, the select's text is empty, after which its fallback stands
an_attribute_opens_too_many :
    asked bare (codes "b = v\n    .c = " ++ (times 100 (codes "{ \"a\" }") ++ codes "\nm = { b.c ->\n   *[k] l\n }x\n")) (codes "m") None [] ≡ Some (codes "{b.c}", codes "Too many placeables" ∷ [])
unfolding resolving
an_attribute_opens_too_many = refl

-- ---- once one placeable was too many

abbrev on : Text
on = encode_utf8 0x2068

abbrev off : Text
off = encode_utf8 0x2069

-- the arguments that are left are resolved, the function is called, and the fallback stands before the closing mark
arguments_are_resolved_once_shut : asked with_strlen (codes "m = { STRLEN(t, $zz) }x\n" ++ many 100 (codes "t")) (codes "m") None [] ≡ Some (on ++ (codes "99{STRLEN()}" ++ off), codes "Too many placeables" ∷ codes "Unknown variable: $zz" ∷ [])
unfolding resolving
arguments_are_resolved_once_shut = refl

an_unknown_function_is_told_once_shut : asked plain (codes "m = { NOPE(t) }\n" ++ many 100 (codes "t")) (codes "m") None [] ≡ Some (codes "{NOPE()}{NOPE()}", codes "Too many placeables" ∷ codes "Unknown function: NOPE()" ∷ [])
unfolding resolving
an_unknown_function_is_told_once_shut = refl

a_cycle_is_told_once_shut : asked with_strlen (codes "m = { STRLEN(t, m) }\n" ++ many 100 (codes "t")) (codes "m") None [] ≡ Some (codes "99{STRLEN()}", codes "Too many placeables" ∷ codes "Cyclical dependency detected" ∷ [])
unfolding resolving
a_cycle_is_told_once_shut = refl

a_referred_pattern_is_empty_once_shut : asked with_strlen (codes "m = { STRLEN(t, { STRLEN(h) }) }\nh = Hi\n" ++ many 100 (codes "t")) (codes "m") None [] ≡ Some (codes "99{STRLEN()}", codes "Too many placeables" ∷ [])
unfolding resolving
a_referred_pattern_is_empty_once_shut = refl

a_nested_select_falls_back_to_its_selector : asked bare (codes "m = {{ $n ->\n   *[a] { t }\n }}x\n" ++ many 100 (codes "t")) (codes "m") None [] ≡ Some (times 98 (codes "a") ++ codes "{t}{$n}", codes "Unknown variable: $n" ∷ codes "Too many placeables" ∷ [])
unfolding resolving
a_nested_select_falls_back_to_its_selector = refl

-- ---- what selects

a_terms_attribute_selects : asked plain (codes "-t = v\n    .case = x\nm = { -t.case ->\n    [x] A\n   *[y] B\n}\n") (codes "m") None [] ≡ Some (codes "A", [])
unfolding resolving
a_terms_attribute_selects = refl

a_string_literal_selects_unescaped : asked plain (codes "m = { \"\\u0061\" ->\n    [a] yes\n   *[b] no\n}\n") (codes "m") None [] ≡ Some (codes "yes", [])
unfolding resolving
a_string_literal_selects_unescaped = refl

-- 1 and 1.0 look different, so they aren't equal
a_number_literal_selects : asked plain (codes "m = { 1 ->\n    [1.0] A\n    [one] B\n   *[o] C\n}\n") (codes "m") None [] ≡ Some (codes "B", [])
unfolding resolving
a_number_literal_selects = refl

a_key_of_too_many_digits_is_a_text : asked plain (codes "m = { $n ->\n    [18446744073709551616] big\n   *[o] other\n}\n") (codes "m") None ((codes "n", number_or_text (codes "18446744073709551616")) ∷ []) ≡ Some (codes "big", [])
unfolding resolving
a_key_of_too_many_digits_is_a_text = refl

-- ---- what is meant, and what isn't

arguments_of_an_outer_term_do_not_reach_into_an_inner_one : asked plain (codes "-in = { $v }\n-out = { -in({ $v }) }\nm = { -out(v: \"x\") }\n") (codes "m") None ((codes "v", text (codes "req")) ∷ []) ≡ Some (codes "{$v}", [])
unfolding resolving
arguments_of_an_outer_term_do_not_reach_into_an_inner_one = refl

patterns_of_equal_content_are_a_cycle : asked plain (codes "a = x { c }\nc = x { c }\n") (codes "a") None [] ≡ Some (codes "x {c}", codes "Cyclical dependency detected" ∷ [])
unfolding resolving
patterns_of_equal_content_are_a_cycle = refl

a_function_is_no_message : asked plain (codes "m = { NUMBER }\n") (codes "m") None [] ≡ Some (codes "{NUMBER}", codes "Unknown message: NUMBER" ∷ [])
unfolding resolving
a_function_is_no_message = refl

a_number_that_is_called_keeps_its_options : asked plain (codes "m = { NUMBER(NUMBER(5, minimumFractionDigits: 2), type: \"ordinal\") }\n") (codes "m") None [] ≡ Some (codes "5.00", [])
unfolding resolving
a_number_that_is_called_keeps_its_options = refl

a_text_of_digits_is_no_number : asked plain (codes "m = { NUMBER(\"5\") } x\n") (codes "m") None [] ≡ Some (on ++ (codes "NUMBER()" ++ (off ++ codes " x")), [])
unfolding resolving
a_text_of_digits_is_no_number = refl

-- a nested placeable stands between marks, and a variable that a term lacks is not told where it selects
a_nested_placeable_and_a_term_without_its_variable : asked plain (codes "-t = { $q ->\n   *[a] A\n}\nm = {{ \"y\" }} { -t }\n") (codes "m") None [] ≡ Some (on ++ (codes "y" ++ (off ++ codes " A")), [])
unfolding resolving
a_nested_placeable_and_a_term_without_its_variable = refl

a_string_literal_is_not_formatted : handed in_brackets (codes "m = { \"y\" }{ $z }\n") (codes "m") None ((codes "z", text (codes "v")) ∷ []) ≡ Some (codes "[y" ++ (on ++ (codes "[v]" ++ (off ++ codes "]"))), [])
unfolding resolving
a_string_literal_is_not_formatted = refl

-- ---- references in one placeable

abbrev message_named : Text → t.Inline
message_named id = t.message_reference id None

-- { F(a, -b({ c }), { d -> *[e] { f } }) }: those of arguments count, and the select, and not those of its variants
abbrev many_references : t.Elements
many_references =
    let term = t.term_reference (codes "b") None (t.with_arguments (t.arguments (t.positional (t.nested (t.inline (message_named (codes "c")))) t.no_inlines) t.no_nameds)) in
    let variant = t.variant (t.identifier_key (codes "e")) (t.placeable (t.inline (message_named (codes "f"))) t.no_elements) true t.no_variants in
    let select = t.nested (t.select (message_named (codes "d")) variant) in
    let args = t.arguments (t.positional (message_named (codes "a")) (t.positional term (t.positional select t.no_inlines))) t.no_nameds in
    t.placeable (t.inline (t.function_reference (codes "F") args)) t.no_elements

five_references : most_references many_references ≡ 5
unfolding resolving
five_references = refl

-- ---- calls that begin inside a pattern

arguments_by_place_and_by_name :
    (arguments_found nowhere (t.with_arguments (t.arguments (t.positional (t.number_literal (codes "1")) t.no_inlines) (t.named (codes "v") (t.number_literal (codes "2")) t.no_nameds))) (outset []) (may_open most_placeables)).value
    ≡ record { positional = number (number_from_integer (pos 1)) ∷ []; named = (codes "v", number (number_from_integer (pos 2))) ∷ [] }
unfolding resolving
arguments_by_place_and_by_name = refl

an_attribute_that_is_missed_is_told : told (missed_written nowhere (t.term_reference (codes "b") (Some (codes "c")) t.no_arguments) (may_open most_placeables)) ≡ (codes "{-b.c}", codes "Unknown attribute: -b.c" ∷ [])
unfolding resolving
an_attribute_that_is_missed_is_told = refl

a_text_refers_to_nothing : told (missed_written nowhere (t.string_literal (codes "x")) (may_open most_placeables)) ≡ (codes "{\"x\"}", [])
unfolding resolving
a_text_refers_to_nothing = refl

abbrev letter : t.Expression
letter = t.inline (t.string_literal (codes "y"))

abbrev letter_in : Budget → Done Text
letter_in b = unmarked_written nowhere (t.placeable letter t.no_elements) letter (outset []) b

an_opened_placeable_does_not_count : letter_in (may_open most_placeables) ≡ done (codes "y") (may_open most_placeables)
unfolding resolving
an_opened_placeable_does_not_count = refl

once_shut_it_falls_back : letter_in shut ≡ done (codes "y{\"y\"}") shut
unfolding resolving
once_shut_it_falls_back = refl

-- ---- messages in a chain, each with a reference to the next, and the last one a text

abbrev name_at : ℕ → Text
name_at n = codes "m" ++ number_text (number_from_integer (pos n))

abbrev links : ℕ → ℕ → Text
links zero n = name_at n ++ codes " = x\n"
links (suc more) n = name_at n ++ (codes " = { " ++ (name_at (n + 1) ++ (codes " }\n" ++ links more (n + 1))))

abbrev fallbacks : ℕ → Text
fallbacks zero = []
fallbacks (suc n) = codes "{" ++ (name_at (suc n) ++ (codes "}" ++ fallbacks n))

a_chain_ends_behind_a_hundred : asked plain (links 120 0) (codes "m0") None [] ≡ Some (fallbacks 100, codes "Too many placeables" ∷ [])
unfolding resolving
a_chain_ends_behind_a_hundred = refl

abbrev chained : Done Text
chained =
    reference_written (environment plain (links 120 0)) (t.message_reference (codes "m0") None)
    (t.placeable (t.inline (t.message_reference (codes "m1") None)) t.no_elements) (outset []) (may_open most_placeables)

a_hundred_are_opened : chained.opened ≡ 100
unfolding resolving
a_hundred_are_opened = refl

and_one_more_is_counted : placeables_of chained ≡ 101
unfolding resolving
and_one_more_is_counted = refl

a_hundred_and_one_are_entered : chained.entered ≡ 101
unfolding resolving
a_hundred_and_one_are_entered = refl
