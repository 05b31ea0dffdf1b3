-- Worked answers: sources, request lines, and the bytes that come out.
use Rattle.std.specs.Prelude.{None, ◌≡◌, refl, ⊤, true, false, List, [], ◌∷◌, ◌++◌, codes, encode_utf8}
use Rattle.std.specs.Fmt.{digits}
use Rattle.std.specs.Str.{is_utf8}
use Rattle.fluent_grammar.specs.Words.{Text}
use Rattle.fluent_grammar.proofs.Computing.{computing}
use Rattle.fluent_number.specs.Digits.{last_digits}
use Rattle.fluent_number.specs.Text.{number_text}
use Rattle.fluent_number.specs.Reading.{read_number}
use Rattle.fluent_number.specs.Operands.{operands_of}
use Rattle.fluent_number.specs.Plurals.{english}
use Rattle.fluent_errors.specs.Errors.{overriding, message, term}
use Rattle.fluent_tidy_laws.specs.Joined.{joined}
use Rattle.fluent_meaning.specs.Same.{same_elements}
use Rattle.fluent_meaning.specs.Substitution.{expression_with, elements_with, pattern_at, pattern_written}
use Rattle.fluent_serve.specs.Lines.{whole_lines, unfinished, lines_of}
use Rattle.fluent_serve.specs.Requests.{request_of}
use Rattle.fluent_serve.specs.Frames.{answer_line}
use Rattle.fluent_answers.specs.Sources.{Settings, notices_of}
use Rattle.fluent_answers.specs.Answers.{answers}

-- opens the definitions of reading, of numbers, of resolving and of answers
unfoldable answering : ⊤
unfolding computing is_utf8 digits read_number number_text operands_of last_digits same_elements expression_with elements_with pattern_at pattern_written whole_lines unfinished lines_of request_of answer_line
answering = tt

abbrev plain : Settings
plain = record { isolating = true; overriding = false; numerals = None }

abbrev bare : Settings
bare = record { isolating = false; overriding = false; numerals = None }

abbrev last_counts : Settings
last_counts = record { isolating = true; overriding = true; numerals = None }

-- English, without values of a program's own type
abbrev asked : Settings → List Text → Text → Text
asked settings sources bytes = answers {S = ⊤} ⊤ english (λ v. []) settings sources bytes

abbrev hello_world : List Text
hello_world = codes "hello-world = Hello, world!\n" ∷ []

hello : asked plain hello_world (codes "hello-world\nnope\n") ≡ codes "ok 13 0\nHello, world!\nnone\n"
unfolding answering
hello = refl

nothing_asked : asked plain [] [] ≡ []
unfolding answering
nothing_asked = refl

no_sources : asked plain [] (codes "\n") ≡ codes "none\n"
unfolding answering
no_sources = refl

no_utf8 : asked plain hello_world (255 ∷ []) ≡ codes "bad\n"
unfolding answering
no_utf8 = refl

abbrev intro : List Text
intro = codes "intro = Welcome, { $name }.\n" ∷ []

an_argument : asked plain intro (codes "intro\tname=John\nintro\tname\n") ≡ codes "ok 20 0\nWelcome, " ++ (encode_utf8 0x2068 ++ (codes "John" ++ (encode_utf8 0x2069 ++ codes ".\nbad\n")))
unfolding answering
an_argument = refl

no_argument : asked bare intro (codes "intro\n") ≡ codes "ok 17 1\nWelcome, {$name}.\nUnknown variable: $name\n"
unfolding answering
no_argument = refl

attributes : asked plain (codes "login =\n    .title = Hi\nx = { login }\n" ∷ []) (codes "login\nlogin.title\nlogin.nope\nx\n") ≡ codes "none\nok 2 0\nHi\nnone\nok 7 1\n{login}\nNo value: login\n"
unfolding answering
attributes = refl

abbrev two_hellos : List Text
two_hellos = codes "hello = Hi!\n" ∷ codes "hello = Another Hi!\n" ∷ []

the_first_counts : asked plain two_hellos (codes "hello\n") ≡ codes "ok 3 0\nHi!\n"
unfolding answering
the_first_counts = refl

the_last_counts : asked last_counts two_hellos (codes "hello\n") ≡ codes "ok 11 0\nAnother Hi!\n"
unfolding answering
the_last_counts = refl

joined_the_first_counts : asked plain (joined two_hellos ∷ []) (codes "hello\n") ≡ codes "ok 3 0\nHi!\n"
unfolding answering
joined_the_first_counts = refl

notices : notices_of ⊤ two_hellos ≡ overriding message (codes "hello") ∷ []
unfolding answering
notices = refl

number_is_taken : notices_of ⊤ (codes "NUMBER = x\n" ∷ []) ≡ overriding message (codes "NUMBER") ∷ []
unfolding answering
number_is_taken = refl

number_stays : asked plain (codes "NUMBER = x\n" ∷ []) (codes "NUMBER\n") ≡ codes "none\n"
unfolding answering
number_stays = refl

number_goes : asked last_counts (codes "NUMBER = x\n" ∷ []) (codes "NUMBER\n") ≡ codes "ok 1 0\nx\n"
unfolding answering
number_goes = refl

the_last_argument_counts : asked bare (codes "m = { $n }\n" ∷ []) (codes "m\tn=007\tn=a=b\nm\tn=007\n") ≡ codes "ok 3 0\na=b\nok 1 0\n7\n"
unfolding answering
the_last_argument_counts = refl

a_cycle_ends : asked plain (codes "a = { b }\nb = { c }\nc = { b }\n" ∷ []) (codes "a\n") ≡ codes "ok 3 1\n{c}\nCyclical dependency detected\n"
unfolding answering
a_cycle_ends = refl

outer_arguments_stand_again : asked bare (codes "-inner = I\n-outer = { -inner } { $v }\nm = { -outer(v: \"x\") }\n" ∷ []) (codes "m\tv=req\n") ≡ codes "ok 3 0\nI x\n"
unfolding answering
outer_arguments_stand_again = refl

terms_share_the_ids : asked plain (codes "a = one\n-a = two\nb = { -a }\n" ∷ []) (codes "b\n") ≡ codes "ok 4 1\n{-a}\nUnknown term: -a\n"
unfolding answering
terms_share_the_ids = refl

numbers_match : asked plain (codes "n =\n    { $n ->\n        [0] none\n        [one] one\n       *[other] { $n } many\n    }\n" ∷ []) (codes "n\tn=00\nn\tn=one\n") ≡ codes "ok 4 0\nnone\nok 3 0\none\n"
unfolding answering
numbers_match = refl

a_fault_is_told_for_a_missing_argument : asked bare (codes "n = { NUMBER($x) }\n" ∷ []) (codes "n\tx=abc\nn\n") ≡ codes "ok 8 0\nNUMBER()\nok 8 1\nNUMBER()\nUnknown variable: $x\n"
unfolding answering
a_fault_is_told_for_a_missing_argument = refl

damage_is_passed_over : asked plain (codes "\nkey1 = Value 1\n\ng@Rb@ge = #2y ds\n\nkey2 = Value 2\n\n" ∷ []) (codes "key1\nkey2\n") ≡ codes "ok 7 0\nValue 1\nok 7 0\nValue 2\n"
unfolding answering
damage_is_passed_over = refl

-- ---- how lines are read

abbrev titled : List Text
titled = codes "m = { $x }\n    .t = T{ $x }\n-a = term\n" ∷ []

an_id_ends_at_its_first_dot : asked plain titled (codes "m.t.u\nm.\n.t\n") ≡ codes "none\nnone\nnone\n"
unfolding answering
an_id_ends_at_its_first_dot = refl

a_carriage_return_is_of_its_line : asked plain titled (codes "m\r\nm\tx=1\r\n") ≡ codes "none\nok 2 0\n1\r\n"
unfolding answering
a_carriage_return_is_of_its_line = refl

an_empty_argument_is_bad_and_an_empty_id_is_none : asked plain titled (codes "m\t\n\tx=1\nm\t=5\n") ≡ codes "bad\nnone\nok 4 1\n{$x}\nUnknown variable: $x\n"
unfolding answering
an_empty_argument_is_bad_and_an_empty_id_is_none = refl

a_bad_line_is_bad_whatever_its_id : asked plain titled (codes "nope\tz\na\n-a\n") ≡ codes "bad\nnone\nnone\n"
unfolding answering
a_bad_line_is_bad_whatever_its_id = refl

-- a name ends at its first equals sign, and the last line needs no line feed
a_value_holds_an_equals_sign : asked plain titled (codes "m.t\tx=1=2\nm\tx=+07.50") ≡ codes "ok 10 0\nT" ++ (encode_utf8 0x2068 ++ (codes "1=2" ++ (encode_utf8 0x2069 ++ codes "\nok 4 0\n7.50\n")))
unfolding answering
a_value_holds_an_equals_sign = refl

one_line_that_is_no_utf8_is_bad : asked plain titled (codes "m\tx=" ++ (200 ∷ codes "\nm\tx=1\n")) ≡ codes "bad\nok 1 0\n1\n"
unfolding answering
one_line_that_is_no_utf8_is_bad = refl

-- ---- what stands for an id

abbrev number_taken : List Text
number_taken = codes "NUMBER = x\nn = { NUMBER(1) }\n" ∷ []

number_is_called : asked plain number_taken (codes "n\n") ≡ codes "ok 1 0\n1\n"
unfolding answering
number_is_called = refl

an_overridden_number_is_unknown : asked last_counts number_taken (codes "n\n") ≡ codes "ok 10 1\n{NUMBER()}\nUnknown function: NUMBER()\n"
unfolding answering
an_overridden_number_is_unknown = refl

-- a notice has the kind of the entry that is told; entries of one source are told too, and junk is not
notices_have_kinds : notices_of ⊤ (codes "a = 1\n-a = 2\n}\na = 3\n" ∷ codes "-NUMBER = n\n" ∷ []) ≡ overriding term (codes "a") ∷ overriding message (codes "a") ∷ overriding term (codes "NUMBER") ∷ []
unfolding answering
notices_have_kinds = refl

-- a cut text that does not end in a line feed gets one, and an empty one none
sources_without_a_last_line_feed_are_joined : joined (codes "a = 1\n}" ∷ codes "b = 2" ∷ codes "}x" ∷ codes "c = 3\n" ∷ []) ≡ codes "a = 1\nb = 2\nc = 3\n"
unfolding answering
sources_without_a_last_line_feed_are_joined = refl

-- ---- selects by a message's attribute

an_attribute_selects : asked plain (codes "brand = Firefox\n    .gender = masculine\nupd = { brand.gender ->\n    [masculine] He\n   *[other] It\n }\n" ∷ []) (codes "upd\n") ≡ codes "ok 2 0\nHe\n"
unfolding answering
an_attribute_selects = refl

an_attribute_that_is_missing_takes_the_default : asked plain (codes "b = v\nx = { b.size ->\n   *[other] It\n }\n" ∷ []) (codes "x\n") ≡ codes "ok 2 1\nIt\nUnknown attribute: b.size\n"
unfolding answering
an_attribute_that_is_missing_takes_the_default = refl

an_attribute_that_selects_by_itself_is_a_cycle : asked plain (codes "a = v\n    .t = { a.t ->\n       *[x] y\n    }\n" ∷ []) (codes "a.t\n") ≡ codes "ok 1 1\ny\nCyclical dependency detected\n"
unfolding answering
an_attribute_that_selects_by_itself_is_a_cycle = refl
