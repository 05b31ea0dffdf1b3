-- Worked rows: a catalog.
use Rattle.std.specs.Prelude.{[], ◌∷◌, ◌++◌, codes}
use Rattle.std.proofs.Common.{refl}
use Rattle.lint_findings.proofs.Computing.{computing_findings, file, Reports, ReportsNotes}

columns_are_characters : Reports [] (file (codes "a.ftl") (codes "a = " ++ ((195 ∷ 169 ∷ []) ++ (codes "\t{ -b }\r\n"))) ∷ [])
    (codes "a.ftl:1:9: error: a: there is no term `-b` [unknown-term]\n1 | a = " ++ ((195 ∷ 169 ∷ []) ++ (codes "\t{ -b }\n  |      \t  ^\n")))
unfolding computing_findings file Reports
columns_are_characters = refl

unknown_names : Reports [] (file (codes "a.ftl") (codes "a = { b } { -c } { d.e } { D() }\n    .t = { -t.u ->\n       *[x] y\n    }\n-t = T\n") ∷ [])
    (codes "a.ftl:1:7: error: a: there is no message `b` [unknown-message]\n1 | a = { b } { -c } { d.e } { D() }\n  |       ^\n  = a variable is written `$b`\na.ftl:1:13: error: a: there is no term `-c` [unknown-term]\n1 | a = { b } { -c } { d.e } { D() }\n  |             ^\na.ftl:1:20: error: a: there is no attribute `d.e` [unknown-attribute]\n1 | a = { b } { -c } { d.e } { D() }\n  |                    ^\n  = a variable is written `$d`\na.ftl:1:28: warning: a: there is no function `D` [unknown-function]\n1 | a = { b } { -c } { d.e } { D() }\n  |                            ^\na.ftl:2:12: error: a.t: there is no attribute `-t.u` [unknown-attribute]\n2 |     .t = { -t.u ->\n  |            ^\n")
unfolding computing_findings file Reports
unknown_names = refl

a_message_for_a_term : Reports [] (file (codes "a.ftl") (codes "a = { -b }\nb = { c }\n-c = C\n") ∷ [])
    (codes "a.ftl:1:7: error: a: there is no term `-b` [unknown-term]\n1 | a = { -b }\n  |       ^\n  = `b` is a message\na.ftl:2:7: error: b: there is no message `c` [unknown-message]\n2 | b = { c }\n  |       ^\n  = `-c` is a term\n")
unfolding computing_findings file Reports
a_message_for_a_term = refl

a_message_without_value : Reports [] (file (codes "a.ftl") (codes "a = { b }\nb =\n    .title = x\n") ∷ [])
    (codes "a.ftl:1:7: error: a: the message `b` has no value [no-value]\n1 | a = { b }\n  |       ^\n  = it has the attribute `.title`\n")
unfolding computing_findings file Reports
a_message_without_value = refl

references_without_end : Reports [] (file (codes "a.ftl") (codes "a = { b }\nb = { c }\nc = { b }\nd = x\n    .t = { d }\n") ∷ [])
    (codes "a.ftl:1:1: error: a: the references never end [cyclic-reference]\n1 | a = { b }\n  | ^\n  = they go on at `b`\na.ftl:2:1: error: b: the references never end [cyclic-reference]\n2 | b = { c }\n  | ^\n  = they go on at `c`\na.ftl:3:1: error: c: the references never end [cyclic-reference]\n3 | c = { b }\n  | ^\n  = they go on at `b`\n")
unfolding computing_findings file Reports
references_without_end = refl

a_lone_mark_and_a_key_twice : Reports [] (file (codes "a.ftl") (codes "a = { $n ->\n    [one] x\n    [one] y\n  * }\n") ∷ [])
    (codes "a.ftl:1:7: error: a: no variant is the default, since a `*` has no variant after it [no-default]\n1 | a = { $n ->\n  |       ^\n  = write it before a variant, as `*[other]`\na.ftl:3:6: warning: a: an earlier variant has the key `one` [duplicate-variant]\n3 |     [one] y\n  |      ^\n")
unfolding computing_findings file Reports
a_lone_mark_and_a_key_twice = refl

inside_calls_selects_and_placeables : Reports [] (file (codes "a.ftl") (codes "a = { NUMBER(b, {c}, -d(y: \"e\"), x: 1) } {{ f }}\n    .t = { $n ->\n        [one] { g } g\n       *[other] {\n        h\n        }\n    }\n") ∷ [])
    (codes "a.ftl:1:7: warning: a: `NUMBER` has no option `x` [unknown-option]\n1 | a = { NUMBER(b, {c}, -d(y: \"e\"), x: 1) } {{ f }}\n  |       ^\na.ftl:1:14: error: a: there is no message `b` [unknown-message]\n1 | a = { NUMBER(b, {c}, -d(y: \"e\"), x: 1) } {{ f }}\n  |              ^\n  = a variable is written `$b`\na.ftl:1:18: error: a: there is no message `c` [unknown-message]\n1 | a = { NUMBER(b, {c}, -d(y: \"e\"), x: 1) } {{ f }}\n  |                  ^\n  = a variable is written `$c`\na.ftl:1:22: error: a: there is no term `-d` [unknown-term]\n1 | a = { NUMBER(b, {c}, -d(y: \"e\"), x: 1) } {{ f }}\n  |                      ^\na.ftl:1:45: error: a: there is no message `f` [unknown-message]\n1 | a = { NUMBER(b, {c}, -d(y: \"e\"), x: 1) } {{ f }}\n  |                                             ^\n  = a variable is written `$f`\na.ftl:3:17: error: a.t: there is no message `g` [unknown-message]\n3 |         [one] { g } g\n  |                 ^\n  = a variable is written `$g`\na.ftl:5:9: error: a.t: there is no message `h` [unknown-message]\n5 |         h\n  |         ^\n  = a variable is written `$h`\n")
unfolding computing_findings file Reports
inside_calls_selects_and_placeables = refl

ids_twice : Reports [] (file (codes "a.ftl") (codes "x = 1\nx = 2\n") ∷ file (codes "b.ftl") (codes "# c\n-x = 3\nNUMBER = 4\n") ∷ [])
    (codes "a.ftl:2:1: error: x: the entry at a.ftl:1:1 has the same id, so this one is never shown [duplicate-id]\n2 | x = 2\n  | ^\nb.ftl:2:1: error: -x: the entry at a.ftl:1:1 has the same id, so this one is never shown [duplicate-id]\n2 | -x = 3\n  | ^\nb.ftl:3:1: error: NUMBER: `NUMBER` is a function, so this entry is never shown [duplicate-id]\n3 | NUMBER = 4\n  | ^\n")
unfolding computing_findings file Reports
ids_twice = refl

an_attribute_twice : Reports [] (file (codes "a.ftl") (codes "a = b\n    .t = 1\n    .t = 2\n") ∷ [])
    (codes "a.ftl:3:5: warning: a.t: an earlier attribute has this name, so this one is never shown [duplicate-attribute]\n3 |     .t = 2\n  |     ^\n")
unfolding computing_findings file Reports
an_attribute_twice = refl

escapes_of_surrogates : Reports [] (file (codes "a.ftl") (codes "a = { \"\\uD83D\\uDE00\" }\n") ∷ [])
    (codes "a.ftl:1:7: warning: a: `\\uD83D` isn't a character, and is shown as U+FFFD [invalid-escape]\n1 | a = { \"\\uD83D\\uDE00\" }\n  |       ^\na.ftl:1:7: warning: a: `\\uDE00` isn't a character, and is shown as U+FFFD [invalid-escape]\n1 | a = { \"\\uD83D\\uDE00\" }\n  |       ^\n")
unfolding computing_findings file Reports
escapes_of_surrogates = refl

references_between_files : Reports [] (file (codes "a.ftl") (codes "a = { b.t } { -brand }\n") ∷ file (codes "b.ftl") (codes "b =\n    .t = x\n-brand = B\n") ∷ [])
    ([])
unfolding computing_findings file Reports
references_between_files = refl

functions_of_the_program : Reports (codes "DATETIME" ∷ []) (file (codes "a.ftl") (codes "a = { DATETIME($d) } { PLATFORM() }\n") ∷ [])
    (codes "a.ftl:1:24: warning: a: there is no function `PLATFORM` [unknown-function]\n1 | a = { DATETIME($d) } { PLATFORM() }\n  |                        ^\n")
unfolding computing_findings file Reports
functions_of_the_program = refl

an_attribute_of_a_message_is_a_selector : Reports [] (file (codes "a.ftl") (codes "a = { b.case ->\n    [x] y\n   *[z] w\n }\nb = B\n    .case = x\n") ∷ [])
    []
unfolding computing_findings file Reports
an_attribute_of_a_message_is_a_selector = refl

an_unknown_attribute_in_a_selector : Reports [] (file (codes "a.ftl") (codes "a = { b.case ->\n   *[z] w\n }\nb = B\n") ∷ [])
    (codes "a.ftl:1:7: error: a: there is no attribute `b.case` [unknown-attribute]\n1 | a = { b.case ->\n  |       ^\n")
unfolding computing_findings file Reports
an_unknown_attribute_in_a_selector = refl

a_circle_with_a_selector : Reports [] (file (codes "a.ftl") (codes "a = { a.t ->\n   *[x] y\n }\n    .t = { a }\n") ∷ [])
    (codes "a.ftl:1:1: error: a: the references never end [cyclic-reference]\n1 | a = { a.t ->\n  | ^\n  = they go on at `a.t`\na.ftl:4:5: error: a.t: the references never end [cyclic-reference]\n4 |     .t = { a }\n  |     ^\n  = they go on at `a`\n")
unfolding computing_findings file Reports
a_circle_with_a_selector = refl

an_escape_in_a_named_argument : Reports [] (file (codes "a.ftl") (codes "a = { NUMBER(1, type: \"\\uD83D\") }\n") ∷ [])
    (codes "a.ftl:1:7: warning: a: `\\uD83D` isn't a character, and is shown as U+FFFD [invalid-escape]\n1 | a = { NUMBER(1, type: \"\\uD83D\") }\n  |       ^\na.ftl:1:7: warning: a: the option `type` has no value `\\uD83D` [unknown-option]\n1 | a = { NUMBER(1, type: \"\\uD83D\") }\n  |       ^\n")
unfolding computing_findings file Reports
an_escape_in_a_named_argument = refl

options_of_number : Reports (codes "PLATFORM" ∷ []) (file (codes "a.ftl") (codes "a = { NUMBER($n, type: \"ordinal\", style: \"percent\", currency: \"EUR\", currencyDisplay: \"code\", useGrouping: \"false\", maximumFractionDigits: 2) } { PLATFORM($d, x: 1) }\n") ∷ [])
    []
unfolding computing_findings file Reports
options_of_number = refl

options_of_dates : Reports (codes "DATETIME" ∷ []) (file (codes "a.ftl") (codes "a = { DATETIME($d, dateStyle: \"long\", timeStyle: \"short\", hour12: \"false\") } { DATETIME($d, month: \"long\", fractionalSecondDigits: 3) }\n") ∷ [])
    []
unfolding computing_findings file Reports
options_of_dates = refl

components_next_to_a_style : Reports (codes "DATETIME" ∷ []) (file (codes "a.ftl") (codes "a = { DATETIME($d, month: \"long\", timeStyle: \"big\") }\n") ∷ [])
    (codes "a.ftl:1:7: warning: a: the option `timeStyle` has no value `big` [unknown-option]\n1 | a = { DATETIME($d, month: \"long\", timeStyle: \"big\") }\n  |       ^\na.ftl:1:7: warning: a: the option `month` doesn't count next to `timeStyle` [unknown-option]\n1 | a = { DATETIME($d, month: \"long\", timeStyle: \"big\") }\n  |       ^\n")
unfolding computing_findings file Reports
components_next_to_a_style = refl

options_that_number_lacks : Reports [] (file (codes "a.ftl") (codes "a = { NUMBER($n, digits: 2) }\nb = { NUMBER($n, style: \"percnt\") }\nc = { NUMBER($n, minimumFractionDigits: \"2\") }\nd = { NUMBER($n, style: 1) }\n") ∷ [])
    (codes "a.ftl:1:7: warning: a: `NUMBER` has no option `digits` [unknown-option]\n1 | a = { NUMBER($n, digits: 2) }\n  |       ^\na.ftl:2:7: warning: b: the option `style` has no value `percnt` [unknown-option]\n2 | b = { NUMBER($n, style: \"percnt\") }\n  |       ^\n  = did you mean `percent`?\na.ftl:3:7: warning: c: the option `minimumFractionDigits` takes a number, without quotes [unknown-option]\n3 | c = { NUMBER($n, minimumFractionDigits: \"2\") }\n  |       ^\na.ftl:4:7: warning: d: the option `style` takes a text, in quotes [unknown-option]\n4 | d = { NUMBER($n, style: 1) }\n  |       ^\n")
unfolding computing_findings file Reports
options_that_number_lacks = refl

an_option_one_slip_away : Reports [] (file (codes "a.ftl") (codes "a = { NUMBER($n, typ: \"ordinal\") }\n") ∷ [])
    (codes "a.ftl:1:7: warning: a: `NUMBER` has no option `typ` [unknown-option]\n1 | a = { NUMBER($n, typ: \"ordinal\") }\n  |       ^\n  = did you mean `type`?\n")
unfolding computing_findings file Reports
an_option_one_slip_away = refl

terms_that_no_entry_refers_to : ReportsNotes (file (codes "a.ftl") (codes "a = { -b }\n-b = B\n-c = C\n") ∷ file (codes "b.ftl") (codes "-c = x\n-d = { -d.g ->\n   *[x] y\n }\n    .g = h\n") ∷ [])
    (codes "a.ftl:3:1: note: -c: no entry refers to this term [unused-term]\n3 | -c = C\n  | ^\nb.ftl:1:1: error: -c: the entry at a.ftl:3:1 has the same id, so this one is never shown [duplicate-id]\n1 | -c = x\n  | ^\n")
unfolding computing_findings file ReportsNotes
terms_that_no_entry_refers_to = refl
