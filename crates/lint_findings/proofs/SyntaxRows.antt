-- Worked rows: syntax errors.
use Rattle.std.specs.Prelude.{[], ◌∷◌, ◌++◌, codes}
use Rattle.std.proofs.Common.{refl}
use Rattle.lint_findings.proofs.Computing.{computing_findings, file, Reports}

nothing_is_found : Reports [] (file (codes "a.ftl") (codes "# c\nhello = Hello, { $name }!\n") ∷ [])
    ([])
unfolding computing_findings file Reports
nothing_is_found = refl

no_equals_sign : Reports [] (file (codes "a.ftl") (codes "key1=Value 1\ng@Rb@ge\nkey2 = x\n") ∷ [])
    (codes "a.ftl:2:2: error: g: expected `=` after `g`, found `@` [syntax]\n2 | g@Rb@ge\n  |  ^\n  = a line that continues a text begins with at least one space\n")
unfolding computing_findings file Reports
no_equals_sign = refl

an_attribute_without_equals_sign : Reports [] (file (codes "a.ftl") (codes "foo = v\n    .x = 1\n    .y\nbar = w\n") ∷ [])
    (codes "a.ftl:3:7: error: .y: expected `=` after `.y`, found the end of the line [syntax]\n3 |     .y\n  |       ^\n")
unfolding computing_findings file Reports
an_attribute_without_equals_sign = refl

an_attribute_with_an_open_placeable : Reports [] (file (codes "a.ftl") (codes "foo = v\n    .y = { $n\nbar = w\n") ∷ [])
    (codes "a.ftl:3:1: error: .y: expected `}` at the end of a placeable, found `b` [syntax]\n3 | bar = w\n  | ^\n")
unfolding computing_findings file Reports
an_attribute_with_an_open_placeable = refl

the_file_ends : Reports [] (file (codes "a.ftl") (codes "a = {") ∷ [])
    (codes "a.ftl:1:6: error: a: expected an expression, found the end of the file [syntax]\n1 | a = {\n  |      ^\n")
unfolding computing_findings file Reports
the_file_ends = refl

a_tab_at_a_value : Reports [] (file (codes "a.ftl") (codes "a =\n\tb\n") ∷ [])
    (codes "a.ftl:1:1: error: a: the message has neither a value nor an attribute [syntax]\n1 | a =\n  | ^\n  = a tab isn't an indent; use spaces\n")
unfolding computing_findings file Reports
a_tab_at_a_value = refl

a_tab_at_a_continued_text : Reports [] (file (codes "a.ftl") (codes "a = b\n\tc\n") ∷ [])
    (codes "a.ftl:2:1: error: expected a message, a term or a comment, found a tab [syntax]\n2 | \tc\n  | ^\n  = a tab isn't an indent; use spaces\n")
unfolding computing_findings file Reports
a_tab_at_a_continued_text = refl

a_line_that_is_not_indented : Reports [] (file (codes "a.ftl") (codes "a =\n    one\ntwo three\n") ∷ [])
    (codes "a.ftl:3:5: error: two: expected `=` after `two`, found `t` [syntax]\n3 | two three\n  |     ^\n  = a line that continues a text begins with at least one space\n")
unfolding computing_findings file Reports
a_line_that_is_not_indented = refl

a_dot_in_an_identifier : Reports [] (file (codes "a.ftl") (codes "menu.title = Menu\n") ∷ [])
    (codes "a.ftl:1:5: error: menu: expected `=` after `menu`, found `.` [syntax]\n1 | menu.title = Menu\n  |     ^\n  = an identifier has only letters, digits, `-` and `_`\n")
unfolding computing_findings file Reports
a_dot_in_an_identifier = refl

a_colon : Reports [] (file (codes "a.ftl") (codes "\"a\": \"b\"\nc: d\n") ∷ [])
    (codes "a.ftl:1:1: error: expected a message, a term or a comment, found `\"` [syntax]\n1 | \"a\": \"b\"\n  | ^\na.ftl:2:2: error: c: expected `=` after `c`, found `:` [syntax]\n2 | c: d\n  |  ^\n  = write `=` before the value\n")
unfolding computing_findings file Reports
a_colon = refl

a_byte_order_mark : Reports [] (file (codes "a.ftl") ((239 ∷ 187 ∷ 191 ∷ []) ++ (codes "a = b\n")) ∷ [])
    (codes "a.ftl:1:1: error: the file begins with a byte order mark, so its first line can't be read [byte-order-mark]\n1 | " ++ ((239 ∷ 187 ∷ 191 ∷ []) ++ (codes "a = b\n  | ^\n  = `ftl tidy` removes it\n")))
unfolding computing_findings file Reports
a_byte_order_mark = refl

a_byte_order_mark_alone : Reports [] (file (codes "a.ftl") (239 ∷ 187 ∷ 191 ∷ []) ∷ [])
    (codes "a.ftl:1:1: error: the file begins with a byte order mark, so its first line can't be read [byte-order-mark]\n1 | " ++ ((239 ∷ 187 ∷ 191 ∷ []) ++ (codes "\n  | ^\n  = `ftl tidy` removes it\n")))
unfolding computing_findings file Reports
a_byte_order_mark_alone = refl

a_byte_order_mark_further_on : Reports [] (file (codes "a.ftl") (codes "a = b\n" ++ ((239 ∷ 187 ∷ 191 ∷ []) ++ (codes "c = d\n"))) ∷ [])
    (codes "a.ftl:2:1: error: expected a message, a term or a comment, found `" ++ ((239 ∷ 187 ∷ 191 ∷ []) ++ (codes "` [syntax]\n2 | " ++ ((239 ∷ 187 ∷ 191 ∷ []) ++ (codes "c = d\n  | ^\n  = this is a byte order mark; save the file without it\n")))))
unfolding computing_findings file Reports
a_byte_order_mark_further_on = refl

a_merge_conflict : Reports [] (file (codes "a.ftl") (codes "<<<<<<< mine\na = b\n=======\na = c\n>>>>>>> theirs\n") ∷ [])
    (codes "a.ftl:1:1: error: expected a message, a term or a comment, found `<` [syntax]\n1 | <<<<<<< mine\n  | ^\n  = this is an unresolved merge conflict\na.ftl:3:1: error: expected a message, a term or a comment, found `=` [syntax]\n3 | =======\n  | ^\n  = this is an unresolved merge conflict\na.ftl:4:1: error: a: the entry at a.ftl:2:1 has the same id, so this one is never shown [duplicate-id]\n4 | a = c\n  | ^\na.ftl:5:1: error: expected a message, a term or a comment, found `>` [syntax]\n5 | >>>>>>> theirs\n  | ^\n  = this is an unresolved merge conflict\n")
unfolding computing_findings file Reports
a_merge_conflict = refl

comments : Reports [] (file (codes "a.ftl") (codes "#c\na = b\n// d\ne = f\n") ∷ [])
    (codes "a.ftl:1:2: error: expected a space after `#`, found `c` [syntax]\n1 | #c\n  |  ^\na.ftl:3:1: error: expected a message, a term or a comment, found `/` [syntax]\n3 | // d\n  | ^\n  = a comment begins with `# `\n")
unfolding computing_findings file Reports
comments = refl

curly_quotes : Reports [] (file (codes "a.ftl") (codes "a = { " ++ ((226 ∷ 128 ∷ 156 ∷ []) ++ (codes "x" ++ ((226 ∷ 128 ∷ 157 ∷ []) ++ (codes " }\n"))))) ∷ [])
    (codes "a.ftl:1:7: error: a: expected an expression, found `" ++ ((226 ∷ 128 ∷ 156 ∷ []) ++ (codes "` [syntax]\n1 | a = { " ++ ((226 ∷ 128 ∷ 156 ∷ []) ++ (codes "x" ++ ((226 ∷ 128 ∷ 157 ∷ []) ++ (codes " }\n  |       ^\n  = a string is written between straight quotes, `\"`\n")))))))
unfolding computing_findings file Reports
curly_quotes = refl

braces_in_texts : Reports [] (file (codes "a.ftl") (codes "a = {}\nb = }\n") ∷ [])
    (codes "a.ftl:1:6: error: a: expected an expression, found `}` [syntax]\n1 | a = {}\n  |      ^\n  = write a brace in a text as `{ \"{\" }`\na.ftl:2:5: error: b: `}` has no matching `{` [syntax]\n2 | b = }\n  |     ^\n  = write a brace in a text as `{ \"}\" }`\n")
unfolding computing_findings file Reports
braces_in_texts = refl

no_default : Reports [] (file (codes "a.ftl") (codes "a = { $n ->\n    [one] x\n    [other] y\n }\n") ∷ [])
    (codes "a.ftl:4:2: error: a: no variant is marked with `*` [syntax]\n4 |  }\n  |  ^\n  = mark the one for all other cases, as `*[other]`\n")
unfolding computing_findings file Reports
no_default = refl

two_defaults : Reports [] (file (codes "a.ftl") (codes "a = { $n ->\n   *[one] x\n   *[other] y\n }\n") ∷ [])
    (codes "a.ftl:3:5: error: a: a second variant is marked with `*` [syntax]\n3 |    *[other] y\n  |     ^\n")
unfolding computing_findings file Reports
two_defaults = refl

a_small_letter_in_the_name_of_a_function : Reports [] (file (codes "a.ftl") (codes "a = { number($n) }\n") ∷ [])
    (codes "a.ftl:1:17: error: a: the name of a function can't have lowercase letters [syntax]\n1 | a = { number($n) }\n  |                 ^\n  = functions are written in capitals, as `NUMBER($n)`\n")
unfolding computing_findings file Reports
a_small_letter_in_the_name_of_a_function = refl

strings : Reports [] (file (codes "a.ftl") (codes "a = { \"x\n }\nb = { \"\\q\" }\nc = { \"\\u12\" }\n") ∷ [])
    (codes "a.ftl:1:9: error: a: the string isn't closed on its line [syntax]\n1 | a = { \"x\n  |         ^\na.ftl:3:8: error: b: unknown escape `\\q` [syntax]\n3 | b = { \"\\q\" }\n  |        ^\n  = the escapes are `\\\\`, `\\\"`, `\\u` with 4 hex digits and `\\U` with 6\na.ftl:4:12: error: c: expected a hex digit, found `\"` [syntax]\n4 | c = { \"\\u12\" }\n  |            ^\n  = `\\u` needs 4 hex digits, and `\\U` needs 6\n")
unfolding computing_findings file Reports
strings = refl

arguments : Reports [] (file (codes "a.ftl") (codes "a = { F(x: 1, $y) }\nb = { F(x: 1, x: 2) }\nc = { F(x: $y) }\n") ∷ [])
    (codes "a.ftl:1:17: error: a: a positional argument follows a named one [syntax]\n1 | a = { F(x: 1, $y) }\n  |                 ^\na.ftl:2:16: error: b: there are two arguments `x` [syntax]\n2 | b = { F(x: 1, x: 2) }\n  |                ^\na.ftl:3:12: error: c: expected a string or a number as the value of a named argument, found `$` [syntax]\n3 | c = { F(x: $y) }\n  |            ^\n")
unfolding computing_findings file Reports
arguments = refl

selectors : Reports [] (file (codes "a.ftl") (codes "a = { -t ->\n   *[x] y\n }\nb = { a ->\n   *[x] y\n }\n-t = { {1} ->\n   *[x] y\n }\n") ∷ [])
    (codes "a.ftl:1:10: error: a: a term can't be a selector [syntax]\n1 | a = { -t ->\n  |          ^\n  = one of its attributes can, as `-term.attribute`\na.ftl:4:9: error: b: a message can't be a selector [syntax]\n4 | b = { a ->\n  |         ^\n  = a variable is written `$name`, and an attribute `message.attribute`\na.ftl:7:12: error: -t: a placeable can't be a selector [syntax]\n7 | -t = { {1} ->\n  |            ^\n  = remove the inner braces\n")
unfolding computing_findings file Reports
selectors = refl

a_shown_attribute_of_a_term : Reports [] (file (codes "a.ftl") (codes "a = { -t.case }\n") ∷ [])
    (codes "a.ftl:1:15: error: a: an attribute of a term can't be shown [syntax]\n1 | a = { -t.case }\n  |               ^\n  = it can be a selector, before `->`\n")
unfolding computing_findings file Reports
a_shown_attribute_of_a_term = refl

empty_entries : Reports [] (file (codes "a.ftl") (codes "a =\n-t =\n\nb = c\n") ∷ [])
    (codes "a.ftl:1:1: error: a: the message has neither a value nor an attribute [syntax]\n1 | a =\n  | ^\n  = write an empty text as `{ \"\" }`\na.ftl:2:1: error: -t: the term has no value [syntax]\n2 | -t =\n  | ^\n  = write an empty text as `{ \"\" }`\n")
unfolding computing_findings file Reports
empty_entries = refl

an_arrow_without_a_space : Reports [] (file (codes "a.ftl") (codes "a = { $n->\n   *[x] y\n }\n") ∷ [])
    (codes "a.ftl:1:10: error: a: expected `}` at the end of a placeable, found `>` [syntax]\n1 | a = { $n->\n  |          ^\n  = an arrow has a space before it, as in `{ $name ->`\n")
unfolding computing_findings file Reports
an_arrow_without_a_space = refl
