-- Worked rows: a catalog with a reference.
use Rattle.std.specs.Prelude.{[], ◌∷◌, true, false, codes}
use Rattle.std.proofs.Common.{refl}
use Rattle.lint_findings.proofs.Computing.{computing_findings, file, ReportsWithReference}

a_missing_message : ReportsWithReference false (file (codes "en.ftl") (codes "a = b\nb = c\n") ∷ []) (file (codes "de.ftl") (codes "a = x\n") ∷ [])
    (codes "en.ftl:2:1: warning: b: the message has no translation [missing-message]\n2 | b = c\n  | ^\n")
unfolding computing_findings file ReportsWithReference
a_missing_message = refl

values_and_attributes : ReportsWithReference false (file (codes "en.ftl") (codes "a = b\n    .u = c\nb =\n    .v = z\n") ∷ []) (file (codes "de.ftl") (codes "a =\n    .t = x\nb = y\n") ∷ [])
    (codes "de.ftl:1:1: error: a: the value is missing, and the reference has one [missing-value]\n1 | a =\n  | ^\nde.ftl:1:1: error: a: the attribute `.u` of the reference is missing [missing-attribute]\n1 | a =\n  | ^\nde.ftl:2:5: warning: a: the reference has no attribute `.t` [obsolete-attribute]\n2 |     .t = x\n  |     ^\nde.ftl:3:1: warning: b: the reference has no value [obsolete-value]\n3 | b = y\n  | ^\nde.ftl:3:1: error: b: the attribute `.v` of the reference is missing [missing-attribute]\n3 | b = y\n  | ^\n")
unfolding computing_findings file ReportsWithReference
values_and_attributes = refl

unknown_variables : ReportsWithReference false (file (codes "en.ftl") (codes "hi = Hello, { $name }!\nbye = Bye, { $name }!\n") ∷ []) (file (codes "de.ftl") (codes "hi = Hallo, { $nmae }!\nbye = { hi }\n") ∷ [])
    (codes "de.ftl:1:15: error: hi: the reference has no variable `$nmae` [unknown-variable]\n1 | hi = Hallo, { $nmae }!\n  |               ^\n  = did you mean `$name`?\nde.ftl:2:1: error: bye: the reference has no variable `$nmae` [unknown-variable]\n2 | bye = { hi }\n  | ^\n  = did you mean `$name`?\n")
unfolding computing_findings file ReportsWithReference
unknown_variables = refl

arguments_go_on_to_messages : ReportsWithReference false (file (codes "en.ftl") (codes "a = { $n }!\nb = { a } { $n }\n") ∷ []) (file (codes "de.ftl") (codes "a = { $n }\n-t = { $x }\nb = { a }, { -t }\n") ∷ [])
    ([])
unfolding computing_findings file ReportsWithReference
arguments_go_on_to_messages = refl

with_notes : ReportsWithReference true (file (codes "en.ftl") (codes "a = b\nc = { $m } { $n }\n") ∷ []) (file (codes "de.ftl") (codes "a = b\nc = { $n ->\n   *[other] eins\n }\nd = x\n") ∷ [])
    (codes "de.ftl:1:1: note: a: the text is the same as in the reference [untranslated]\n1 | a = b\n  | ^\nde.ftl:2:1: warning: c: the reference shows `$m` [missing-variable]\n2 | c = { $n ->\n  | ^\nde.ftl:5:1: note: d: the reference has no such message [obsolete-message]\n5 | d = x\n  | ^\n")
unfolding computing_findings file ReportsWithReference
with_notes = refl

a_message_that_is_not_translated_yet : ReportsWithReference false (file (codes "en.ftl") (codes "one = 1\n    .t = 2\ntwo = { one } { one.t }\n") ∷ []) (file (codes "de.ftl") (codes "two = zwei { one } { one.t } { tow }\n") ∷ [])
    (codes "de.ftl:1:14: error: two: there is no message `one` [unknown-message]\n1 | two = zwei { one } { one.t } { tow }\n  |              ^\n  = the reference has the message `one`; it isn't translated yet\nde.ftl:1:22: error: two: there is no attribute `one.t` [unknown-attribute]\n1 | two = zwei { one } { one.t } { tow }\n  |                      ^\n  = the reference has the message `one`; it isn't translated yet\nde.ftl:1:32: error: two: there is no message `tow` [unknown-message]\n1 | two = zwei { one } { one.t } { tow }\n  |                                ^\n  = did you mean `two`?\nen.ftl:1:1: warning: one: the message has no translation [missing-message]\n1 | one = 1\n  | ^\n")
unfolding computing_findings file ReportsWithReference
a_message_that_is_not_translated_yet = refl

functions_of_the_reference : ReportsWithReference false (file (codes "en.ftl") (codes "a = { PLATFORM() ->\n   *[other] { $d }\n }\n") ∷ []) (file (codes "de.ftl") (codes "a = { PLATFORM() } { DATETIME($d) }\n") ∷ [])
    (codes "de.ftl:1:22: warning: a: there is no function `DATETIME` [unknown-function]\n1 | a = { PLATFORM() } { DATETIME($d) }\n  |                      ^\n")
unfolding computing_findings file ReportsWithReference
functions_of_the_reference = refl
