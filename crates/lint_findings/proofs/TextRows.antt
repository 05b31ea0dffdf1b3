-- Worked rows: what is said of texts beside those of the reference, and of letters.
use Rattle.std.specs.Prelude.{◌≡◌, [], ◌∷◌, ◌++◌, None, codes}
use Rattle.std.proofs.Common.{refl}
use Rattle.fluent_grammar.specs.Words.{Text}
use Rattle.fluent_meaning.specs.Same.{same_elements}
use Rattle.fluent_plurals.specs.Plurals.{plurals_for}
use Rattle.lint_findings.specs.Findings.{findings, findings_with_reference}
use Rattle.lint_findings.specs.Report.{report_lines}
use Rattle.lint_findings.proofs.Computing.{computing_findings, file}

-- what is reported of a source with a reference
Says : Text → Text → Text → Type 0
Says reference source written =
    report_lines (findings_with_reference (record { functions = []; plurals = None }) (file (codes "r.ftl") reference ∷ []) (file (codes "a.ftl") source ∷ [])) ≡ written

a_tag_without_an_end : Says (codes "a = Try <b>this</b> now\n") (codes "a = Probiere <b das</b> jetzt\n")
    (codes "a.ftl:1:14: warning: a: this tag has no end [broken-tag]\n")
unfolding computing_findings file same_elements Says
a_tag_without_an_end = refl

an_element_that_is_not_closed : Says (codes "a = Try <b>this</b> now\n") (codes "a = Probiere <b>das jetzt\n")
    (codes "a.ftl:1:14: warning: a: `<b>` isn't closed [unbalanced-element]\n")
unfolding computing_findings file same_elements Says
an_element_that_is_not_closed = refl

an_element_that_the_reference_lacks : Says (codes "a = <b>Hi</b>\n") (codes "a = <b>Tag</c>\n")
    (codes "a.ftl:1:11: warning: a: the reference has no element `c` [unknown-element]\n")
unfolding computing_findings file same_elements Says
an_element_that_the_reference_lacks = refl

an_element_that_is_left_out : Says (codes "a = More <i>ad hoc</i>\n") (codes "a = Mehr\n")
    (codes "a.ftl:1:5: note: a: the reference has an element `i` [missing-element]\n")
unfolding computing_findings file same_elements Says
an_element_that_is_left_out = refl

a_name_that_is_left_out : Says (codes "a = <a data-l10n-name=\"x\">b</a>\n") (codes "a = <a>b</a>\n")
    (codes "a.ftl:1:5: warning: a: the reference has `data-l10n-name=\"x\"` [missing-l10n-name]\n")
unfolding computing_findings file same_elements Says
a_name_that_is_left_out = refl

a_name_that_is_new : Says (codes "a = <a data-l10n-name=\"x\">b</a>\n") (codes "a = <a data-l10n-name='y'>b</a>\n")
    (codes "a.ftl:1:5: warning: a: the reference has no `data-l10n-name=\"y\"` [unknown-l10n-name]\n")
unfolding computing_findings file same_elements Says
a_name_that_is_new = refl

an_entity_without_its_end : Says (codes "a = Cut &amp; paste\n") (codes "a = Aus &amp ein\n")
    (codes "a.ftl:1:9: warning: a: `&amp` has no `;` [broken-entity]\n")
unfolding computing_findings file same_elements Says
an_entity_without_its_end = refl

an_access_key_of_two_letters : Says (codes "a =\n    .accesskey = S\n") (codes "a =\n    .accesskey = Si\n")
    (codes "a.ftl:2:18: warning: a.accesskey: `Si` has more than one character [long-access-key]\n")
unfolding computing_findings file same_elements Says
an_access_key_of_two_letters = refl

an_access_key_outside_of_the_label : Says (codes "a = Search\n    .accesskey = s\n") (codes "a = Finden\n    .accesskey = S\n")
    (codes "a.ftl:2:18: note: a.accesskey: `S` isn't in the label [access-key-not-in-label]\n")
unfolding computing_findings file same_elements Says
an_access_key_outside_of_the_label = refl

a_style_without_unit : Says (codes "a =\n    .style = height: 12em\n") (codes "a =\n    .style = height: 12\n")
    (codes "a.ftl:2:14: warning: a.style: the reference has `height: 12em` [changed-style]\n")
unfolding computing_findings file same_elements Says
a_style_without_unit = refl

a_style_with_another_number : Says (codes "a =\n    .style = a: 1em; b: c\n") (codes "a =\n    .style = b: d; a: 2em;\n") []
unfolding computing_findings file same_elements Says
a_style_with_another_number = refl

-- ---- the group of notes on texts

another_host : Says (codes "a = http://b.org\n") (codes "a = http://c.org\n")
    (codes "a.ftl:1:5: note: a: the reference has an address of `b.org` [changed-url]\n")
unfolding computing_findings file same_elements Says
another_host = refl

a_placeholder_that_is_new : Says (codes "a = b\n") (codes "a = c %1$S\n")
    (codes "a.ftl:1:7: note: a: the reference has no `%1$S` [changed-placeholder]\n")
unfolding computing_findings file same_elements Says
a_placeholder_that_is_new = refl

another_number : Says (codes "a = 45 b\n") (codes "a = c 054\n")
    (codes "a.ftl:1:7: note: a: the reference has `45` [changed-number]\n")
unfolding computing_findings file same_elements Says
another_number = refl

a_space_at_the_end : Says (codes "a = b\n") (codes "a = c{ \" \" }\n")
    (codes "a.ftl:1:5: note: a: the text ends with a space [edge-space]\n")
unfolding computing_findings file same_elements Says
a_space_at_the_end = refl

two_spaces : Says (codes "a = b c\n") (codes "a = b  d\n")
    (codes "a.ftl:1:6: note: a: two spaces [double-space]\n")
unfolding computing_findings file same_elements Says
two_spaces = refl

a_word_that_stands_twice : Says (codes "a = b\n") (codes "a = zu zum Zum, c\n")
    (codes "a.ftl:1:8: note: a: a word stands here twice [doubled-word]\n")
unfolding computing_findings file same_elements Says
a_word_that_stands_twice = refl

a_word_that_may_stand_twice : Says (codes "a = b\n") (codes "a = die die c\n") []
unfolding computing_findings file same_elements Says
a_word_that_may_stand_twice = refl

a_colon_that_is_lost : Says (codes "a = b:\n") (codes "a = c\n")
    (codes "a.ftl:1:5: note: a: the reference ends with a colon [final-punctuation]\n")
unfolding computing_findings file same_elements Says
a_colon_that_is_lost = refl

three_dots : Says (codes "a = b" ++ (0xE2 ∷ 0x80 ∷ 0xA6 ∷ codes "\n")) (codes "a = c...\n")
    (codes "a.ftl:1:6: note: a: the reference has `" ++ (0xE2 ∷ 0x80 ∷ 0xA6 ∷ codes "` [three-dots]\n"))
unfolding computing_findings file same_elements Says
three_dots = refl

a_quote_without_a_partner : Says (codes "a = b " ++ (0xE2 ∷ 0x80 ∷ 0x9C ∷ (codes "c" ++ (0xE2 ∷ 0x80 ∷ 0x9D ∷ codes "\n")))) (codes "a = d " ++ (0xE2 ∷ 0x80 ∷ 0x9E ∷ codes "c\n"))
    (codes "a.ftl:1:7: note: a: `" ++ (0xE2 ∷ 0x80 ∷ 0x9E ∷ codes "` has no partner [unpaired-quote]\n"))
unfolding computing_findings file same_elements Says
a_quote_without_a_partner = refl

straight_quotes : Says (codes "a = b " ++ (0xE2 ∷ 0x80 ∷ 0x9C ∷ (codes "c" ++ (0xE2 ∷ 0x80 ∷ 0x9D ∷ codes "\n")))) (codes "a = d \"c\"\n")
    (codes "a.ftl:1:7: note: a: the reference has `" ++ (0xE2 ∷ 0x80 ∷ 0x9C ∷ codes "` [straight-quote]\n"))
unfolding computing_findings file same_elements Says
straight_quotes = refl

an_empty_variant : Says (codes "a = { $n ->\n   *[b] c\n }\n") (codes "a = { $n ->\n    [one] { \"\" }\n   *[b] d\n }\n")
    (codes "a.ftl:1:5: note: a: a variant is empty [empty-text]\n")
unfolding computing_findings file same_elements Says
an_empty_variant = refl

-- ---- letters

Alone : Text → Text → Type 0
Alone source written =
    report_lines (findings (record { functions = []; plurals = None }) (file (codes "a.ftl") source ∷ [])) ≡ written

a_latin_letter : Alone (codes "a = C" ++ (0xD0 ∷ 0xB5 ∷ 0xD1 ∷ 0x80 ∷ 0xD0 ∷ 0xB2 ∷ 0xD0 ∷ 0xB5 ∷ 0xD1 ∷ 0x80 ∷ codes "\n"))
    (codes "a.ftl:1:5: warning: a: U+0043 is a Latin letter in a Cyrillic word [mixed-scripts]\n")
unfolding computing_findings file Alone
a_latin_letter = refl

a_cyrillic_letter : Alone (codes "a = x S" ++ (0xD0 ∷ 0xB5 ∷ codes "ite\n"))
    (codes "a.ftl:1:8: warning: a: U+0435 is a Cyrillic letter in a Latin word [mixed-scripts]\n")
unfolding computing_findings file Alone
a_cyrillic_letter = refl

words_of_one_script : Alone (codes "a = Gr" ++ (0xC3 ∷ 0xB6 ∷ 0xC3 ∷ 0x9F ∷ (codes "e " ++ (0xD1 ∷ 0x81 ∷ 0xD0 ∷ 0xB5 ∷ 0xD1 ∷ 0x80 ∷ 0xD0 ∷ 0xB2 ∷ 0xD0 ∷ 0xB5 ∷ 0xD1 ∷ 0x80 ∷ 0xD0 ∷ 0xB0 ∷ (codes " " ++ (0xC3 ∷ 0x85 ∷ (codes "ngstr" ++ (0xC3 ∷ 0xB6 ∷ (codes "m " ++ (0xCE ∷ 0xBC ∷ 0xCE ∷ 0xAD ∷ 0xCE ∷ 0xB3 ∷ 0xCE ∷ 0xB1 ∷ codes "\n")))))))))) []
unfolding computing_findings file Alone
words_of_one_script = refl

a_wrong_encoding : Alone (codes "a = Schlie" ++ (0xC3 ∷ 0x83 ∷ 0xC5 ∷ 0xB8 ∷ codes "en\n"))
    (codes "a.ftl:1:11: warning: a: `" ++ (0xC3 ∷ 0x9F ∷ codes "` is in a wrong encoding [wrong-encoding]\n"))
unfolding computing_findings file Alone
a_wrong_encoding = refl

a_quote_in_a_wrong_encoding : Alone (codes "a = x" ++ (0xC3 ∷ 0xA2 ∷ 0xE2 ∷ 0x82 ∷ 0xAC ∷ 0xC5 ∷ 0x93 ∷ codes "y\n"))
    (codes "a.ftl:1:6: warning: a: `" ++ (0xE2 ∷ 0x80 ∷ 0x9C ∷ codes "` is in a wrong encoding [wrong-encoding]\n"))
unfolding computing_findings file Alone
a_quote_in_a_wrong_encoding = refl
