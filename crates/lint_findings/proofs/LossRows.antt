-- Worked rows: what messages lose of those of the reference.
use Rattle.std.specs.Prelude.{◌≡◌, true, false, [], ◌∷◌, codes}
use Rattle.std.proofs.Common.{refl}
use Rattle.fluent_grammar.specs.Words.{Text}
use Rattle.fluent_meaning.specs.Same.{same_elements}
use Rattle.fluent_number.specs.Operands.{operands_of}
use Rattle.fluent_number.specs.Digits.{last_digits}
use Rattle.fluent_number.specs.Reading.{read_number}
use Rattle.fluent_plurals.specs.Plurals.{plurals_for}
use Rattle.lint_findings.specs.Findings.{findings_with_reference}
use Rattle.lint_findings.specs.Losses.{has_forms}
use Rattle.lint_findings.specs.MissingCategories.{is_common}
use Rattle.lint_findings.specs.Report.{report_lines}
use Rattle.lint_findings.specs.WrittenTexts.{has_word}
use Rattle.lint_findings.proofs.Computing.{computing_findings, file}

a_word : has_word (codes "Koz") (codes "zu Koz.") ≡ true
a_word = refl

a_part_of_a_word : has_word (codes "Koz") (codes "die Kozan, Koz9, mKoz") ≡ false
a_part_of_a_word = refl

-- what is reported of a source, in a language, with a reference
Says : Text → Text → Text → Text → Type 0
Says tag reference source written =
    report_lines (findings_with_reference (record { functions = []; plurals = plurals_for tag }) (file (codes "r.ftl") reference ∷ []) (file (codes "a.ftl") source ∷ [])) ≡ written

a_variant_that_lacks_a_variable : Says (codes "en") (codes "a = { $n } { $d }\n") (codes "a = { $n ->\n    [one] { $n } x\n   *[other] { $n } y { $d }\n }\n")
    (codes "a.ftl:1:1: note: a: the default variant shows `$d`, and `[one]` doesn't [variant-lacks-variable]\n")
unfolding computing_findings file operands_of last_digits read_number is_common same_elements Says
a_variant_that_lacks_a_variable = refl

plurals_that_are_dropped : Says (codes "de") (codes "a = { $n ->\n    [one] One page\n   *[other] { $n } pages\n }\n") (codes "a = { $n } Seiten\n")
    (codes "a.ftl:1:1: note: a: the reference has variants by `$n` [plural-dropped]\n")
unfolding computing_findings file operands_of last_digits read_number is_common same_elements has_forms Says
plurals_that_are_dropped = refl
