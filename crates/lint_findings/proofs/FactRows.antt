-- Worked rows: what is true of nodes, although no answer has an error.
use Rattle.std.specs.Prelude.{◌≡◌, [], ◌∷◌, Some, None, codes}
use Rattle.std.proofs.Common.{refl}
use Rattle.fluent_number.specs.Operands.{operands_of}
use Rattle.fluent_number.specs.Digits.{last_digits}
use Rattle.fluent_number.specs.Reading.{read_number}
use Rattle.fluent_plurals.specs.Plurals.{plurals_for}
use Rattle.lint_findings.specs.Findings.{findings}
use Rattle.lint_findings.specs.MissingCategories.{is_common}
use Rattle.lint_findings.specs.Quoted.{quoted}
use Rattle.lint_findings.specs.Report.{report_lines}
use Rattle.fluent_grammar.specs.Words.{Text}
use Rattle.lint_findings.proofs.Computing.{computing_findings, file}

quoted_variable : quoted (codes "{ $count } items") ≡ Some (record { inside = 1; reference = codes "$count" })
quoted_variable = refl

quoted_term : quoted (codes "by {-brand}") ≡ Some (record { inside = 4; reference = codes "-brand" })
quoted_term = refl

-- a brace that nothing closes, a name without a sign, and an amount
quoted_nothing : quoted (codes "{ $ { name } {$5} { $a b }") ≡ None
quoted_nothing = refl

-- what is reported of a source, in a language
Says : Text → Text → Text → Type 0
Says tag source written =
    report_lines (findings (record { functions = []; plurals = plurals_for tag }) (file (codes "a.ftl") source ∷ [])) ≡ written

a_quoted_placeable : Says (codes "de") (codes "a = { \"x { $n }\" }\n")
    (codes "a.ftl:1:10: warning: a: `{ $n }` is shown as it is [placeable-in-literal]\n")
unfolding computing_findings file Says
a_quoted_placeable = refl

an_argument_that_nothing_uses : Says (codes "de") (codes "-t = { $case ->\n   *[a] x\n }\nb = { -t(casus: \"a\") }\n")
    (codes "a.ftl:4:7: warning: b: no variant of `-t` is chosen by `casus` [unknown-term-argument]\n")
unfolding computing_findings file Says
an_argument_that_nothing_uses = refl

a_value_without_a_variant : Says (codes "de") (codes "-t = { $case ->\n   *[nominative] x\n }\nb = { -t(case: \"dative\") }{ -t(case: \"nominative\") }\n")
    (codes "a.ftl:4:7: warning: b: `-t` has no variant `dative` [unknown-term-variant]\n")
unfolding computing_findings file Says
a_value_without_a_variant = refl

-- the variable is shown, too, so any value is
a_value_that_is_shown : Says (codes "de") (codes "-t = { $case ->\n   *[a] { $case }\n }\nb = { -t(case: \"b\") }\n") []
unfolding computing_findings file Says
a_value_that_is_shown = refl

a_slip : Says (codes "de") (codes "a = { $n ->\n    [oen] x\n   *[other] y\n }\n")
    (codes "a.ftl:1:7: warning: a: `oen` is no plural category [unknown-category]\n")
unfolding computing_findings file operands_of last_digits read_number is_common Says
a_slip = refl

no_few_in_german : Says (codes "de") (codes "a = { $n ->\n    [one] x\n    [few] z\n   *[other] y\n }\n")
    (codes "a.ftl:1:7: warning: a: the language has no category `few` [unknown-category]\n")
unfolding computing_findings file operands_of last_digits read_number is_common Says
no_few_in_german = refl

-- `many` is for a million in French, and for one and a half in Czech
rare_categories : Says (codes "fr") (codes "a = { $n ->\n    [one] x\n    [many] z\n   *[other] y\n }\n") []
unfolding computing_findings file operands_of last_digits read_number is_common Says
rare_categories = refl

fractions : Says (codes "cs") (codes "a = { $n ->\n    [one] x\n    [few] z\n    [many] w\n   *[other] y\n }\n") []
unfolding computing_findings file operands_of last_digits read_number is_common Says
fractions = refl
