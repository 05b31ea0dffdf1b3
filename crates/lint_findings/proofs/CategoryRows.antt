-- Worked rows: plural categories that are missing.
use Rattle.std.specs.Prelude.{◌≡◌, [], ◌∷◌, codes}
use Rattle.std.proofs.Common.{refl}
use Rattle.fluent_grammar.specs.Words.{Text}
use Rattle.fluent_number.specs.Operands.{operands_of}
use Rattle.fluent_number.specs.Digits.{last_digits}
use Rattle.fluent_plurals.specs.Plurals.{plurals_for}
use Rattle.lint_findings.specs.MissingCategories.{is_common}
use Rattle.lint_findings.specs.Findings.{findings}
use Rattle.lint_findings.specs.Report.{report_lines}
use Rattle.lint_findings.proofs.Computing.{computing_findings, file}

-- What is reported of a source in a language.
Lacks : Text → Text → Text → Type 0
Lacks tag source written =
    report_lines (findings (record { functions = []; plurals = plurals_for tag }) (file (codes "a.ftl") source ∷ [])) ≡ written

polish : Lacks (codes "pl") (codes "a = { $n ->\n    [one] { $n } x\n   *[other] { $n } y\n }\n")
    (codes "a.ftl:1:7: warning: a: there is no variant for the plural category `few` [missing-category]\na.ftl:1:7: warning: a: there is no variant for the plural category `many` [missing-category]\n")
unfolding computing_findings file operands_of last_digits is_common Lacks
polish = refl

-- no variant shows the number
polish_words : Lacks (codes "pl") (codes "a = { $n ->\n    [one] x\n   *[other] y\n }\n")
    (codes "a.ftl:1:7: note: a: there is no variant for the plural category `few` [missing-category]\na.ftl:1:7: note: a: there is no variant for the plural category `many` [missing-category]\n")
unfolding computing_findings file operands_of last_digits is_common Lacks
polish_words = refl

-- the rules for ordinals, of which English has four
english_ordinals : Lacks (codes "en-GB") (codes "a = { NUMBER($n, type: \"ordinal\") ->\n    [one] x\n    [few] z\n   *[other] y\n }\n")
    (codes "a.ftl:1:7: warning: a: there is no variant for the plural category `two` [missing-category]\n")
unfolding computing_findings file operands_of last_digits is_common Lacks
english_ordinals = refl

-- `many` is for a million
french : Lacks (codes "fr") (codes "a = { $n ->\n    [one] x\n   *[other] y\n }\n") []
unfolding computing_findings file operands_of last_digits is_common Lacks
french = refl

no_categories : Lacks (codes "pl") (codes "a = { $n ->\n    [0] x\n    [masculine] z\n   *[other] y\n }\n") []
unfolding computing_findings file operands_of last_digits is_common Lacks
no_categories = refl
