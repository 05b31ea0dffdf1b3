-- Worked rows: the counts of a report are of what is ignored, too.
use Rattle.std.specs.Prelude.{◌≡◌, [], ◌∷◌, List, true, false, None, codes}
use Rattle.std.proofs.Common.{refl}
use Rattle.fluent_grammar.specs.Words.{Text}
use Rattle.lint_findings.specs.Output.{text}
use Rattle.lint_findings.proofs.Computing.{computing_findings, file}
use Rattle.lint_findings.specs.Findings.{Options}
use Rattle.fluent_lint.specs.LintReport.{Output, lint_report}

-- all counts are asked for, warnings fail, and these codes are ignored
unfoldable asked : List Text → Output
asked ignored = record { format = text; ignored = ignored; notes = false; counts = true; strict = true }

-- the program adds no function, and no plural categories are looked for
unfoldable nothing_known : Options
nothing_known = record { functions = []; plurals = None }

-- what a report says, with these codes ignored
Says : List Text → Text → Type 0
Says ignored written =
    lint_report nothing_known (asked ignored) (file (codes "en.ftl") (codes "a = b\nc = d\n") ∷ []) (file (codes "de.ftl") (codes "a = b\ne = f\n") ∷ [])
    ≡ record { text = written; has_failed = false }

nothing_is_left : Says (codes "missing-message" ∷ codes "obsolete-message" ∷ codes "untranslated" ∷ [])
    (codes "de.ftl: 2 messages, 1 obsolete, 1 untranslated\nen.ftl: 2 messages, 1 missing\n0 errors, 0 warnings in 1 file\n")
unfolding computing_findings file asked nothing_known Says
nothing_is_left = refl
