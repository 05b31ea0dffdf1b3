-- What the worked rows share: the definitions that computing opens, and the forms of rows.
use Rattle.std.specs.Prelude.{◌≡◌, ℕ, ⊤, Bool, true, false, List, [], None}
use Rattle.std.specs.Fmt.{digits}
use Rattle.std.specs.Str.{chars}
use Rattle.fluent_grammar.specs.Words.{Text}
use Rattle.fluent_grammar.proofs.Computing.{computing}
use Rattle.fluent_meaning.specs.Same.{same_elements}
use Rattle.lint_findings.specs.Tiles.{tiles_from}
use Rattle.lint_findings.specs.Endless.{patterns_left}
use Rattle.lint_findings.specs.Comparison.{messages_within}
use Rattle.lint_findings.specs.Occurrences.{walkers, attribute_places}
use Rattle.lint_findings.specs.NearNames.{nearest, name_bytes}
use Rattle.lint_findings.specs.Files.{File}
use Rattle.lint_findings.specs.Findings.{Options, findings, findings_with_reference}
use Rattle.lint_findings.specs.Report.{shown, report_text}

unfoldable pub computing_findings : ⊤
unfolding computing same_elements tiles_from patterns_left messages_within walkers attribute_places nearest name_bytes digits chars
computing_findings = tt

unfoldable pub file : Text → Text → File
file name source = record { name = name; source = source }

abbrev pub options_with : List Text → Options
options_with functions = record { functions = functions; plurals = None }

-- all characters are one wide
abbrev pub one : ℕ → ℕ
one c = 1

-- What is reported of files, with these functions of the program.
unfoldable pub Reports : List Text → List File → Text → Type 0
Reports functions files text = report_text one (shown false (findings (options_with functions) files)) ≡ text

-- The same with notes.
unfoldable pub ReportsNotes : List File → Text → Type 0
ReportsNotes files text = report_text one (shown true (findings (options_with []) files)) ≡ text

-- What is reported of files with a reference, with or without notes.
unfoldable pub ReportsWithReference : Bool → List File → List File → Text → Type 0
ReportsWithReference notes references files text =
    report_text one (shown notes (findings_with_reference (options_with []) references files)) ≡ text
