-- The plain differences that differences stand for.
use Rattle.std.specs.Prelude.{◌≡◌, ℕ, Option, option_map, String, string_bytes}
use Rattle.std.specs.Global.{Global}
use Rattle.fluent_grammar.specs.Words.{Text}
use Rattle.lint_findings.specs.Comparison as c
use Rattle.lint_findings.specs.ComparisonFindings.{difference_words}
use Rattle.lint_findings.specs.Finding as f
use Rattle.lint_findings.specs.declared.difference.Difference.{Difference}
use Rattle.lint_findings.specs.declared.difference.Difference.TheVariants as of
use Rattle.lint_findings.specs.declared.records.Finding.{Finding}
use Rattle.lint_findings.specs.View.{finding_view}

abbrev pub difference_view : Difference → c.Difference
difference_view of.MissingMessage = c.missing_message
difference_view of.ObsoleteMessage = c.obsolete_message
difference_view of.MissingValue = c.missing_value
difference_view of.ObsoleteValue = c.obsolete_value
difference_view (of.MissingAttribute name) = c.missing_attribute name.now
difference_view (of.ObsoleteAttribute name) = c.obsolete_attribute name.now
difference_view (of.UnknownVariable name) = c.unknown_variable name.now
difference_view (of.MissingVariable name) = c.missing_variable name.now
difference_view (of.UnusedVariable name) = c.unused_variable name.now
difference_view of.Untranslated = c.untranslated

-- The finding of a difference of the message with this id, at an offset, with a hint. At that of `difference_at`, and with
-- that of `difference_hint`, it is `difference_finding`.
abbrev pub finding_at : ℕ → Text → Option Text → c.Difference → f.Finding
finding_at offset id hint d = f.finding_at offset id (record (difference_words d) { hint = hint })

-- a finding stands for that of a difference of the message with this id, at an offset, with a hint
abbrev pub IsFindingAt : ℕ → Text → Option (String Global) → Difference → Finding → Type 0
IsFindingAt offset id hint d found = finding_view found ≡ finding_at offset id (option_map string_bytes hint) (difference_view d)
