-- What has the id of an entry, in words.
use Rattle.fluent_grammar.specs.Words.{Text}
use Rattle.lint_entries.specs.declared.duplicate.Duplicate.{Duplicate}
use Rattle.lint_entries.specs.declared.duplicate.Duplicate.TheVariants as of
use Rattle.lint_entries.specs.LocationText.{location_text}
use Rattle.lint_findings.specs.DuplicateIds.{earlier_text, function_text}

abbrev pub duplicate_text : Duplicate → Text
duplicate_text (of.Function id) = function_text id.now
duplicate_text (of.Entry l) = earlier_text (location_text l)
