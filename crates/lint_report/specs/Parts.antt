-- What is written for a byte in a part of a command.
use Rattle.std.specs.Prelude.{ℕ}
use Rattle.std.specs.List.{flat_map}
use Rattle.fluent_grammar.specs.Words.{Text}
use Rattle.lint_findings.specs.GithubReport.{message_byte, property_byte}
use Rattle.lint_report.specs.declared.commands.Part.{Part}
use Rattle.lint_report.specs.declared.commands.Part.TheVariants.{Property, Message}

abbrev pub part_byte : Part → ℕ → Text
part_byte Property c = property_byte c
part_byte Message c = message_byte c

-- a text in a part of a command
abbrev pub escaped : Part → Text → Text
escaped part s = flat_map (part_byte part) s
