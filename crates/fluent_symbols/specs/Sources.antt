-- Where the symbols of a source are defined and referred to.
use Rattle.std.specs.Prelude.{List, [], length}
use Rattle.std.specs.List.{flat_map}
use Rattle.fluent_grammar.specs.Words.{Text}
use Rattle.lint_entries.specs.Kept.{Part, entry_part, junk_part, parts}
use Rattle.fluent_symbols.specs.Entries.{in_entry}
use Rattle.fluent_symbols.specs.Lines.{lines_of}
use Rattle.fluent_symbols.specs.Occurrences.{Occurrence}

abbrev pub in_part : Part → List Occurrence
in_part (entry_part s e) = in_entry e s
in_part junk_part = []

abbrev pub in_parts : List Part → List Occurrence
in_parts ps = flat_map in_part ps

-- in the messages and the terms of a source, in their order
abbrev pub occurrences : Text → List Occurrence
occurrences source = in_parts (parts source)

-- their lines
abbrev pub occurrence_lines : Text → Text
occurrence_lines source = lines_of (length source) (occurrences source)
