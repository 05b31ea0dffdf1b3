-- The messages that the reference has and the catalog hasn't.
use Rattle.std.specs.Prelude.{List, []}
use Rattle.std.specs.List.{flat_map}
use Rattle.lint_findings.specs.ComparisonFindings.{missing_findings}
use Rattle.lint_findings.specs.Finding.{Finding}
use Rattle.lint_findings.specs.Tiles.{entry_tile, tiles}
use Rattle.fluent_grammar.specs.Words.{Text}
use Rattle.fluent_meaning.specs.Ids.{Ids}
use Rattle.lint_entries.specs.Kept.{Part, entry_part, junk_part}

-- of a source of the reference, by the ids of the catalog
abbrev pub missing_in : Ids (Unit {0}) → Text → List Finding
missing_in ids source = flat_map (missing_findings ids source) (tiles source)

-- Of a part of it. The offset of a tile makes no difference.
abbrev pub missing_of_part : Ids (Unit {0}) → Text → Part → List Finding
missing_of_part ids source (entry_part s e) = missing_findings ids source (entry_tile 0 s e)
missing_of_part ids source junk_part = []
