-- The texts of locations.
use Rattle.std.specs.Prelude.{◌++◌, codes}
use Rattle.fluent_grammar.specs.Words.{Text}
use Rattle.lint_findings.specs.PlaceView.{place_text}
use Rattle.lint_entries.specs.declared.location.Location.{Location}

-- `FILE:LINE:COLUMN`
abbrev pub location_text : Location → Text
location_text l = l.file.now ++ (codes ":" ++ place_text l.place)
