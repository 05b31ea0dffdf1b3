-- The messages that a file lacks, as the code finds them.
use Rattle.std.specs.Prelude.{ℕ, Bool, List, Vec, is_some}
use Rattle.std.specs.Global.{Global}
use denote.Ref.{Bor}
use Rattle.fluent_grammar.specs.Words.{Text}
use Rattle.fluent_resource.specs.Sources.{texts}
use Rattle.lint_entries.specs.Made.{Adds}
use Rattle.lint_findings.specs.View.{file_view}
use Rattle.lint_findings.specs.declared.records.Finding.{Finding}
use Rattle.fluent_lint.specs.MessagePlaces.{HasPlaces, first_place_of}
use Rattle.fluent_lint.specs.Pairs.{gaps, gaps_from, translated_count}
use Rattle.fluent_lint.specs.declared.message_places.MessagePlaces.{MessagePlaces}
use Rattle.fluent_lint.specs.declared.tiles.FileTiles.{FileTiles}

-- The findings of these ids that have no place are added.
abbrev pub AddsGaps : MessagePlaces → List (Bor Text) → Vec Finding Global → Vec Finding Global → Type 0
AddsGaps places ids old new = (ps : List (Text × ℕ)) → HasPlaces places ps → Adds old new (gaps_from ps 0 (texts ids))

-- those of the messages that a file lacks of the one that it is translated from are added
abbrev pub AddsGapsOf : FileTiles → FileTiles → Vec Finding Global → Vec Finding Global → Type 0
AddsGapsOf tiled original old new = Adds old new (gaps (file_view tiled.file) (file_view original.file))

abbrev pub translated_in : FileTiles → FileTiles → ℕ
translated_in tiled original = translated_count (file_view tiled.file) (file_view original.file)

-- whether there is a message of an id
abbrev pub has_place : MessagePlaces → Bor Text → Bool
has_place places id = is_some (first_place_of places id.now)
