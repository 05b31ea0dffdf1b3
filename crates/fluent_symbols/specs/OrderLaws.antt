-- What holds of all occurrences of a source together: which they are, and in which order.
use Rattle.std.specs.Prelude.{◌≡◌, ◌≤◌, ◌+◌, ℕ, List, [], ◌∷◌, ⊤, length, map}
use Rattle.fluent_grammar.specs.Tiling.{list}
use Rattle.fluent_grammar.specs.Words.{Text}
use Rattle.fluent_symbols.specs.Mentions.{mention, of_entries}
use Rattle.fluent_symbols.specs.Occurrences.{Occurrence}
use Rattle.fluent_symbols.specs.OffsetLaws.{offset_in}
use Rattle.fluent_symbols.specs.Sources.{occurrences}

-- Without their places the occurrences of a source are what the messages and terms of its tree name, in their order.
abbrev pub OccurrencesAreOfTheTree : Type 0
OccurrencesAreOfTheTree = (source : Text) → map mention (occurrences source) ≡ of_entries (list source)

-- From an offset on, each occurrence begins at or after the end of the name before it.
abbrev pub Ascend : Text → ℕ → List Occurrence → Type 0
Ascend source from [] = ⊤
Ascend source from (o ∷ os) = (from ≤ offset_in source o) × Ascend source (offset_in source o + length o.symbol.name) os

-- So the offsets of a source ascend, and no two names overlap.
abbrev pub NamesAscend : Type 0
NamesAscend = (source : Text) → Ascend source 0 (occurrences source)
