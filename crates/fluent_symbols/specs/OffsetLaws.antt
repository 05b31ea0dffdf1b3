-- What holds of where occurrences are.
use Rattle.std.specs.Prelude.{◌≡◌, ◌++◌, ◌-◌, ℕ, All, length, drop, take}
use Rattle.fluent_grammar.specs.Ends.{EndsIn}
use Rattle.fluent_grammar.specs.Words.{Text}
use Rattle.fluent_symbols.specs.Occurrences.{Occurrence}
use Rattle.fluent_symbols.specs.Sources.{occurrences}

-- an occurrence is at an end of a source that begins with its name
pub record IsNamedIn (source : Text) (o : Occurrence) : Type 0 where
  pub place : EndsIn o.at source
  pub rest : Text
  pub name : o.at ≡ o.symbol.name ++ rest

-- Each occurrence of a source is where its name stands.
abbrev pub NamesStandThere : Type 0
NamesStandThere = (source : Text) → All (IsNamedIn source) (occurrences source)

-- the offset of an occurrence, as its line has it
abbrev pub offset_in : Text → Occurrence → ℕ
offset_in source o = length source - length o.at

-- So the bytes of the source from its offset on, as many as its name has, are its name.
abbrev pub HoldsNameAt : Text → Occurrence → Type 0
HoldsNameAt source o = take (length o.symbol.name) (drop (offset_in source o) source) ≡ o.symbol.name

abbrev pub OffsetsHoldNames : Type 0
OffsetsHoldNames = (source : Text) → All (HoldsNameAt source) (occurrences source)
