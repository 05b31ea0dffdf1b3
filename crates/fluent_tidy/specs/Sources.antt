-- Several sources, as their texts, and carriage returns in them.
use Rattle.std.specs.Prelude.{◌==◌, Bool, List, map}
use Rattle.std.specs.List.{list_any}
use denote.Ref.{Bor}
use Rattle.fluent_grammar.specs.Words.{Text, carriage_return}
use Rattle.fluent_errors.specs.Errors.{Reported}
use Rattle.fluent_answers.specs.Sources.{notices_of}
use Rattle.fluent_value.specs.declared.function.NoFunction.{NoFunction}

-- the texts that are borrowed
abbrev pub texts : List (Bor Text) → List Text
texts sources = map (λ s. s.now) sources

-- whether a text holds a carriage return
abbrev pub holds_return : Text → Bool
holds_return s = list_any (λ c. c == carriage_return) s

-- the notices of sources, with no functions but `NUMBER`
abbrev pub notices_in : List Text → List Reported
notices_in sources = notices_of NoFunction sources
