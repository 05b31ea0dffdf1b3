-- What a reader of a refusal finds.
use Rattle.std.specs.Prelude.{◌≡◌, Option, Some, None}
use Rattle.fluent_grammar.specs.Words.{Text}
use Rattle.fluent_grammar.specs.Refusal.{Refusal}
use Rattle.fluent_parsed.specs.ErrorView.{kind_view, told}
use Rattle.fluent_parsed.specs.declared.errors.ErrorKind.{ErrorKind}

-- The kind that was found, and where the parser stands then, are those of a refusal, if there is one.
abbrev pub FindsRefusal : Option ErrorKind → Text → Option Refusal → Type 0
FindsRefusal None rest None = Unit {0}
FindsRefusal None rest (Some refusal) = ⊥
FindsRefusal (Some kind) rest None = ⊥
FindsRefusal (Some kind) rest (Some refusal) = (kind_view kind ≡ told refusal.kind) × (rest ≡ refusal.at)
