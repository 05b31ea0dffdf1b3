-- An argument that may be absent.
use Rattle.std.specs.Prelude.{[], Option, Some, None}
use Rattle.fluent_grammar.specs.Words.{Text}
use Rattle.fluent_value.specs.Value.{Value}

-- the text of a value that is there, and else nothing
abbrev pub given_text : {S : Type 0} → (Value S → Text) → Option (Value S) → Text
given_text shown None = []
given_text shown (Some value) = shown value
