-- What a pattern gives whatever its arguments are.
use Rattle.std.specs.Prelude.{◌≡◌, ℕ, List, []}
use Rattle.fluent_grammar.specs.Words.{Text}
use Rattle.fluent_grammar.specs.Tree.{Elements}
use Rattle.fluent_value.specs.Value.{Value}
use Rattle.fluent_meaning.specs.Environment.{Environment}
use Rattle.fluent_meaning.specs.Substitution.{formatted}

-- A pattern that has no errors without arguments gives the same for all arguments.
abbrev pub NeedsNoArguments : Type 0 → Type 0 → Type 0
NeedsNoArguments S F = (env : Environment S F) (k : ℕ) (es : Elements) → (formatted env k [] es).errors ≡ []
    → (args : List (Text × Value S)) → formatted env k [] es ≡ formatted env k args es
