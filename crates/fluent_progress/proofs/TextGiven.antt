-- The text of an argument, by what a context means and by what its scope shows.
use Rattle.std.proofs.Common.{◌≡◌, List, ℕ, Option, None, Some, refl, sym}
use Rattle.fluent_meaning.specs.Environment.{Environment, value_text}
use Rattle.fluent_progress.specs.Given.{given_text}
use Rattle.fluent_value.specs.Shown.{shown_text}
use Rattle.fluent_value.specs.Value.{Value}

pub text_given : {S F : Type 0} (env : Environment S F) (formatted : Value S → Option (List ℕ)) (shown : S → List ℕ) →
    ((v : Value S) → value_text env v ≡ shown_text formatted shown v) →
    (value : Option (Value S)) → given_text (shown_text formatted shown) value ≡ given_text (value_text env) value
text_given env formatted shown same None = refl
text_given env formatted shown same (Some v) = sym (same v)
