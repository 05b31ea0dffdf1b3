-- The value of a name, of one argument alone.
use Rattle.std.proofs.Common.{◌≡◌, ℕ, Bool, List, [], ◌∷◌, Option, Some, None, cond, ap}
use Rattle.std.proofs.lemmas.Map.Text.{is_eq-slice_cmp}
use Rattle.std.specs.Str.{bytes_eq}
use Rattle.fluent_value.specs.Args.{argument}
use Rattle.fluent_value.specs.Value.{Value}

pub argument_alone : {S : Type 0} (name other : List ℕ) (value : Value S)
    → argument name ((other, value) ∷ []) ≡ cond (bytes_eq name other) (Some value) None
argument_alone name other value = ap (λ test. cond test (Some value) None) (is_eq-slice_cmp name other)
