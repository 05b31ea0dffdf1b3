-- The plain arguments that an owning iterator has left.
use Rattle.std.specs.Prelude.{ℕ, List, map}
use Rattle.std.specs.Vec.Iter.{into_iter_items}
use Rattle.fluent_value.specs.ArgsNames.{name_of}
use Rattle.fluent_value.specs.Value.{Value}
use Rattle.fluent_value.specs.View.{value_view}
use Rattle.fluent_value.specs.declared.args.into_iter.IntoIter.{IntoIter}

abbrev pub owned_view : {C S : Type 0} (meaning : C → S) → IntoIter C → List (List ℕ × Value S)
owned_view meaning it = map (λ a. (name_of a, value_view meaning a.value)) (into_iter_items it.left)
