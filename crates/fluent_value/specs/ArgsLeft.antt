-- The plain arguments that an iterator has left.
use Rattle.std.specs.Prelude.{ℕ, List, map}
use Rattle.std.specs.Slice.Iter.{iter_rest}
use Rattle.fluent_value.specs.ArgsNames.{name_of}
use Rattle.fluent_value.specs.Value.{Value}
use Rattle.fluent_value.specs.View.{value_view}
use Rattle.fluent_value.specs.declared.args.iter.Iter.{Iter}

abbrev pub left_view : {C S : Type 0} (meaning : C → S) → Iter C → List (List ℕ × Value S)
left_view meaning it = map (λ a. (name_of a, value_view meaning a.value)) (iter_rest it.left)
