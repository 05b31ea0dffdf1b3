-- Items in the order of a number.
use Rattle.std.specs.Prelude.{ℕ, nat_lt, if◌then◌else◌, List, [], ◌∷◌}

module _ {X : Type 0} (number : X → ℕ) where
  -- x goes after those whose number is below its own
  abbrev pub put : X → List X → List X
  put x [] = x ∷ []
  put x (y ∷ ys) = if nat_lt (number y) (number x) then y ∷ put x ys else x ∷ y ∷ ys

  -- Those of the same number stay in their order.
  abbrev pub in_order : List X → List X
  in_order [] = []
  in_order (x ∷ xs) = put x (in_order xs)
