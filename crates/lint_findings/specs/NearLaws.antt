-- What is true of a near name, as statements: it is there, and a slip of the keyboard away.
use Rattle.std.specs.Prelude.{◌≡◌, ℕ, Bool, true, ◌∷◌, Some}
use Rattle.fluent_grammar.specs.Words.{Text}
use Rattle.lint_findings.specs.NearNames.{near_text, nearest}

-- One slip of the keyboard makes the second name of the first: two neighbouring bytes are swapped, or one is left out,
-- replaced or added.
pub data IsSlip : Text → Text → Type 0 where
  swapped : {x y : ℕ} {s : Text} → IsSlip (x ∷ y ∷ s) (y ∷ x ∷ s)
  left_out : {x : ℕ} {s : Text} → IsSlip (x ∷ s) s
  replaced : {x y : ℕ} {s : Text} → IsSlip (x ∷ s) (y ∷ s)
  added : {y : ℕ} {s : Text} → IsSlip s (y ∷ s)
  later : {x : ℕ} {s near : Text} → IsSlip s near → IsSlip (x ∷ s) (x ∷ near)

-- The nearest name is known, and a slip away.
abbrev pub NearestIsThere : Type 0
NearestIsThere = (is_known : Text → Bool) (s near : Text) → nearest is_known s ≡ Some near → IsSlip s near × (is_known near ≡ true)

-- A hint asks whether a name is meant, which is written with this sign. The name is there, and a slip away.
pub record AsksFor (IsThere : Text → Type 0) (sign s hint : Text) : Type 0 where
  pub name : Text
  pub text : hint ≡ near_text sign name
  pub slip : IsSlip s name
  pub there : IsThere name
