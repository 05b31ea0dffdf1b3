-- When a test of two nodes is their equality.
use Rattle.std.specs.Prelude.{◌≡◌, ◌↔◌, Bool, IsTrue}
use Rattle.std.specs.Cmp.{IsEquivalence}

-- the test is an equivalence, and holds exactly if the two nodes are the same plain data
pub record Compares {A V : Type 0} (test : A → A → Bool) (view : A → V) : Type 0 where
  pub equivalence : IsEquivalence test
  pub plain : (a b : A) → IsTrue (test a b) ↔ (view a ≡ view b)
