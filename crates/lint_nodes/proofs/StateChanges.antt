-- States of nodes, when one of them changes.
use Rattle.std.proofs.Common.{◌≡◌, ◌∙◌, ℕ, ◌<◌, ◌≢◌, Bool, true, false, if◌then◌else◌, List, length, set, refl, ap, sym, arith}
use Rattle.std.specs.Prelude.{◌==◌}
use Rattle.std.proofs.lemmas.Bool.Decides.{nat_tests}
use Rattle.std.proofs.lemmas.Grind.{get_or-set_at}
use Rattle.std.proofs.lemmas.List.{get_or-set_other}
use Rattle.std.proofs.Math.ListN.{length-set}
use Rattle.lint_nodes.specs.Graph.{edge, Ends, GoesOn}
use Rattle.lint_nodes.specs.declared.states.State.{State}
use Rattle.lint_nodes.specs.declared.states.State.TheVariants as of
use Rattle.lint_nodes.specs.Path.{state_at, is_new, is_endless, endless_at, IsRight, KeepsKnown}

pub same_node : (u v : ℕ) → (u == v) ≡ true → u ≡ v
same_node u v e = grind (arith, nat_tests)

pub other_node : (u v : ℕ) → (u == v) ≡ false → u ≢ v
other_node u v e = λ same. grind (arith, nat_tests)

pub is_node : (v : ℕ) → (v == v) ≡ true
is_node v = grind (arith, nat_tests)

-- the state of a node, once that of a node is set
pub set_by : (ss : List State) (v u : ℕ) (s : State) → v < length ss → (b : Bool) → (u == v) ≡ b → state_at (set ss v s) u ≡ (if b then s else state_at ss u)
set_by ss v u s inside true e = get_or-set_at ss v u s of.New (same_node u v e) inside
set_by ss v u s inside false e = get_or-set_other ss v u s of.New (other_node u v e)

pub set_here : (ss : List State) (v : ℕ) (s : State) → v < length ss → state_at (set ss v s) v ≡ s
set_here ss v s inside = set_by ss v v s inside true (is_node v)

-- a state that isn't new is set
pub known_set : (ss : List State) (v : ℕ) (s : State) → v < length ss → is_new s ≡ false → KeepsKnown ss (set ss v s)
known_set ss v s inside known = λ u h. by u (u == v) refl h
  where
    by : (u : ℕ) (b : Bool) → (u == v) ≡ b → is_new (state_at ss u) ≡ false → is_new (state_at (set ss v s) u) ≡ false
    by u true e h = ap is_new (set_by ss v u s inside true e) ∙ known
    by u false e h = ap is_new (set_by ss v u s inside false e) ∙ h

-- what is known stays right, if a node that isn't endless gets a state that is right
module _ (g : List (List ℕ)) (ss : List State) (right : IsRight g ss) (v : ℕ) (s : State) (within : v < length g)
    (was : endless_at ss v ≡ false) (gets : is_endless s ≡ false) (ended : s ≡ of.Ends → Ends g v) where
  inside : v < length ss
  inside = let long = right.long in omega arith

  ends_by : (u : ℕ) (b : Bool) → (u == v) ≡ b → state_at (set ss v s) u ≡ of.Ends → Ends g u
  ends_by u true e h = rw (same_node u v e) (ended (sym (set_by ss v u s inside true e) ∙ h))
  ends_by u false e h = right.ends u (sym (set_by ss v u s inside false e) ∙ h)

  still_endless : (w : ℕ) (b : Bool) → (w == v) ≡ b → endless_at ss w ≡ true → endless_at (set ss v s) w ≡ true
  still_endless w true e h = let is : endless_at ss w ≡ endless_at ss v = ap (endless_at ss) (same_node w v e) in absurd cc
  still_endless w false e h = ap is_endless (set_by ss v w s inside false e) ∙ h

  endless_by : (u : ℕ) (b : Bool) → (u == v) ≡ b → endless_at (set ss v s) u ≡ true → GoesOn g (endless_at (set ss v s)) u
  endless_by u true e h = let is : endless_at (set ss v s) u ≡ is_endless s = ap is_endless (set_by ss v u s inside true e) in absurd cc
  endless_by u false e h =
      let old : GoesOn g (endless_at ss) u = right.endless u (sym (ap is_endless (set_by ss v u s inside false e)) ∙ h) in
      (old.0, old.1, still_endless (edge g u old.0) (edge g u old.0 == v) refl old.2)

  pub right_set : IsRight g (set ss v s)
  right_set = record {
    long = length-set ss v s ∙ right.long;
    ends = λ u h. ends_by u (u == v) refl h;
    endless = λ u h. endless_by u (u == v) refl h;
  }
