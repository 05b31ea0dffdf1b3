-- What is known of nodes, while a path through a graph is looked at.
use Rattle.std.specs.Prelude.{◌≡◌, ℕ, ◌<◌, Bool, true, false, List, [], ◌∷◌, length, All, set}
use Rattle.std.specs.List.{slice_index_or}
use Rattle.lint_nodes.specs.Graph.{Ends, GoesOn}
use Rattle.lint_nodes.specs.declared.states.State.{State}
use Rattle.lint_nodes.specs.declared.states.State.TheVariants as of
use Rattle.lint_nodes.specs.declared.states.Step.{Step}

abbrev pub state_at : List State → ℕ → State
state_at ss v = slice_index_or ss v of.New

abbrev pub is_new : State → Bool
is_new of.New = true
is_new of.Open = false
is_new of.Ends = false
is_new of.Endless = false

abbrev pub is_endless : State → Bool
is_endless of.New = false
is_endless of.Open = false
is_endless of.Ends = false
is_endless of.Endless = true

abbrev pub open_count : State → ℕ
open_count of.New = 0
open_count of.Open = 1
open_count of.Ends = 0
open_count of.Endless = 0

abbrev pub endless_at : List State → ℕ → Bool
endless_at ss v = is_endless (state_at ss v)

-- what is known is right
pub record IsRight (g : List (List ℕ)) (ss : List State) : Type 0 where
  pub long : length ss ≡ length g
  pub ends : (v : ℕ) → state_at ss v ≡ of.Ends → Ends g v
  pub endless : (v : ℕ) → endless_at ss v ≡ true → GoesOn g (endless_at ss) v

-- it is right, and no node is open
pub record IsSettled (g : List (List ℕ)) (ss : List State) : Type 0 where
  pub right : IsRight g ss
  pub closed : (v : ℕ) → open_count (state_at ss v) ≡ 0

-- no node is new again
abbrev pub KeepsKnown : List State → List State → Type 0
KeepsKnown old new = (v : ℕ) → is_new (state_at old v) ≡ false → is_new (state_at new v) ≡ false

-- the steps of a path are at nodes of a graph with so many
abbrev pub AreNodes : ℕ → List Step → Type 0
AreNodes n path = All (λ (p : Step). p.node < n) path

-- the nodes of a path are endless
abbrev pub marked : List State → List Step → List State
marked ss [] = ss
marked ss (p ∷ path) = marked (set ss p.node of.Endless) path
