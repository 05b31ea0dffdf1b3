-- Graphs: a list that has, for each node, the nodes that it leads to.
use Rattle.std.specs.Prelude.{◌≡◌, ℕ, ◌<◌, Bool, true, false, List, [], length, map, slice_index, Vec}
use Rattle.std.specs.List.{slice_index_or}
use Rattle.std.specs.Global.{Global}

-- the nodes that a node leads to
abbrev pub edges : List (List ℕ) → ℕ → List ℕ
edges g v = slice_index_or g v []

-- the node that an edge of a node leads to
abbrev pub edge : List (List ℕ) → ℕ → ℕ → ℕ
edge g v j = slice_index (edges g v) j

-- each edge leads to a node
abbrev pub IsGraph : List (List ℕ) → Type 0
IsGraph g = (v j : ℕ) → j < length (edges g v) → edge g v j < length g

-- All ways from a node end.
pub data Ends (g : List (List ℕ)) : ℕ → Type 0 where
  ends : (v : ℕ) → ((j : ℕ) → j < length (edges g v) → Ends g (edge g v j)) → Ends g v

-- A node leads to one that is marked.
abbrev pub GoesOn : List (List ℕ) → (ℕ → Bool) → ℕ → Type 0
GoesOn g is_marked v = (j : ℕ) × (j < length (edges g v)) × (is_marked (edge g v j) ≡ true)

abbrev pub mark_at : List Bool → ℕ → Bool
mark_at marks v = slice_index_or marks v false

-- The marks of the nodes that lead into a circle: each leads to another of them, and all ways from the other nodes end.
pub record AreEndless (g : List (List ℕ)) (marks : List Bool) : Type 0 where
  pub long : length marks ≡ length g
  pub endless : (v : ℕ) → mark_at marks v ≡ true → GoesOn g (mark_at marks) v
  pub ending : (v : ℕ) → v < length g → mark_at marks v ≡ false → Ends g v

-- the graph that the lists of each node stand for
abbrev pub graph_of : List (Vec ℕ Global) → List (List ℕ)
graph_of nexts = map (λ v. v.items) nexts
