-- What is left to do on the way through a graph: it gets less with each move.
use Rattle.std.proofs.Common.{◌≡◌, ℕ, zero, suc, ◌+◌, ◌-◌, ◌<◌, ◌≤◌, List, [], ◌∷◌, ◌++◌, length, set, ap, arith}
use Rattle.lint_nodes.specs.Graph.{edges}
use Rattle.lint_nodes.specs.declared.states.State.{State}
use Rattle.lint_nodes.specs.declared.states.State.TheVariants as of
use Rattle.lint_nodes.specs.declared.states.Step.{Step}
use Rattle.lint_nodes.specs.Path.{state_at}

-- a new node has its edges to follow, and itself to look at
abbrev pub node_work : List ℕ → State → ℕ
node_work es of.New = length es + 1
node_work es of.Open = 0
node_work es of.Ends = 0
node_work es of.Endless = 0

abbrev pub new_work : List (List ℕ) → List State → ℕ
new_work [] ss = 0
new_work (es ∷ g) [] = 0
new_work (es ∷ g) (s ∷ ss) = node_work es s + new_work g ss

abbrev pub path_work : List (List ℕ) → List Step → ℕ
path_work g [] = 0
path_work g (p ∷ ps) = (length (edges g p.node) - p.followed) + path_work g ps

abbrev pub work : List (List ℕ) → List State → List Step → ℕ → ℕ → ℕ
work g ss ps node followed = new_work g ss + (path_work g ps + (length (edges g node) + 1 - followed))

new_work-set : (g : List (List ℕ)) (ss : List State) (v : ℕ) (s : State) → v < length ss → length ss ≡ length g →
    new_work g (set ss v s) + node_work (edges g v) (state_at ss v) ≡ new_work g ss + node_work (edges g v) s
new_work-set [] [] v s inside long = absurd (omega arith)
new_work-set [] (x ∷ ss) v s inside long = absurd (omega arith)
new_work-set (es ∷ g) [] v s inside long = absurd (omega arith)
new_work-set (es ∷ g) (x ∷ ss) zero s inside long = omega arith
new_work-set (es ∷ g) (x ∷ ss) (suc v) s inside long =
    let inner : v < length ss = omega arith in
    let same : length ss ≡ length g = omega arith in
    let rest = new_work-set g ss v s inner same in omega arith

path_work_more : (g : List (List ℕ)) (ps : List Step) (p : Step) → path_work g (ps ++ p ∷ []) ≡ path_work g ps + (length (edges g p.node) - p.followed)
path_work_more g [] p = omega arith
path_work_more g (q ∷ ps) p = let rest = path_work_more g ps p in omega arith

module _ (g : List (List ℕ)) (ss : List State) (ps : List Step) (node followed : ℕ) where
  pub less_advance : followed < length (edges g node) → work g ss ps node (followed + 1) < work g ss ps node followed
  less_advance more = omega arith

  pub less_go_on : (next : ℕ) → next < length ss → length ss ≡ length g → followed < length (edges g node) → state_at ss next ≡ of.New →
      work g (set ss next of.Open) (ps ++ record { node = node; followed = followed } ∷ []) next 0 < work g ss ps node followed
  less_go_on next inside long more new =
      let changed = new_work-set g ss next of.Open inside long in
      let was : node_work (edges g next) (state_at ss next) ≡ length (edges g next) + 1 = ap (node_work (edges g next)) new in
      let added = path_work_more g ps (record { node = node; followed = followed }) in omega arith

  not_more : (s : State) → node_work (edges g node) of.Ends ≤ node_work (edges g node) s
  not_more s = omega arith

  pub less_go_back : node < length ss → length ss ≡ length g → followed ≤ length (edges g node) → (qs : List Step) (p : Step) → ps ≡ qs ++ p ∷ [] → p.followed < length (edges g p.node) →
      work g (set ss node of.Ends) qs p.node (p.followed + 1) < work g ss ps node followed
  less_go_back inside long here qs p is fits =
      let changed = new_work-set g ss node of.Ends inside long in
      let added = path_work_more g qs p in
      let same : path_work g ps ≡ path_work g (qs ++ p ∷ []) = ap (path_work g) is in omega arith
