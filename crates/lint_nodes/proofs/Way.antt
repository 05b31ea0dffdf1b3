-- A path through a graph to the current node.
use Rattle.std.proofs.Common.{◌≡◌, ◌∙◌, ℕ, ◌+◌, ◌^◌, ◌<◌, ◌≤◌, ◌≢◌, Bool, true, false, if◌then◌else◌, List, [], ◌∷◌, ◌++◌, length, set, refl, ap, sym, arith}
use Rattle.std.specs.Prelude.{◌==◌}
use Rattle.std.specs.List.{All}
use Rattle.std.proofs.lemmas.List.Elements.{All-nil, All-cons, All-head, All-tail, All-append}
use Rattle.std.proofs.lemmas.Bool.Decides.{nat_tests}
use Rattle.lint_nodes.specs.Graph.{edges, edge, IsGraph, Ends, ends}
use Rattle.lint_nodes.specs.declared.states.State.{State}
use Rattle.lint_nodes.specs.declared.states.State.TheVariants as of
use Rattle.lint_nodes.specs.declared.states.Step.{Step}
use Rattle.lint_nodes.specs.Path.{state_at, is_endless, open_count, IsRight, IsSettled, AreNodes}
use Rattle.lint_nodes.proofs.StateChanges.{same_node, other_node, is_node, set_by, right_set}

-- ---- paths

abbrev pub one_at : ℕ → ℕ → ℕ
one_at v u = if u == v then 1 else 0

-- how often a node is on a path
abbrev pub count_of : ℕ → List Step → ℕ
count_of v [] = 0
count_of v (p ∷ ps) = one_at v p.node + count_of v ps

-- the first node of a path to this one
abbrev pub first_node : List Step → ℕ → ℕ
first_node [] to = to
first_node (p ∷ ps) to = p.node

-- each step leads to the next one, and the last to this node
abbrev pub Chain : List (List ℕ) → List Step → ℕ → Type 0
Chain g [] to = Unit {0}
Chain g (p ∷ ps) to = (edge g p.node p.followed ≡ first_node ps to) × Chain g ps to

pub record IsStep (g : List (List ℕ)) (p : Step) : Type 0 where
  pub within : p.node < length g
  pub fits : p.followed < length (edges g p.node)
  pub small : p.followed + 1 < 2 ^ 64
  pub ended : (j : ℕ) → j < p.followed → Ends g (edge g p.node j)

pub record IsOnWay (g : List (List ℕ)) (ss : List State) (ps : List Step) (node followed : ℕ) : Type 0 where
  pub right : IsRight g ss
  pub opens : (v : ℕ) → count_of v ps + one_at v node ≡ open_count (state_at ss v)
  pub chain : Chain g ps node
  pub steps : All (IsStep g) ps
  pub within : node < length g
  pub here : followed ≤ length (edges g node)
  pub ended : (j : ℕ) → j < followed → Ends g (edge g node j)

count_more : (v : ℕ) (ps : List Step) (p : Step) → count_of v (ps ++ p ∷ []) ≡ count_of v ps + one_at v p.node
count_more v [] p = omega arith
count_more v (q ∷ ps) p = let more = count_more v ps p in omega arith

first_more : (ps : List Step) (p : Step) (to : ℕ) → first_node (ps ++ p ∷ []) to ≡ first_node ps p.node
first_more [] p to = refl
first_more (q ∷ ps) p to = refl

module _ (g : List (List ℕ)) where
  chain_more : (ps : List Step) (p : Step) (to : ℕ) → Chain g ps p.node → edge g p.node p.followed ≡ to → Chain g (ps ++ p ∷ []) to
  chain_more [] p to c e = (e, tt)
  chain_more (q ∷ ps) p to c e = (c.0 ∙ sym (first_more ps p to), chain_more ps p to c.1 e)

  chain_less : (ps : List Step) (p : Step) (to : ℕ) → Chain g (ps ++ p ∷ []) to → Chain g ps p.node
  chain_less [] p to c = tt
  chain_less (q ∷ ps) p to c = (c.0 ∙ first_more ps p to, chain_less ps p to c.1)

  steps_less : (ps : List Step) (p : Step) → All (IsStep g) (ps ++ p ∷ []) → All (IsStep g) ps × IsStep g p
  steps_less [] p h = (All-nil (IsStep g), All-head (IsStep g) p [] h)
  steps_less (q ∷ ps) p h =
      let more = steps_less ps p (All-tail (IsStep g) q (ps ++ p ∷ []) h) in
      (All-cons (IsStep g) q ps (All-head (IsStep g) q (ps ++ p ∷ []) h) more.0, more.1)

  pub are_nodes : (n : ℕ) → n ≡ length g → (ps : List Step) → All (IsStep g) ps → AreNodes n ps
  are_nodes n e [] h = All-nil (λ (p : Step). p.node < n)
  are_nodes n e (p ∷ ps) h =
      let step : IsStep g p = All-head (IsStep g) p ps h in
      let within : p.node < n = let inner = step.within in omega arith in
      All-cons (λ (p : Step). p.node < n) p ps within (are_nodes n e ps (All-tail (IsStep g) p ps h))

pub one_here : (v : ℕ) → one_at v v ≡ 1
one_here v = ap (λ b. if b then 1 else 0) (is_node v)

one_other : (v u : ℕ) → (u == v) ≡ false → one_at v u ≡ 0
one_other v u e = ap (λ b. if b then 1 else 0) e

pub swap_test : (u v : ℕ) (b : Bool) → (u == v) ≡ b → (v == u) ≡ b
swap_test u v true e = grind (arith, nat_tests)
swap_test u v false e = grind (arith, nat_tests)

-- ---- moves

module _ (g : List (List ℕ)) (graph : IsGraph g) where
  -- the start of a path
  pub begin : (ss : List State) (start : ℕ) → IsSettled g ss → start < length g → state_at ss start ≡ of.New → IsOnWay g (set ss start of.Open) [] start 0
  begin ss start settled within new =
      let long : length ss ≡ length g = settled.right.long in
      let inside : start < length ss = omega arith in
      let by : (v : ℕ) (b : Bool) → (v == start) ≡ b → 0 + one_at v start ≡ open_count (state_at (set ss start of.Open) v) = λ (v : ℕ) (b : Bool). opens v b inside in
      record {
        right = right_set g ss settled.right start of.Open within (ap is_endless new) refl (λ bad. absurd cc);
        opens = λ v. by v (v == start) refl;
        chain = tt;
        steps = All-nil (IsStep g);
        within = within;
        here = omega arith;
        ended = λ j h. absurd (omega arith);
      }
    where
      opens : (v : ℕ) (b : Bool) → start < length ss → (v == start) ≡ b → 0 + one_at v start ≡ open_count (state_at (set ss start of.Open) v)
      opens v true inside e =
          let one : one_at v start ≡ 1 = ap (λ b. if b then 1 else 0) (swap_test v start true e) in
          let state = ap open_count (set_by ss start v of.Open inside true e) in omega arith
      opens v false inside e =
          let none : one_at v start ≡ 0 = one_other v start (swap_test v start false e) in
          let state = ap open_count (set_by ss start v of.Open inside false e) in
          let closed : open_count (state_at ss v) ≡ 0 = settled.closed v in omega arith

  module _ (ss : List State) (ps : List Step) (node followed : ℕ) (way : IsOnWay g ss ps node followed) where
    long : length ss ≡ length g
    long = way.right.long

    inside : node < length ss
    inside = let within : node < length g = way.within in let same = long in omega arith

    -- the current node is open, and on no step of the path
    node_once : (count_of node ps ≡ 0) × (open_count (state_at ss node) ≡ 1)
    node_once =
        let opens : count_of node ps + one_at node node ≡ open_count (state_at ss node) = way.opens node in
        let one : one_at node node ≡ 1 = one_here node in
        let most : open_count (state_at ss node) ≤ 1 = at_most_one (state_at ss node) in
        (omega arith, omega arith)
      where
        at_most_one : (s : State) → open_count s ≤ 1
        at_most_one of.New = omega arith
        at_most_one of.Open = omega arith
        at_most_one of.Ends = omega arith
        at_most_one of.Endless = omega arith

    open_is_not_endless : (s : State) → open_count s ≡ 1 → is_endless s ≡ false
    open_is_not_endless of.New e = refl
    open_is_not_endless of.Open e = refl
    open_is_not_endless of.Ends e = refl
    open_is_not_endless of.Endless e = absurd (omega arith)

    -- the ways along one more edge end
    pub advance : followed < length (edges g node) → state_at ss (edge g node followed) ≡ of.Ends → IsOnWay g ss ps node (followed + 1)
    advance more ends_there = record {
      right = way.right;
      opens = way.opens;
      chain = way.chain;
      steps = way.steps;
      within = way.within;
      here = omega arith;
      ended = λ j h. one_more j h (j == followed) refl;
    }
      where
        one_more : (j : ℕ) → j < followed + 1 → (b : Bool) → (j == followed) ≡ b → Ends g (edge g node j)
        one_more j h true e = rw (same_node j followed e) (way.right.ends (edge g node followed) ends_there)
        one_more j h false e = let other : j ≢ followed = other_node j followed e in way.ended j (omega arith)

    -- a new node becomes the current one
    pub go_on : (next : ℕ) → followed + 1 < 2 ^ 64 → followed < length (edges g node) → next ≡ edge g node followed → state_at ss next ≡ of.New →
        IsOnWay g (set ss next of.Open) (ps ++ record { node = node; followed = followed } ∷ []) next 0
    go_on next small more is new =
        let within : next < length g = rw is (graph node followed more) in
        let same : length ss ≡ length g = long in
        let fits : next < length ss = omega arith in
        record {
          right = right_set g ss way.right next of.Open within (ap is_endless new) refl (λ bad. absurd cc);
          opens = λ v. opens v fits (v == next) refl;
          chain = chain_more g ps (record { node = node; followed = followed }) next way.chain (sym is);
          steps = All-append (IsStep g) ps (record { node = node; followed = followed } ∷ []) way.steps
              (All-cons (IsStep g) (record { node = node; followed = followed }) [] (record { within = way.within; fits = more; small = small; ended = way.ended }) (All-nil (IsStep g)));
          within = within;
          here = omega arith;
          ended = λ j h. absurd (omega arith);
        }
      where
        opens : (v : ℕ) → next < length ss → (b : Bool) → (v == next) ≡ b →
            count_of v (ps ++ record { node = node; followed = followed } ∷ []) + one_at v next ≡ open_count (state_at (set ss next of.Open) v)
        opens v fits true e =
            let counted = count_more v ps (record { node = node; followed = followed }) in
            let old : count_of v ps + one_at v node ≡ open_count (state_at ss v) = way.opens v in
            let was : open_count (state_at ss v) ≡ 0 = ap (λ u. open_count (state_at ss u)) (same_node v next e) ∙ ap open_count new in
            let one : one_at v next ≡ 1 = ap (λ b. if b then 1 else 0) (swap_test v next true e) in
            let state : open_count (state_at (set ss next of.Open) v) ≡ 1 = ap open_count (set_by ss next v of.Open fits true e) in omega arith
        opens v fits false e =
            let counted = count_more v ps (record { node = node; followed = followed }) in
            let old : count_of v ps + one_at v node ≡ open_count (state_at ss v) = way.opens v in
            let none : one_at v next ≡ 0 = one_other v next (swap_test v next false e) in
            let state : open_count (state_at (set ss next of.Open) v) ≡ open_count (state_at ss v) = ap open_count (set_by ss next v of.Open fits false e) in omega arith

    -- ---- all edges were followed

    module _ (all : length (edges g node) ≤ followed) where
      all_end : Ends g node
      all_end = ends node (λ j h. way.ended j (omega arith))

      right_then : IsRight g (set ss node of.Ends)
      right_then = right_set g ss way.right node of.Ends way.within (open_is_not_endless (state_at ss node) node_once.1) refl (λ e. all_end)

      opens_then : (v : ℕ) (b : Bool) → (v == node) ≡ b → count_of v ps ≡ open_count (state_at (set ss node of.Ends) v)
      opens_then v true e =
          let same : count_of v ps ≡ 0 = ap (λ u. count_of u ps) (same_node v node e) ∙ node_once.0 in
          let state : open_count (state_at (set ss node of.Ends) v) ≡ 0 = ap open_count (set_by ss node v of.Ends inside true e) in omega arith
      opens_then v false e =
          let old : count_of v ps + one_at v node ≡ open_count (state_at ss v) = way.opens v in
          let none : one_at v node ≡ 0 = one_other v node (swap_test v node false e) in
          let state : open_count (state_at (set ss node of.Ends) v) ≡ open_count (state_at ss v) = ap open_count (set_by ss node v of.Ends inside false e) in omega arith

      -- the path was empty
      pub finish : ps ≡ [] → IsSettled g (set ss node of.Ends)
      finish none = record {
        right = right_then;
        closed = λ v. sym (opens_then v (v == node) refl) ∙ ap (count_of v) none;
      }

      -- the last step of a path
      pub last_step : (qs : List Step) (p : Step) → ps ≡ qs ++ p ∷ [] → IsStep g p
      last_step qs p is =
          let steps : All (IsStep g) (qs ++ p ∷ []) = rw (← is) way.steps in
          (steps_less g qs p steps).1

      -- the last step of the path is gone back
      pub go_back : (qs : List Step) (p : Step) → ps ≡ qs ++ p ∷ [] → IsOnWay g (set ss node of.Ends) qs p.node (p.followed + 1)
      go_back qs p is =
          let chain : Chain g (qs ++ p ∷ []) node = rw (← is) way.chain in
          let steps : All (IsStep g) (qs ++ p ∷ []) = rw (← is) way.steps in
          let parts : All (IsStep g) qs × IsStep g p = steps_less g qs p steps in
          let there : edge g p.node p.followed ≡ node = last_edge qs p chain in
          let fits : p.followed < length (edges g p.node) = parts.1.fits in
          record {
            right = right_then;
            opens = λ v. sym (count_more v qs p) ∙ ap (count_of v) (sym is) ∙ opens_then v (v == node) refl;
            chain = chain_less g qs p node chain;
            steps = parts.0;
            within = parts.1.within;
            here = omega arith;
            ended = λ j h. one_more p parts.1 there j h (j == p.followed) refl;
          }
        where
          last_edge : (qs : List Step) (p : Step) → Chain g (qs ++ p ∷ []) node → edge g p.node p.followed ≡ node
          last_edge [] p c = c.0
          last_edge (q ∷ qs) p c = last_edge qs p c.1

          one_more : (p : Step) → IsStep g p → edge g p.node p.followed ≡ node → (j : ℕ) → j < p.followed + 1 → (b : Bool) → (j == p.followed) ≡ b → Ends g (edge g p.node j)
          one_more p step there j h true e = rw (same_node j p.followed e, there) all_end
          one_more p step there j h false e = let other : j ≢ p.followed = other_node j p.followed e in step.ended j (omega arith)
