-- A path whose end leads back to it, or to an endless node: all its nodes are endless.
use Rattle.std.proofs.Common.{◌≡◌, ◌∙◌, ℕ, zero, suc, ◌+◌, ◌<◌, Bool, true, false, if◌then◌else◌, List, [], ◌∷◌, length, set, refl, ap, sym, arith}
use Rattle.std.specs.Prelude.{◌==◌}
use Rattle.std.specs.List.{All}
use Rattle.std.proofs.lemmas.List.Elements.{All-head, All-tail}
use Rattle.std.proofs.Math.ListN.{length-set}
use Rattle.lint_nodes.specs.Graph.{edges, edge, Ends, GoesOn}
use Rattle.lint_nodes.specs.declared.states.State.{State}
use Rattle.lint_nodes.specs.declared.states.State.TheVariants as of
use Rattle.lint_nodes.specs.declared.states.Step.{Step}
use Rattle.lint_nodes.specs.Path.{state_at, is_endless, open_count, endless_at, IsSettled, KeepsKnown, AreNodes, marked}
use Rattle.lint_nodes.proofs.StateChanges.{same_node, set_by, set_here, known_set}
use Rattle.lint_nodes.proofs.Way.{one_at, one_here, swap_test, count_of, first_node, Chain, IsStep, IsOnWay, are_nodes}

abbrev IsNode : ℕ → Step → Type 0
IsNode n p = p.node < n

-- ---- marks

pub length-marked : (ps : List Step) (ss : List State) → length (marked ss ps) ≡ length ss
length-marked [] ss = refl
length-marked (p ∷ ps) ss = length-marked ps (set ss p.node of.Endless) ∙ length-set ss p.node of.Endless

tail_nodes : (p : Step) (ps : List Step) (ss : List State) → AreNodes (length ss) (p ∷ ps) → AreNodes (length (set ss p.node of.Endless)) ps
tail_nodes p ps ss h = rw (length-set ss p.node of.Endless) (All-tail (IsNode (length ss)) p ps h)

marked_keeps : (ps : List Step) (ss : List State) (v : ℕ) → AreNodes (length ss) ps → state_at ss v ≡ of.Endless → state_at (marked ss ps) v ≡ of.Endless
marked_keeps [] ss v h e = e
marked_keeps (p ∷ ps) ss v h e = marked_keeps ps (set ss p.node of.Endless) v (tail_nodes p ps ss h) (by (v == p.node) refl)
  where
    by : (b : Bool) → (v == p.node) ≡ b → state_at (set ss p.node of.Endless) v ≡ of.Endless
    by true is = set_by ss p.node v of.Endless (All-head (IsNode (length ss)) p ps h) true is
    by false is = set_by ss p.node v of.Endless (All-head (IsNode (length ss)) p ps h) false is ∙ e

marked_on : (ps : List Step) (ss : List State) (v : ℕ) → AreNodes (length ss) ps → 0 < count_of v ps → state_at (marked ss ps) v ≡ of.Endless
marked_on [] ss v h on = absurd (omega arith)
marked_on (p ∷ ps) ss v h on = by (λ later. marked_on ps (set ss p.node of.Endless) v (tail_nodes p ps ss h) later) (p.node == v) refl on
  where
    by : (0 < count_of v ps → state_at (marked ss (p ∷ ps)) v ≡ of.Endless) → (b : Bool) → (p.node == v) ≡ b → 0 < (if b then 1 else 0) + count_of v ps → state_at (marked ss (p ∷ ps)) v ≡ of.Endless
    by on_later true is on =
        let here : state_at (set ss p.node of.Endless) v ≡ of.Endless = ap (state_at (set ss p.node of.Endless)) (sym (same_node p.node v is)) ∙ set_here ss p.node of.Endless (All-head (IsNode (length ss)) p ps h) in
        marked_keeps ps (set ss p.node of.Endless) v (tail_nodes p ps ss h) here
    by on_later false is on = on_later (omega arith)

marked_off : (ps : List Step) (ss : List State) (v : ℕ) → AreNodes (length ss) ps → count_of v ps ≡ 0 → state_at (marked ss ps) v ≡ state_at ss v
marked_off [] ss v h off = refl
marked_off (p ∷ ps) ss v h off = by (λ later. marked_off ps (set ss p.node of.Endless) v (tail_nodes p ps ss h) later) (v == p.node) refl
  where
    by : (count_of v ps ≡ 0 → state_at (marked ss (p ∷ ps)) v ≡ state_at (set ss p.node of.Endless) v) → (b : Bool) → (v == p.node) ≡ b → state_at (marked ss (p ∷ ps)) v ≡ state_at ss v
    by off_later true is =
        let one : one_at v p.node ≡ 1 = ap (one_at v) (sym (same_node v p.node is)) ∙ one_here v in absurd (omega arith)
    by off_later false is =
        let later : count_of v ps ≡ 0 = omega arith in
        off_later later ∙ set_by ss p.node v of.Endless (All-head (IsNode (length ss)) p ps h) false is

pub known_marked : (ps : List Step) (ss : List State) → AreNodes (length ss) ps → KeepsKnown ss (marked ss ps)
known_marked [] ss h = λ v k. k
known_marked (p ∷ ps) ss h = λ v k.
    known_marked ps (set ss p.node of.Endless) (tail_nodes p ps ss h) v (known_set ss p.node of.Endless (All-head (IsNode (length ss)) p ps h) refl v k)

-- ---- each node of a path leads to one that is marked

module _ (g : List (List ℕ)) (is_marked : ℕ → Bool) (to : ℕ) (last : is_marked to ≡ true) where
  first_marked : (ps : List Step) → ((v : ℕ) → 0 < count_of v ps → is_marked v ≡ true) → is_marked (first_node ps to) ≡ true
  first_marked [] on = last
  first_marked (p ∷ ps) on = let here : one_at p.node p.node ≡ 1 = one_here p.node in on p.node (omega arith)

  goes_on : (ps : List Step) → All (IsStep g) ps → Chain g ps to → ((v : ℕ) → 0 < count_of v ps → is_marked v ≡ true) → (v : ℕ) → 0 < count_of v ps → GoesOn g is_marked v
  goes_on [] steps chain on v here = absurd (omega arith)
  goes_on (p ∷ ps) steps chain on v here = by (λ h. goes_on ps (All-tail (IsStep g) p ps steps) chain.1 (λ u k. on u (omega arith)) v h) (p.node == v) refl here
    where
      later : (v : ℕ) → 0 < count_of v ps → is_marked v ≡ true
      later u h = on u (omega arith)

      by : (0 < count_of v ps → GoesOn g is_marked v) → (b : Bool) → (p.node == v) ≡ b → 0 < (if b then 1 else 0) + count_of v ps → GoesOn g is_marked v
      by on_rest true is h =
          let step : IsStep g p = All-head (IsStep g) p ps steps in
          rw (← same_node p.node v is) (p.followed, step.fits, ap is_marked chain.0 ∙ first_marked ps later)
      by on_rest false is h = on_rest (omega arith)

-- ---- the whole path

module _ (g : List (List ℕ)) (ss : List State) (ps : List Step) (node followed : ℕ) (way : IsOnWay g ss ps node followed)
    (next : ℕ) (more : followed < length (edges g node)) (is : next ≡ edge g node followed) where
  abbrev here : List State
  here = set ss node of.Endless

  abbrev all : List State
  all = marked here ps

  inside : node < length ss
  inside = let long : length ss ≡ length g = way.right.long in let within : node < length g = way.within in omega arith

  pub nodes : AreNodes (length here) ps
  nodes = are_nodes g (length here) (length-set ss node of.Endless ∙ way.right.long) ps way.steps

  node_marked : endless_at all node ≡ true
  node_marked = ap is_endless (marked_keeps ps here node nodes (set_here ss node of.Endless inside))

  on_marked : (v : ℕ) → 0 < count_of v ps → endless_at all v ≡ true
  on_marked v on = ap is_endless (marked_on ps here v nodes on)

  endless_from : (s : State) → is_endless s ≡ true → s ≡ of.Endless
  endless_from of.New e = absurd cc
  endless_from of.Open e = absurd cc
  endless_from of.Ends e = absurd cc
  endless_from of.Endless e = refl

  -- what was endless still is
  still : (v : ℕ) → endless_at ss v ≡ true → endless_at all v ≡ true
  still v e = ap is_endless (marked_keeps ps here v nodes (by (v == node) refl))
    where
      by : (b : Bool) → (v == node) ≡ b → state_at here v ≡ of.Endless
      by true same = set_by ss node v of.Endless inside true same
      by false other = set_by ss node v of.Endless inside false other ∙ endless_from (state_at ss v) e

  -- a node that was open is on the path, or the current one
  open_marked : (v : ℕ) → open_count (state_at ss v) ≡ 1 → endless_at all v ≡ true
  open_marked v opened = by (node == v) refl
    where
      by : (b : Bool) → (node == v) ≡ b → endless_at all v ≡ true
      by true same = ap (endless_at all) (sym (same_node node v same)) ∙ node_marked
      by false other =
          let opens : count_of v ps + one_at v node ≡ open_count (state_at ss v) = way.opens v in
          let none : one_at v node ≡ 0 = ap (λ b. if b then 1 else 0) other in
          on_marked v (omega arith)

  -- off the path nothing changes
  off_path : (v : ℕ) → count_of v ps ≡ 0 → (node == v) ≡ false → state_at all v ≡ state_at ss v
  off_path v off other = marked_off ps here v nodes off ∙ set_by ss node v of.Endless inside false (swap_test node v false other)

  module _ (back : endless_at all next ≡ true) where
    right_all : (v n : ℕ) → count_of v ps ≡ n → (b : Bool) → (node == v) ≡ b →
        (state_at all v ≡ of.Ends → Ends g v) × (endless_at all v ≡ true → GoesOn g (endless_at all) v) × (open_count (state_at all v) ≡ 0)
    right_all v (suc n) counted b at =
        let on : 0 < count_of v ps = omega arith in
        let state : state_at all v ≡ of.Endless = marked_on ps here v nodes on in (
          λ e. absurd (let bad : of.Ends ≡ of.Endless = sym e ∙ state in cc),
          λ e. goes_on g (endless_at all) node node_marked ps way.steps way.chain on_marked v on,
          ap open_count state,
        )
    right_all v zero counted true at =
        let same : node ≡ v = same_node node v at in
        let state : state_at all v ≡ of.Endless = endless_from (state_at all v) (ap (endless_at all) (sym same) ∙ node_marked) in (
          λ e. absurd (let bad : of.Ends ≡ of.Endless = sym e ∙ state in cc),
          λ e. rw (← same) (followed, more, ap (endless_at all) (sym is) ∙ back),
          ap open_count state,
        )
    right_all v zero counted false at =
        let same : state_at all v ≡ state_at ss v = off_path v counted at in
        let opens : count_of v ps + one_at v node ≡ open_count (state_at ss v) = way.opens v in
        let none : one_at v node ≡ 0 = ap (λ b. if b then 1 else 0) at in
        let count = ap open_count same in (
          λ e. way.right.ends v (sym same ∙ e),
          λ e. old (way.right.endless v (sym (ap is_endless same) ∙ e)),
          omega arith,
        )
      where
        old : GoesOn g (endless_at ss) v → GoesOn g (endless_at all) v
        old on = (on.0, on.1, still (edge g v on.0) on.2)

    pub settled_all : IsSettled g all
    settled_all = record {
      right = record {
        long = length-marked ps here ∙ (length-set ss node of.Endless ∙ way.right.long);
        ends = λ v. (right_all v (count_of v ps) refl (node == v) refl).0;
        endless = λ v. (right_all v (count_of v ps) refl (node == v) refl).1;
      };
      closed = λ v. (right_all v (count_of v ps) refl (node == v) refl).2;
    }

  pub back_to_path : state_at ss next ≡ of.Open → IsSettled g all
  back_to_path opened = settled_all (open_marked next (ap open_count opened))

  pub into_endless : state_at ss next ≡ of.Endless → IsSettled g all
  into_endless endless = settled_all (still next (ap is_endless endless))
