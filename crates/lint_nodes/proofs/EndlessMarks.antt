-- The patterns that are marked as leading into a circle of references are the endless ones.
use Rattle.std.proofs.Common.{◌≡◌, ◌∙◌, ℕ, zero, suc, ◌<◌, Bool, true, false, List, [], ◌∷◌, length, map, get_or, refl, ap, sym, arith}
use Rattle.std.specs.Prelude.{◌||◌}
use Rattle.std.specs.List.{All, list_any}
use Rattle.fluent_grammar.specs.Tree.{Elements, no_elements}
use Rattle.fluent_meaning.specs.Ids.{Ids, find}
use Rattle.lint_findings.specs.References.{next_patterns}
use Rattle.lint_findings.specs.Endless.{all_patterns, is_pattern_among, endless_patterns}
use Rattle.lint_findings.proofs.EndlessPatterns.{any_here, any_later, refers_into, stays, endless_goes_on}
use Rattle.lint_nodes.specs.Graph.{edges, edge, IsGraph, Ends, ends, GoesOn, AreEndless, mark_at}
use Rattle.lint_nodes.specs.Holding.{pattern_at}

module _ (ps : List Elements) (test : Elements → Bool) where
  any_at : (xs : List ℕ) (j : ℕ) → j < length xs → test (pattern_at ps (get_or xs j 0)) ≡ true → list_any test (map (pattern_at ps) xs) ≡ true
  any_at [] j inside e = absurd (omega arith)
  any_at (x ∷ xs) zero inside e = any_here (test (pattern_at ps x)) (list_any test (map (pattern_at ps) xs)) e
  any_at (x ∷ xs) (suc j) inside e = any_later (test (pattern_at ps x)) (list_any test (map (pattern_at ps) xs)) (any_at xs j (omega arith) e)

  either_false : (b c : Bool) → b ≡ false → c ≡ false → (b || c) ≡ false
  either_false true c e h = absurd cc
  either_false false c e h = h

  none_at : (xs : List ℕ) → ((j : ℕ) → j < length xs → test (pattern_at ps (get_or xs j 0)) ≡ false) → list_any test (map (pattern_at ps) xs) ≡ false
  none_at [] each = refl
  none_at (x ∷ xs) each =
      either_false (test (pattern_at ps x)) (list_any test (map (pattern_at ps) xs)) (each zero (omega arith)) (none_at xs (λ j inside. each (suc j) (omega arith)))

-- a graph of the patterns of a catalog, with an edge for each reference that enters one
module _ (ids : Ids (Unit {0})) (ps : List Elements) (g : List (List ℕ)) (marks : List Bool) (long : length g ≡ length ps) (graph : IsGraph g)
    (known : All (λ es. is_pattern_among es (all_patterns ids) ≡ true) ps)
    (nexts : (v : ℕ) → v < length g → next_patterns (find ids) (pattern_at ps v) ≡ map (pattern_at ps) (edges g v))
    (endless : AreEndless g marks) where
  -- a pattern that is marked
  abbrev IsMarked : Elements → Type 0
  IsMarked es = (v : ℕ) × (v < length g) × (mark_at marks v ≡ true) × (pattern_at ps v ≡ es)

  goes_on : (es : Elements) → IsMarked es → (qs : List Elements) → ((next : Elements) → IsMarked next → is_pattern_among next qs ≡ true) → refers_into (find ids) qs es ≡ true
  goes_on es s qs each =
      let on : GoesOn g (mark_at marks) s.0 = endless.endless s.0 s.2 in
      let w = edge g s.0 on.0 in
      let there : is_pattern_among (pattern_at ps w) qs ≡ true = each (pattern_at ps w) (w, graph s.0 on.0 on.1, on.2, refl) in
      rw (← s.3, nexts s.0 s.1) (any_at ps (λ next. is_pattern_among next qs) (edges g s.0) on.0 on.1 there)

  listed : (es : Elements) → IsMarked es → is_pattern_among es (all_patterns ids) ≡ true
  listed es s = let within : s.0 < length g = s.1 in rw (← s.3) (known s.0 no_elements (omega arith))

  pub marked_is_endless : (v : ℕ) → v < length g → mark_at marks v ≡ true → is_pattern_among (pattern_at ps v) (endless_patterns ids) ≡ true
  marked_is_endless v within marked = stays (find ids) IsMarked goes_on (length (all_patterns ids)) (all_patterns ids) listed (pattern_at ps v) (v, within, marked, refl)

  no_next : (v : ℕ) → v < length g → ((j : ℕ) → j < length (edges g v) → is_pattern_among (pattern_at ps (edge g v j)) (endless_patterns ids) ≡ false) →
      (b : Bool) → is_pattern_among (pattern_at ps v) (endless_patterns ids) ≡ b → b ≡ false
  no_next v within each false is = refl
  no_next v within each true is =
      let some : refers_into (find ids) (endless_patterns ids) (pattern_at ps v) ≡ true = endless_goes_on ids (pattern_at ps v) is in
      let none : refers_into (find ids) (endless_patterns ids) (pattern_at ps v) ≡ false = ap (list_any (λ next. is_pattern_among next (endless_patterns ids))) (nexts v within) ∙ none_at ps (λ next. is_pattern_among next (endless_patterns ids)) (edges g v) each in
      sym some ∙ none

  pub ending_is_not : (v : ℕ) → Ends g v → v < length g → is_pattern_among (pattern_at ps v) (endless_patterns ids) ≡ false
  ending_is_not _ (ends v below) within =
      no_next v within (λ j inside. ending_is_not (edge g v j) (below j inside) (graph v j inside)) (is_pattern_among (pattern_at ps v) (endless_patterns ids)) refl
