-- The graph of the patterns of a catalog has an edge for each reference that enters one.
use Rattle.std.proofs.Common.{◌≡◌, ◌∙◌, ℕ, zero, suc, ◌<◌, true, false, List, [], ◌∷◌, ◌++◌, length, map, Option, Some, None, option_map, refl, ap, sym, arith}
use Rattle.std.specs.List.{All, filter_map, flat_map, cons_option}
use Rattle.std.specs.Option.{option_to_list}
use Rattle.std.proofs.lemmas.List.Elements.{All-nil, All-cons}
use Rattle.fluent_grammar.specs.Tree as t
use Rattle.fluent_grammar.specs.Tree.{Elements, Inline}
use Rattle.fluent_meaning.specs.Ids.{Ids, find}
use Rattle.fluent_meaning.specs.Substitution.{Target, there, missing, message_target, term_target}
use Rattle.lint_findings.specs.Nodes.{Node, expression, select, repeated_key, elements_nodes}
use Rattle.lint_findings.specs.References.{reference_patterns, target_patterns, next_patterns}
use Rattle.lint_nodes.specs.Graph.{edges, edge, IsGraph}
use Rattle.lint_nodes.specs.declared.indices.Indices.{Indices}
use Rattle.lint_nodes.specs.Holding.{Holds, entered, pattern_at, target_pattern}
use Rattle.lint_nodes.specs.Marks.{AreBelow}
use Rattle.lint_nodes.specs.ReferenceGraph.{reference_index, node_index, graph_by}
use Rattle.lint_nodes.proofs.NodeReferences as nodes

targets : (target : Target) → target_patterns target ≡ option_to_list (target_pattern target)
targets (there es) = refl
targets (missing e) = refl

module _ (ids : Ids (Unit {0})) (others : List Elements) (indices : Indices) (ps : List Elements) (holds : Holds others indices ps (entered ids)) where
  -- the pattern at an index
  abbrev found : Option ℕ → List Elements
  found o = option_to_list (option_map (pattern_at ps) o)

  pub reference_agrees : (i : Inline) → reference_patterns (find ids) i ≡ option_to_list (option_map (pattern_at ps) (reference_index indices i))
  reference_agrees (t.string_literal x) = refl
  reference_agrees (t.number_literal x) = refl
  reference_agrees (t.function_reference id a) = refl
  reference_agrees (t.message_reference id a) = targets (message_target id a (find ids id)) ∙ ap option_to_list (sym (holds.at false id a))
  reference_agrees (t.term_reference id a c) = targets (term_target id a (find ids id)) ∙ ap option_to_list (sym (holds.at true id a))
  reference_agrees (t.variable_reference x) = refl
  reference_agrees (t.nested e) = refl

  -- the patterns that the references of a node, of nodes and of a pattern enter
  abbrev of_node : Node → List Elements
  of_node = nodes.of_node (reference_patterns (find ids)) (λ x. refl) (λ x. refl)

  abbrev of_nodes : List Node → List Elements
  of_nodes ns = flat_map of_node ns

  of_elements : (es : Elements) → of_nodes (elements_nodes es) ≡ next_patterns (find ids) es
  of_elements = nodes.of_elements (reference_patterns (find ids)) (λ x. refl) (λ x. refl)

  node_agrees : (node : Node) → of_node node ≡ found (node_index indices node)
  node_agrees (expression i) = reference_agrees i
  node_agrees (select i vs) = refl
  node_agrees (repeated_key k) = refl

  both : (o : Option ℕ) (vs : List ℕ) → found o ++ map (pattern_at ps) vs ≡ map (pattern_at ps) (cons_option o vs)
  both None vs = refl
  both (Some v) vs = refl

  nodes_agree : (ns : List Node) → of_nodes ns ≡ map (pattern_at ps) (filter_map (node_index indices) ns)
  nodes_agree [] = refl
  nodes_agree (n ∷ ns) =
      ap (λ x. x ++ of_nodes ns) (node_agrees n)
      ∙ ap (λ x. found (node_index indices n) ++ x) (nodes_agree ns)
      ∙ both (node_index indices n) (filter_map (node_index indices) ns)

  nexts_from : (qs : List Elements) (v : ℕ) → v < length qs → next_patterns (find ids) (pattern_at qs v) ≡ map (pattern_at ps) (edges (graph_by indices qs) v)
  nexts_from [] v inside = absurd (omega arith)
  nexts_from (q ∷ qs) zero inside = sym (of_elements q) ∙ nodes_agree (elements_nodes q)
  nexts_from (q ∷ qs) (suc v) inside = nexts_from qs v (omega arith)

  -- the edges of a pattern lead to those that its references enter
  pub nexts : (v : ℕ) → v < length ps → next_patterns (find ids) (pattern_at ps v) ≡ map (pattern_at ps) (edges (graph_by indices ps) v)
  nexts = nexts_from ps

  -- each reference leads to a pattern of the list
  pub references_below : AreBelow (length ps) indices
  references_below (t.string_literal x) v e = absurd cc
  references_below (t.number_literal x) v e = absurd cc
  references_below (t.function_reference id a) v e = absurd cc
  references_below (t.message_reference id a) v e = holds.within false id a v e
  references_below (t.term_reference id a c) v e = holds.within true id a v e
  references_below (t.variable_reference x) v e = absurd cc
  references_below (t.nested i) v e = absurd cc

  abbrev IsBelow : ℕ → Type 0
  IsBelow v = v < length ps

  below_by : (o : Option ℕ) (vs : List ℕ) → ((v : ℕ) → o ≡ Some v → IsBelow v) → All IsBelow vs → All IsBelow (cons_option o vs)
  below_by None vs within all = all
  below_by (Some v) vs within all = All-cons IsBelow v vs (within v refl) all

  node_below : (node : Node) (v : ℕ) → node_index indices node ≡ Some v → IsBelow v
  node_below (expression i) v e = references_below i v e
  node_below (select i vs) v e = absurd cc
  node_below (repeated_key k) v e = absurd cc

  nodes_below : (nodes : List Node) → All IsBelow (filter_map (node_index indices) nodes)
  nodes_below [] = All-nil IsBelow
  nodes_below (node ∷ nodes) = below_by (node_index indices node) (filter_map (node_index indices) nodes) (node_below node) (nodes_below nodes)

  edges_below : (qs : List Elements) (v j : ℕ) → j < length (edges (graph_by indices qs) v) → IsBelow (edge (graph_by indices qs) v j)
  edges_below [] v j inside = absurd (omega arith)
  edges_below (q ∷ qs) zero j inside = nodes_below (elements_nodes q) j 0 inside
  edges_below (q ∷ qs) (suc v) j inside = edges_below qs v j inside

  -- the same as `length ps`, by `length-map`
  pub is_graph : length (graph_by indices ps) ≡ length ps → IsGraph (graph_by indices ps)
  is_graph long v j inside = let here : IsBelow (edge (graph_by indices ps) v j) = edges_below ps v j inside in rw long here
