-- The marks of patterns that lead into a circle say which references enter a pattern whose references never end.
use Rattle.std.proofs.Common.{◌≡◌, ◌∙◌, ℕ, ◌<◌, Bool, true, false, List, length, Option, Some, None, option_map, refl, ap, sym}
use Rattle.std.specs.Prelude.{◌||◌}
use Rattle.std.specs.List.{list_any}
use Rattle.std.specs.Option.{option_to_list}
use Rattle.std.proofs.lemmas.List.{length-map}
use Rattle.fluent_grammar.specs.Tree.{Elements}
use Rattle.fluent_meaning.specs.Ids.{Ids}
use Rattle.lint_findings.specs.Endless.{all_patterns}
use Rattle.lint_findings.specs.FlawHints.{is_endless}
use Rattle.lint_nodes.specs.Graph.{IsGraph, AreEndless, mark_at}
use Rattle.lint_nodes.specs.declared.indices.Indices.{Indices}
use Rattle.lint_nodes.specs.Holding.{Holds, entered, pattern_at}
use Rattle.lint_nodes.specs.Marks.{is_marked, AreBelow, SayWhatIsEntered}
use Rattle.lint_nodes.specs.ReferenceGraph.{reference_index, next_indices, graph_by}
use Rattle.lint_nodes.proofs.EndlessMarks.{marked_is_endless, ending_is_not}
use Rattle.lint_nodes.proofs.Edges as graph

or_false : (b : Bool) → (b || false) ≡ b
or_false true = refl
or_false false = refl

module _ (ids : Ids (Unit {0})) (indices : Indices) (ps : List Elements) (holds : Holds (all_patterns ids) indices ps (entered ids)) where
  long : length (graph_by indices ps) ≡ length ps
  long = length-map ps (next_indices indices)

  pub is_graph : IsGraph (graph_by indices ps)
  is_graph = graph.is_graph ids (all_patterns ids) indices ps holds long

  module _ (marks : List Bool) (endless : AreEndless (graph_by indices ps) marks) where
    marked_by : (v : ℕ) → v < length (graph_by indices ps) → v < length ps → (b : Bool) → mark_at marks v ≡ b → b ≡ is_endless ids (pattern_at ps v)
    marked_by v within inside true e =
        sym (marked_is_endless ids ps (graph_by indices ps) marks long is_graph holds.known
        (λ w here. let there : w < length ps = rw (← long) here in graph.nexts ids (all_patterns ids) indices ps holds w there) endless v within e)
    marked_by v within inside false e =
        sym (ending_is_not ids ps (graph_by indices ps) marks long is_graph holds.known
        (λ w here. let there : w < length ps = rw (← long) here in graph.nexts ids (all_patterns ids) indices ps holds w there) endless v (endless.ending v within e) within)

    marked : (v : ℕ) → v < length ps → mark_at marks v ≡ is_endless ids (pattern_at ps v)
    marked v inside = let within : v < length (graph_by indices ps) = rw long inside in marked_by v within inside (mark_at marks v) refl

    says_by : (o : Option ℕ) → ((v : ℕ) → o ≡ Some v → v < length ps) → is_marked marks o ≡ list_any (is_endless ids) (option_to_list (option_map (pattern_at ps) o))
    says_by None within = refl
    says_by (Some v) within = marked v (within v refl) ∙ sym (or_false (is_endless ids (pattern_at ps v)))

    -- what the marks say
    pub say_what_is_entered : SayWhatIsEntered ids indices marks
    say_what_is_entered i =
        says_by (reference_index indices i) (graph.references_below ids (all_patterns ids) indices ps holds i)
        ∙ ap (list_any (is_endless ids)) (sym (graph.reference_agrees ids (all_patterns ids) indices ps holds i))

    -- each reference has a mark
    pub are_below : AreBelow (length marks) indices
    are_below i v e = let here : v < length ps = graph.references_below ids (all_patterns ids) indices ps holds i v e in let as_many : length marks ≡ length ps = endless.long ∙ long in rw as_many here
