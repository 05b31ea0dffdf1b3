-- The graph of patterns in a list: each leads to those that its references enter.
use Rattle.std.specs.Prelude.{ℕ, true, false, List, map, Option, None}
use Rattle.std.specs.List.{filter_map}
use Rattle.fluent_grammar.specs.Tree as t
use Rattle.fluent_grammar.specs.Tree.{Elements, Inline}
use Rattle.lint_findings.specs.Nodes.{Node, expression, select, repeated_key, elements_nodes}
use Rattle.lint_nodes.specs.NodeView.{node_view}
use Rattle.lint_nodes.specs.declared.nodes.Node as code
use Rattle.lint_nodes.specs.IndicesView.{index_of}
use Rattle.lint_nodes.specs.declared.indices.Indices.{Indices}

-- the index of the pattern that a reference enters
abbrev pub reference_index : Indices → Inline → Option ℕ
reference_index indices (t.string_literal x) = None
reference_index indices (t.number_literal x) = None
reference_index indices (t.function_reference id a) = None
reference_index indices (t.message_reference id a) = index_of indices false id a
reference_index indices (t.term_reference id a c) = index_of indices true id a
reference_index indices (t.variable_reference x) = None
reference_index indices (t.nested e) = None

-- the index of the pattern that a node enters, if it is a reference
abbrev pub node_index : Indices → Node → Option ℕ
node_index indices (expression i) = reference_index indices i
node_index indices (select i vs) = None
node_index indices (repeated_key k) = None

-- the indices of the patterns that the code's nodes enter
abbrev pub entered_indices : Indices → List code.Node → List ℕ
entered_indices indices nodes = filter_map (λ node. node_index indices (node_view node)) nodes

-- the indices of the patterns that the references of a pattern enter
abbrev pub next_indices : Indices → Elements → List ℕ
next_indices indices es = filter_map (node_index indices) (elements_nodes es)

-- those of each pattern of a list
abbrev pub graph_by : Indices → List Elements → List (List ℕ)
graph_by indices ps = map (next_indices indices) ps
