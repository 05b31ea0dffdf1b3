-- Marks at the indices of patterns.
use Rattle.std.specs.Prelude.{◌≡◌, ℕ, ◌<◌, Bool, false, List, Option, Some, None}
use Rattle.std.specs.List.{list_any}
use Rattle.fluent_grammar.specs.Tree.{Inline}
use Rattle.fluent_meaning.specs.Ids.{Ids, find}
use Rattle.lint_nodes.specs.Graph.{mark_at}
use Rattle.lint_findings.specs.FlawHints.{is_endless}
use Rattle.lint_findings.specs.References.{reference_patterns}
use Rattle.lint_nodes.specs.ReferenceGraph.{reference_index}
use Rattle.lint_nodes.specs.declared.indices.Indices.{Indices}

-- the mark at an index, if there is one
abbrev pub is_marked : List Bool → Option ℕ → Bool
is_marked marks None = false
is_marked marks (Some v) = mark_at marks v

-- the indices of the patterns that references enter are below this number
abbrev pub AreBelow : ℕ → Indices → Type 0
AreBelow n indices = (i : Inline) (v : ℕ) → reference_index indices i ≡ Some v → v < n

-- whether a reference enters a pattern whose references never end
abbrev pub is_entered : Ids (Unit {0}) → Inline → Bool
is_entered ids i = list_any (is_endless ids) (reference_patterns (find ids) i)

-- The marks say of each reference whether it enters a pattern whose references never end.
abbrev pub SayWhatIsEntered : Ids (Unit {0}) → Indices → List Bool → Type 0
SayWhatIsEntered ids indices marks = (i : Inline) → is_marked marks (reference_index indices i) ≡ is_entered ids i
