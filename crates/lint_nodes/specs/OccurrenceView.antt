-- The plain occurrences that occurrences stand for.
use Rattle.std.specs.Prelude.{◌≡◌, List, ◌++◌, map, Vec}
use Rattle.std.specs.Global.{Global}
use Rattle.fluent_grammar.specs.Words.{Text}
use Rattle.fluent_grammar.specs.Refusal.{got}
use Rattle.fluent_grammar.specs.Tree as t
use Rattle.lint_findings.specs.Occurrences as o
use Rattle.lint_nodes.specs.HasKeys.{HasKeys}
use Rattle.lint_nodes.specs.NodeView.{node_view}
use Rattle.lint_nodes.specs.declared.keys.Keys.{Keys}
use Rattle.lint_nodes.specs.TreeOccurrences.{repeated_found}
use Rattle.lint_nodes.specs.declared.occurrence.Occurrence.{Occurrence}

abbrev pub occurrence_view : Occurrence → o.Occurrence
occurrence_view x = o.occurrence_at (node_view x.node) x.at.now

-- these occurrences are added after the others
abbrev pub Adds : Vec Occurrence Global → Vec Occurrence Global → List o.Occurrence → Type 0
Adds old new added = map occurrence_view new.items ≡ map occurrence_view old.items ++ added

-- a key is added if a set of keys has it
abbrev pub AddsIfRepeated : Keys → t.VariantKey → Text → Vec Occurrence Global → Vec Occurrence Global → Type 0
AddsIfRepeated keys k at old new = (ks : List t.VariantKey) → HasKeys keys ks → Adds old new (repeated_found ks k at)

-- the pattern with these elements is read at the front of a text
abbrev pub IsPatternAt : Text → t.Elements → Type 0
IsPatternAt s es = (rest : Text) × (o.pattern_read s ≡ got es rest)
