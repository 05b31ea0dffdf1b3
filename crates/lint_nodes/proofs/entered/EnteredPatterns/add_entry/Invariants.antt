use Rattle.std.proofs.Common.{◌≡◌, List, ◌++◌, map, take, true}
use Rattle.std.specs.Prelude.{All}
use Rattle.std.specs.Option.{option_to_list}
use Rattle.fluent_ast.specs.Borrowed.{attributes_of, elements_found}
use Rattle.fluent_grammar.specs.Tree as t
use Rattle.fluent_grammar.specs.Tree.{Elements}
use Rattle.lint_findings.specs.Endless.{is_pattern_among}
use Rattle.lint_nodes.specs.Holding.{Named, Holds, patterns_of, with_entry}
use Rattle.lint_nodes.proofs.entered.EnteredPatterns.add_entry.Given as goal

-- the value and the attributes so far were added
abbrev pub invariant-loop-attribute : goal.invariant-loop-attribute
invariant-loop-attribute l =
    (others : List Elements) (named : Named) → Holds others l.fn.self.indices (patterns_of l.fn.self.patterns.items) named →
    All (λ es. is_pattern_among es others ≡ true) (option_to_list (elements_found l.value) ++ map (λ (a : t.Attribute). a.value) (attributes_of l.attributes)) →
    Holds others l.self.indices (patterns_of l.self.patterns.items) (with_entry l.is_term l.id (elements_found l.value) (attributes_of (take l.attribute-index l.attributes)) named)
