-- What is true of each placeable that is found in a string literal, as a statement.
use Rattle.std.specs.Prelude.{◌≡◌, ◌∷◌, drop, Some, None}
use Rattle.fluent_grammar.specs.Words.{Text, quote, dollar, hyphen}
use Rattle.fluent_grammar.specs.Spelling.{SpellsPlaceable}
use Rattle.fluent_grammar.specs.Tree as t
use Rattle.fluent_grammar.specs.Tree.{Inline}
use Rattle.lint_findings.specs.Quoted.{Quoted, quoted}

-- A name with its sign is that of this reference: a variable, or a term without attribute and arguments.
pub data IsNamed : Text → Inline → Type 0 where
  named_variable : {name : Text} → IsNamed (dollar ∷ name) (t.variable_reference name)
  named_term : {name : Text} → IsNamed (hyphen ∷ name) (t.term_reference name None t.no_arguments)

-- At the front of a text the grammar has a placeable of what this name with its sign stands for.
abbrev pub IsPlaceableAt : Text → Text → Type 0
IsPlaceableAt s reference = (e : Inline) × (rest : Text) × IsNamed reference e × SpellsPlaceable (t.inline e) s rest

-- What is found in a literal of this raw text is a placeable there, by the grammar.
abbrev pub QuotedAreSpelled : Type 0
QuotedAreSpelled = (raw : Text) (q : Quoted) → quoted raw ≡ Some q → IsPlaceableAt (drop q.inside (quote ∷ raw)) q.reference
