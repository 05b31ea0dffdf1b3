-- What references reach.
use Rattle.std.specs.Prelude.{◌≡◌, List, [], ◌∷◌, Option, Some, None, map}
use Rattle.std.specs.List.{flat_map}
use Rattle.std.specs.Option.{option_to_list}
use Rattle.lint_findings.specs.Comparison.{message_of, message_patterns, union, variable_of}
use Rattle.lint_findings.specs.Nodes.{Node, expression, select, repeated_key}
use Rattle.lint_findings.specs.References.{elements_references}
use Rattle.fluent_grammar.specs.Tree as t
use Rattle.fluent_grammar.specs.Tree.{Elements, Inline}
use Rattle.fluent_grammar.specs.Words.{Text}
use Rattle.lint_nodes.specs.HasNames.{HasNames}
use Rattle.lint_nodes.specs.declared.name_set.Names.{Names}
use Rattle.lint_nodes.specs.declared.reached.Reached.{Reached}

-- These messages and variables are reached.
pub record HasReached (reached : Reached) (messages variables : List Text) : Type 0 where
  pub messages_are : HasNames reached.messages messages
  pub variables_are : HasNames reached.variables variables

-- the messages and the variables that references name
abbrev pub messages_in : List Inline → List Text
messages_in is = flat_map message_of is

abbrev pub variables_in : List Inline → List Text
variables_in is = flat_map variable_of is

-- after what these references name was added
abbrev pub GetsReferences : Reached → List Inline → Reached → Type 0
GetsReferences old is new = (ms vs : List Text) → HasReached old ms vs → HasReached new (union ms (messages_in is)) (union vs (variables_in is))

-- ---- the references of a message and of its parts

abbrev pub node_references : Node → List Inline
node_references (expression i) = i ∷ []
node_references (select i vs) = []
node_references (repeated_key k) = []

abbrev pub value_references : Option Elements → List Inline
value_references value = flat_map elements_references (option_to_list value)

abbrev pub attribute_references : List t.Attribute → List Inline
attribute_references as' = flat_map elements_references (map (λ (a : t.Attribute). a.value) as')

abbrev pub message_references : t.Message → List Inline
message_references m = flat_map elements_references (message_patterns m)

-- These are the variables of a message that refers to no message.
abbrev pub AreOwn : t.Message → Option Names → Type 0
AreOwn m None = Unit {0}
AreOwn m (Some names) = (messages_in (message_references m) ≡ []) × HasNames names (union [] (variables_in (message_references m)))
