-- What is looked up agrees with what a pattern gives.
use Rattle.std.specs.Prelude.{◌≡◌, List, option_map}
use Rattle.fluent_grammar.specs.Words.{Text}
use Rattle.fluent_grammar.specs.Tree.{Attribute}
use Rattle.fluent_meaning.specs.Ids.{attribute_named}
use Rattle.fluent_ids.specs.Attributes.{first_named}

-- the value of the first attribute of a name
abbrev pub AttributesAgree : Type 0
AttributesAgree = (name : Text) (attributes : List Attribute) → option_map (λ a. a.value) (first_named name attributes) ≡ attribute_named name attributes
