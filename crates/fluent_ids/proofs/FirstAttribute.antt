-- The first attribute of a name, with its value alone.
use Rattle.std.proofs.Common.{◌≡◌, Bool, true, false, List, [], ◌∷◌, Option, Some, option_map, refl}
use Rattle.std.specs.Prelude.{if◌then◌else◌}
use Rattle.std.specs.Str.{bytes_eq}
use Rattle.fluent_grammar.specs.Words.{Text}
use Rattle.fluent_grammar.specs.Tree.{Attribute, Elements}
use Rattle.fluent_meaning.specs.Ids.{attribute_named}
use Rattle.fluent_ids.specs.Attributes.{first_named}

abbrev value_of : Option Attribute → Option Elements
value_of = option_map (λ a. a.value)

either : (b : Bool) (a : Attribute) (rest : Option Attribute) (values : Option Elements) → value_of rest ≡ values → value_of (if b then Some a else rest) ≡ (if b then Some a.value else values)
either true a rest values same = refl
either false a rest values same = same

pub first-value : (name : Text) (attributes : List Attribute) → value_of (first_named name attributes) ≡ attribute_named name attributes
first-value name [] = refl
first-value name (a ∷ as') = either (bytes_eq a.id name) a (first_named name as') (attribute_named name as') (first-value name as')
