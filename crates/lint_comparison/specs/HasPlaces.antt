-- The first places of the attributes and of the variables of a message.
use Rattle.std.specs.Prelude.{◌≡◌, List, [], ◌∷◌, ◌++◌, Option, Some, None}
use Rattle.std.specs.List.{flat_map}
use Rattle.lint_findings.specs.Comparison.{Difference}
use Rattle.lint_findings.specs.ComparisonFindings.{difference_at}
use Rattle.lint_findings.specs.Nodes.{Node, expression, select, repeated_key}
use Rattle.lint_findings.specs.Occurrences.{Occurrence, PatternPlace, entry_places, occurrences}
use Rattle.fluent_grammar.specs.Tree as t
use Rattle.fluent_grammar.specs.Words.{Text}
use Rattle.lint_comparison.specs.HasFirstPlaces.{HasFirstPlaces}
use Rattle.lint_comparison.specs.declared.places.Places.{Places}

-- Attributes and variables have the first of these places.
pub record HasPlaces (places : Places) (attributes variables : List (Text × Text)) : Type 0 where
  pub attributes_are : HasFirstPlaces places.attributes attributes
  pub variables_are : HasFirstPlaces places.variables variables

-- after these places were added at the end
abbrev pub GetsPlaces : Places → List (Text × Text) → List (Text × Text) → Places → Type 0
GetsPlaces old attributes variables new = (as' vs : List (Text × Text)) → HasPlaces old as' vs → HasPlaces new (as' ++ attributes) (vs ++ variables)

-- ---- the places in patterns

-- a variable at a place
abbrev pub variable_at : Node → Text → List (Text × Text)
variable_at (expression (t.variable_reference x)) at = (x, at) ∷ []
variable_at (expression i) at = []
variable_at (select i vs) at = []
variable_at (repeated_key k) at = []

abbrev pub variables_among : List Occurrence → List (Text × Text)
variables_among os = flat_map (λ (o : Occurrence). variable_at o.node o.at) os

-- an attribute from its dot on
abbrev pub attribute_at : Option Text → Text → List (Text × Text)
attribute_at None at = []
attribute_at (Some a) at = (a, at) ∷ []

abbrev pub attributes_among : List PatternPlace → List (Text × Text)
attributes_among ps = flat_map (λ (p : PatternPlace). attribute_at p.attribute p.name_at) ps

-- the variables of patterns at their places
abbrev pub variables_within : List PatternPlace → List (Text × Text)
variables_within ps = flat_map (λ (p : PatternPlace). variables_among (occurrences p.pattern_at)) ps

-- ---- what calls add

abbrev pub GetsOccurrences : Places → List Occurrence → Places → Type 0
GetsOccurrences old os new = GetsPlaces old [] (variables_among os) new

-- the variables of the pattern at the front of a text
abbrev pub GetsVariables : Places → Text → Places → Type 0
GetsVariables old s new = GetsOccurrences old (occurrences s) new

-- the attributes and the variables of patterns at their places
abbrev pub GetsPatternPlaces : Places → List PatternPlace → Places → Type 0
GetsPatternPlaces old ps new = GetsPlaces old (attributes_among ps) (variables_within ps) new

-- those of patterns at their places are there
abbrev pub HasPlacesOf : Places → List PatternPlace → Type 0
HasPlacesOf places ps = HasPlaces places (attributes_among ps) (variables_within ps)

-- the place of a difference of the message at the front of a text, if its places are there
abbrev pub IsPlaceOf : Places → Difference → Text → Text → Type 0
IsPlaceOf places d s at = HasPlacesOf places (entry_places s) → at ≡ difference_at s d
