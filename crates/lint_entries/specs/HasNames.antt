-- The names that a set of names has.
use Rattle.std.specs.Prelude.{◌≡◌, Bool, not, List, ◌∷◌}
use Rattle.std.specs.Ordering.{nat_cmp}
use Rattle.std.specs.Cmp.Lexicographic.{slice_cmp}
use Rattle.std.specs.BTreeSet.{contains_by}
use Rattle.fluent_grammar.specs.Words.{Text, is_among}
use Rattle.lint_entries.specs.declared.names.Names.{Names}

-- A set has just these names.
abbrev pub HasNames : Names → List Text → Type 0
HasNames names before = (name : Text) → contains_by (λ k. slice_cmp nat_cmp name k.now) names.names ≡ is_among name before

-- whether this name is none of those that the set has
abbrev pub IsNewName : Names → Text → Bool → Type 0
IsNewName names name is_new = (before : List Text) → HasNames names before → is_new ≡ not (is_among name before)

-- after a set has got this name, it has those that it had and this one
abbrev pub GetsName : Names → Text → Names → Type 0
GetsName old name new = (before : List Text) → HasNames old before → HasNames new (name ∷ before)
