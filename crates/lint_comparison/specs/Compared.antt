-- The parts of the differences of a message.
use Rattle.std.specs.Prelude.{◌≡◌, Bool, if◌then◌else◌, List, [], ◌∷◌, ◌++◌}
use Rattle.lint_findings.specs.Comparison as c
use Rattle.lint_findings.specs.Comparison.{attribute_names, has_new, untranslated, value_difference}
use Rattle.fluent_grammar.specs.Tree as t
use Rattle.fluent_grammar.specs.Words.{Text}
use Rattle.lint_nodes.specs.HasNames.{HasNames}
use Rattle.lint_comparison.specs.Lacks.{lacking}
use Rattle.lint_comparison.specs.declared.lack.Lack.TheVariants as of
use Rattle.lint_nodes.specs.declared.name_set.Names.{Names}

-- of the value and of the attributes of a message m, compared with o
abbrev pub own_differences : t.Message → t.Message → List c.Difference
own_differences m o =
    value_difference m.value o.value
    ++ (lacking of.MissingAttribute (attribute_names o) (attribute_names m)
    ++ lacking of.ObsoleteAttribute (attribute_names m) (attribute_names o))

abbrev pub untranslated_if : Bool → List c.Difference
untranslated_if is_same = if is_same then untranslated ∷ [] else []

-- one of some names isn't among the others
abbrev pub IsNewAmong : Bool → List Text → Names → Type 0
IsNewAmong found names others = (ys : List Text) → HasNames others ys → found ≡ has_new names ys
