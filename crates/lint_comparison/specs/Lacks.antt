-- The differences that names make which one of two messages lacks.
use Rattle.std.specs.Prelude.{◌≡◌, List, [], ◌∷◌, ◌++◌, map, Vec}
use Rattle.std.specs.Global.{Global}
use Rattle.fluent_ast.specs.Borrowed.{message_of}
use Rattle.lint_findings.specs.DifferenceView.{difference_view}
use Rattle.lint_findings.specs.declared.difference.Difference.{Difference}
use Rattle.lint_findings.specs.Comparison as c
use Rattle.lint_findings.specs.Comparison.{without}
use Rattle.fluent_grammar.specs.Words.{Text}
use Rattle.lint_nodes.specs.HasNames.{HasNames}
use Rattle.lint_comparison.specs.declared.lack.Lack.{Lack}
use Rattle.lint_comparison.specs.declared.lack.Lack.TheVariants as of
use Rattle.lint_nodes.specs.declared.name_set.Names.{Names}

-- the difference that a name of a kind makes
abbrev pub lack_of : Lack → Text → c.Difference
lack_of of.MissingAttribute name = c.missing_attribute name
lack_of of.ObsoleteAttribute name = c.obsolete_attribute name
lack_of of.UnknownVariable name = c.unknown_variable name
lack_of (of.LostVariable has_unknown other) name = c.lost_variable has_unknown (message_of other.now) name

-- these differences are added after the others
abbrev pub Adds : Vec Difference Global → Vec Difference Global → List c.Difference → Type 0
Adds old new added = map difference_view new.items ≡ map difference_view old.items ++ added

-- those of some names that are none of the others
abbrev pub lacking : Lack → List Text → List Text → List c.Difference
lacking kind names others = map (lack_of kind) (without names others)

abbrev pub AddsLacking : Lack → List Text → Names → Vec Difference Global → Vec Difference Global → Type 0
AddsLacking kind names others old new = (ys : List Text) → HasNames others ys → Adds old new (lacking kind names ys)

-- that of one name
abbrev pub AddsIfLacking : Lack → Text → Names → Vec Difference Global → Vec Difference Global → Type 0
AddsIfLacking kind name others old new = AddsLacking kind (name ∷ []) others old new
