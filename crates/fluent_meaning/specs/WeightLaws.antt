-- What is entered weighs less than what it stands in.
use Rattle.std.specs.Prelude.{◌≡◌, ◌≤◌, ◌<◌, Option, Some}
use Rattle.fluent_grammar.specs.Words.{Text}
use Rattle.fluent_grammar.specs.Tree.{Elements, Variants, Inline, select}
use Rattle.fluent_value.specs.Value.{Value}
use Rattle.fluent_meaning.specs.Choice.{chosen}
use Rattle.fluent_meaning.specs.Ids.{Ids, find}
use Rattle.fluent_value.specs.Matching.{Plurals}
use Rattle.fluent_meaning.specs.Substitution.{there, message_target, term_target}
use Rattle.fluent_meaning.specs.Weight.{elements_weight, expression_weight, ids_weight}

-- the pattern that a message reference means weighs no more than the map of ids
abbrev pub MessagesWeigh : Type 0 → Type 0
MessagesWeigh F = (ids : Ids F) (id : Text) (attr : Option Text) (es : Elements) → message_target id attr (find ids id) ≡ there es → elements_weight es ≤ ids_weight ids

-- and so does the pattern that a term reference means
abbrev pub TermsWeigh : Type 0 → Type 0
TermsWeigh F = (ids : Ids F) (id : Text) (attr : Option Text) (es : Elements) → term_target id attr (find ids id) ≡ there es → elements_weight es ≤ ids_weight ids

-- the pattern of the variant that is chosen weighs less than the select
abbrev pub VariantsWeigh : Type 0 → Type 0
VariantsWeigh S = (plurals : Plurals) (v : Value S) (i : Inline) (vs : Variants) (es : Elements) → chosen plurals v vs ≡ Some es → elements_weight es < expression_weight (select i vs)
