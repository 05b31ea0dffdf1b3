-- How much there is in a pattern and in a bundle: what the depth of resolving is counted by.
use Rattle.std.specs.Prelude.{ℕ, suc, ◌+◌, List, [], ◌∷◌, Option, Some, None}
use Rattle.fluent_grammar.specs.Tree as t
use Rattle.fluent_grammar.specs.Tree.{Elements, no_elements, text, placeable, Expression, select, inline, Variants, no_variants, variant, Inline, Arguments, arguments, Inlines, no_inlines, positional, Nameds, no_nameds, named, MaybeArguments, no_arguments, with_arguments}
use Rattle.fluent_meaning.specs.Ids.{Ids, Meaning, number_function, function, message, term}

unfoldable mutual
  pub elements_weight : Elements → ℕ
  elements_weight no_elements = 0
  elements_weight (text s es) = suc (elements_weight es)
  elements_weight (placeable e es) = suc (expression_weight e + elements_weight es)

  pub expression_weight : Expression → ℕ
  expression_weight (select i vs) = suc (inline_weight i + variants_weight vs)
  expression_weight (inline i) = suc (inline_weight i)

  pub variants_weight : Variants → ℕ
  variants_weight no_variants = 0
  variants_weight (variant k es d vs) = suc (elements_weight es + variants_weight vs)

  pub inline_weight : Inline → ℕ
  inline_weight (t.string_literal s) = 1
  inline_weight (t.number_literal s) = 1
  inline_weight (t.function_reference id a) = suc (arguments_weight a)
  inline_weight (t.message_reference id a) = 1
  inline_weight (t.term_reference id a c) = suc (maybe_arguments_weight c)
  inline_weight (t.variable_reference id) = 1
  inline_weight (t.nested e) = suc (expression_weight e)

  pub maybe_arguments_weight : MaybeArguments → ℕ
  maybe_arguments_weight no_arguments = 0
  maybe_arguments_weight (with_arguments a) = suc (arguments_weight a)

  pub arguments_weight : Arguments → ℕ
  arguments_weight (arguments ps ns) = suc (inlines_weight ps + nameds_weight ns)

  pub inlines_weight : Inlines → ℕ
  inlines_weight no_inlines = 0
  inlines_weight (positional e ps) = suc (inline_weight e + inlines_weight ps)

  pub nameds_weight : Nameds → ℕ
  nameds_weight no_nameds = 0
  nameds_weight (named x e ns) = suc (inline_weight e + nameds_weight ns)

abbrev pub value_weight : Option Elements → ℕ
value_weight None = 0
value_weight (Some es) = elements_weight es

abbrev pub attributes_weight : List t.Attribute → ℕ
attributes_weight [] = 0
attributes_weight (a ∷ as') = elements_weight a.value + attributes_weight as'

abbrev pub meaning_weight : {F : Type 0} → Meaning F → ℕ
meaning_weight number_function = 0
meaning_weight (function f) = 0
meaning_weight (message m) = value_weight m.value + attributes_weight m.attributes
meaning_weight (term m) = elements_weight m.value + attributes_weight m.attributes

-- what all patterns of a bundle weigh together
abbrev pub ids_weight : {F : Type 0} → Ids F → ℕ
ids_weight [] = 0
ids_weight (pair ∷ pairs) = meaning_weight pair.1 + ids_weight pairs
