-- The ids that a message can need: its own, and those that the patterns of what is there name.
use Rattle.std.specs.Prelude.{◌≡◌, List, [], ◌∷◌, ◌++◌, Option, Some, None}
use Rattle.std.specs.List.{flat_map}
use Rattle.fluent_grammar.specs.Words.{Text}
use Rattle.fluent_grammar.specs.Tree as t
use Rattle.fluent_grammar.specs.Tree.{Elements, Expression, Variants, Inline, Arguments, Inlines, Nameds, MaybeArguments}
use Rattle.fluent_meaning.specs.Ids.{Meaning, number_function, function, message, term}

abbrev mutual
  -- the ids that a pattern names in message, term and function references
  pub elements_ids : Elements → List Text
  elements_ids t.no_elements = []
  elements_ids (t.text x es) = elements_ids es
  elements_ids (t.placeable e es) = expression_ids e ++ elements_ids es

  pub expression_ids : Expression → List Text
  expression_ids (t.select i vs) = inline_ids i ++ variants_ids vs
  expression_ids (t.inline i) = inline_ids i

  pub variants_ids : Variants → List Text
  variants_ids t.no_variants = []
  variants_ids (t.variant k es d vs) = elements_ids es ++ variants_ids vs

  pub inline_ids : Inline → List Text
  inline_ids (t.string_literal x) = []
  inline_ids (t.number_literal x) = []
  inline_ids (t.function_reference id a) = id ∷ arguments_ids a
  inline_ids (t.message_reference id a) = id ∷ []
  inline_ids (t.term_reference id a c) = id ∷ maybe_ids c
  inline_ids (t.variable_reference x) = []
  inline_ids (t.nested e) = expression_ids e

  pub maybe_ids : MaybeArguments → List Text
  maybe_ids t.no_arguments = []
  maybe_ids (t.with_arguments a) = arguments_ids a

  pub arguments_ids : Arguments → List Text
  arguments_ids (t.arguments ps ns) = inlines_ids ps ++ nameds_ids ns

  pub inlines_ids : Inlines → List Text
  inlines_ids t.no_inlines = []
  inlines_ids (t.positional e ps) = inline_ids e ++ inlines_ids ps

  pub nameds_ids : Nameds → List Text
  nameds_ids t.no_nameds = []
  nameds_ids (t.named x e ns) = inline_ids e ++ nameds_ids ns

abbrev pub value_ids : Option Elements → List Text
value_ids None = []
value_ids (Some es) = elements_ids es

abbrev pub meaning_ids : {F : Type 0} → Meaning F → List Text
meaning_ids number_function = []
meaning_ids (function f) = []
meaning_ids (message m) = value_ids m.value ++ flat_map (λ (a : t.Attribute). elements_ids a.value) m.attributes
meaning_ids (term m) = elements_ids m.value ++ flat_map (λ (a : t.Attribute). elements_ids a.value) m.attributes

-- an id stands in a list
pub data IsIn (id : Text) : List Text → Type 0 where
  first : {ids : List Text} → IsIn id (id ∷ ids)
  later : {other : Text} {ids : List Text} → IsIn id ids → IsIn id (other ∷ ids)

-- the reach of an id in a map: the id itself, and what is named by what is there
pub data Reaches {F : Type 0} (find : Text → Option (Meaning F)) (from : Text) : Text → Type 0 where
  itself : Reaches find from from
  named_by : {id other : Text} {m : Meaning F} → Reaches find from id → find id ≡ Some m → IsIn other (meaning_ids m) → Reaches find from other
