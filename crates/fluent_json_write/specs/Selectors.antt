-- Trees in which a select is by a message's attribute, at any depth.
use Rattle.std.specs.Prelude.{Bool, true, false, ◌||◌, List, [], ◌∷◌, Option, Some, None}
use Rattle.std.specs.List.{list_any}
use Rattle.fluent_grammar.specs.Tree as t
use Rattle.fluent_grammar.specs.Tree.{Elements, Expression, Variants, Inline, MaybeArguments, Arguments, Inlines, Nameds, Attribute, Entry}

-- a message's attribute
abbrev pub is_message_attribute : Inline → Bool
is_message_attribute (t.string_literal s) = false
is_message_attribute (t.number_literal s) = false
is_message_attribute (t.function_reference id call) = false
is_message_attribute (t.message_reference id None) = false
is_message_attribute (t.message_reference id (Some a)) = true
is_message_attribute (t.term_reference id a call) = false
is_message_attribute (t.variable_reference id) = false
is_message_attribute (t.nested e) = false

abbrev mutual
  pub elements_select : Elements → Bool
  elements_select t.no_elements = false
  elements_select (t.text s es) = elements_select es
  elements_select (t.placeable e es) = expression_selects e || elements_select es

  pub expression_selects : Expression → Bool
  expression_selects (t.select selector vs) = is_message_attribute selector || (inline_selects selector || variants_select vs)
  expression_selects (t.inline e) = inline_selects e

  pub variants_select : Variants → Bool
  variants_select t.no_variants = false
  variants_select (t.variant key value default vs) = elements_select value || variants_select vs

  pub inline_selects : Inline → Bool
  inline_selects (t.string_literal s) = false
  inline_selects (t.number_literal s) = false
  inline_selects (t.function_reference id call) = arguments_select call
  inline_selects (t.message_reference id a) = false
  inline_selects (t.term_reference id a call) = maybe_arguments_select call
  inline_selects (t.variable_reference id) = false
  inline_selects (t.nested e) = expression_selects e

  pub maybe_arguments_select : MaybeArguments → Bool
  maybe_arguments_select t.no_arguments = false
  maybe_arguments_select (t.with_arguments call) = arguments_select call

  pub arguments_select : Arguments → Bool
  arguments_select (t.arguments ps ns) = positional_select ps || named_select ns

  pub positional_select : Inlines → Bool
  positional_select t.no_inlines = false
  positional_select (t.positional e ps) = inline_selects e || positional_select ps

  pub named_select : Nameds → Bool
  named_select t.no_nameds = false
  named_select (t.named name e ns) = inline_selects e || named_select ns

abbrev pub value_selects : Option Elements → Bool
value_selects None = false
value_selects (Some es) = elements_select es

abbrev pub attribute_selects : Attribute → Bool
attribute_selects a = elements_select a.value

abbrev pub entry_selects : Entry → Bool
entry_selects (t.message m) = value_selects m.value || list_any attribute_selects m.attributes
entry_selects (t.term m) = elements_select m.value || list_any attribute_selects m.attributes
entry_selects (t.comment lines) = false
entry_selects (t.group_comment lines) = false
entry_selects (t.resource_comment lines) = false
entry_selects (t.junk content) = false

-- whether a select of a tree is by a message's attribute
abbrev pub selects_by_attribute : List Entry → Bool
selects_by_attribute entries = list_any entry_selects entries
