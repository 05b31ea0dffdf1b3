-- Which parts of a tree whose texts are `String`s hold a select by a message's attribute.
use Rattle.std.specs.Prelude.{Bool, false, List, map, String, string_bytes, Option, option_map}
use Rattle.std.specs.declared.alloc.Global.{Global}
use Rattle.std.specs.List.{list_any}
use Rattle.fluent_ast.specs.View as v
use Rattle.fluent_ast.specs.declared.Entry.{Entry}
use Rattle.fluent_ast.specs.declared.Attribute.{Attribute}
use Rattle.fluent_ast.specs.declared.Expression.{Expression}
use Rattle.fluent_ast.specs.declared.InlineExpression.{InlineExpression}
use Rattle.fluent_ast.specs.declared.PatternElement.{PatternElement}
use Rattle.fluent_ast.specs.declared.Pattern.{Pattern}
use Rattle.fluent_ast.specs.declared.Variant.{Variant}
use Rattle.fluent_ast.specs.declared.CallArguments.{CallArguments}
use Rattle.fluent_ast.specs.declared.NamedArgument.{NamedArgument}
use Rattle.fluent_json_write.specs.Selectors.{is_message_attribute, elements_select, expression_selects, variants_select, inline_selects, maybe_arguments_select, arguments_select, positional_select, named_select, value_selects, attribute_selects, entry_selects}

abbrev Text : Type 0
Text = String Global

-- one element, variant or named argument, before it stands in a list
abbrev pub element_selects : v.Element → Bool
element_selects (v.text s) = false
element_selects (v.placeable e) = expression_selects e

abbrev pub variant_selects : v.Variant → Bool
variant_selects a = elements_select a.value

abbrev pub one_named_selects : v.Named → Bool
one_named_selects n = inline_selects n.value

abbrev pub is_attribute : InlineExpression Text → Bool
is_attribute e = is_message_attribute (v.inline_view Text string_bytes e)

abbrev pub in_pattern : Pattern Text → Bool
in_pattern p = elements_select (v.pattern_view Text string_bytes p)

abbrev pub in_element : PatternElement Text → Bool
in_element e = element_selects (v.element_view Text string_bytes e)

abbrev pub in_expression : Expression Text → Bool
in_expression e = expression_selects (v.expression_view Text string_bytes e)

abbrev pub in_inline : InlineExpression Text → Bool
in_inline e = inline_selects (v.inline_view Text string_bytes e)

abbrev pub in_variant : Variant Text → Bool
in_variant a = variant_selects (v.variant_view Text string_bytes a)

abbrev pub in_arguments : CallArguments Text → Bool
in_arguments a = arguments_select (v.arguments_view Text string_bytes a)

abbrev pub in_maybe_arguments : Option (CallArguments Text) → Bool
in_maybe_arguments call = maybe_arguments_select (v.maybe_arguments (option_map (v.arguments_view Text string_bytes) call))

abbrev pub in_named : NamedArgument Text → Bool
in_named n = one_named_selects (v.named_view Text string_bytes n)

abbrev pub in_attribute : Attribute Text → Bool
in_attribute a = attribute_selects (v.attribute_view Text string_bytes a)

abbrev pub in_value : Option (Pattern Text) → Bool
in_value p = value_selects (option_map (v.pattern_view Text string_bytes) p)

abbrev pub in_entry : Entry Text → Bool
in_entry e = entry_selects (v.entry_view Text string_bytes e)

-- in some of them

abbrev pub in_elements : List (PatternElement Text) → Bool
in_elements es = elements_select (v.elements_of (map (v.element_view Text string_bytes) es))

abbrev pub in_variants : List (Variant Text) → Bool
in_variants vs = variants_select (v.variants_of (map (v.variant_view Text string_bytes) vs))

abbrev pub in_positional : List (InlineExpression Text) → Bool
in_positional es = positional_select (v.inlines_of (map (v.inline_view Text string_bytes) es))

abbrev pub in_nameds : List (NamedArgument Text) → Bool
in_nameds ns = named_select (v.nameds_of (map (v.named_view Text string_bytes) ns))

abbrev pub in_attributes : List (Attribute Text) → Bool
in_attributes list = list_any attribute_selects (map (v.attribute_view Text string_bytes) list)

abbrev pub in_entries : List (Entry Text) → Bool
in_entries es = list_any entry_selects (map (v.entry_view Text string_bytes) es)
