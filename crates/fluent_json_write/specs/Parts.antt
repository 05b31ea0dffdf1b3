-- The JSON values of the parts of a tree whose texts are `String`s.
use Rattle.std.specs.Prelude.{ℕ, List, [], ◌∷◌, Option, option_map, map, String, string_bytes, codes}
use Rattle.std.specs.declared.alloc.Global.{Global}
use Rattle.serde_json.specs.Data.{Data, string, array, Items}
use Rattle.fluent_grammar.specs.Tree as t
use Rattle.fluent_ast.specs.View as v
use Rattle.fluent_ast.specs.declared.Resource.{Resource}
use Rattle.fluent_ast.specs.declared.Entry.{Entry}
use Rattle.fluent_ast.specs.declared.Message.{Message}
use Rattle.fluent_ast.specs.declared.Term.{Term}
use Rattle.fluent_ast.specs.declared.Comment.{Comment}
use Rattle.fluent_ast.specs.declared.Attribute.{Attribute}
use Rattle.fluent_ast.specs.declared.Identifier.{Identifier}
use Rattle.fluent_ast.specs.declared.VariantKey.{VariantKey}
use Rattle.fluent_ast.specs.declared.Expression.{Expression}
use Rattle.fluent_ast.specs.declared.InlineExpression.{InlineExpression}
use Rattle.fluent_ast.specs.declared.PatternElement.{PatternElement}
use Rattle.fluent_ast.specs.declared.Pattern.{Pattern}
use Rattle.fluent_ast.specs.declared.Variant.{Variant}
use Rattle.fluent_ast.specs.declared.CallArguments.{CallArguments}
use Rattle.fluent_ast.specs.declared.NamedArgument.{NamedArgument}
use Rattle.fluent_json_write.specs.Objects.{node, identifier, variable_reference, text_element, placeable, variant, named_argument}
use Rattle.fluent_json_write.specs.Json.{each, or_null, json_maybe_arguments, json_key, json_expression, json_inline, json_arguments, json_pattern, json_attribute, json_comment, json_entry, json_elements, json_variants, json_positional, json_named}

abbrev Text : Type 0
Text = String Global

-- one element, variant or named argument, before it stands in a list
abbrev pub json_element : v.Element → Data
json_element (v.text value) = text_element value
json_element (v.placeable e) = placeable (json_expression e)

abbrev pub json_variant : v.Variant → Data
json_variant a = variant (json_key a.key) (json_pattern a.value) a.default

abbrev pub json_one_named : v.Named → Data
json_one_named n = named_argument (identifier n.name) (json_inline n.value)

-- the plain tree of a `Resource`: its entries
abbrev pub plain : Resource Text → List t.Entry
plain = v.resource_view Text string_bytes

abbrev pub line_json : Text → Data
line_json s = string (string_bytes s)

abbrev pub identifier_json : Identifier Text → Data
identifier_json i = identifier (v.name_of Text string_bytes i)

abbrev pub key_json : VariantKey Text → Data
key_json k = json_key (v.key_of Text string_bytes k)

abbrev pub pattern_json : Pattern Text → Data
pattern_json p = json_pattern (v.pattern_view Text string_bytes p)

abbrev pub element_json : PatternElement Text → Data
element_json e = json_element (v.element_view Text string_bytes e)

abbrev pub expression_json : Expression Text → Data
expression_json e = json_expression (v.expression_view Text string_bytes e)

abbrev pub inline_json : InlineExpression Text → Data
inline_json e = json_inline (v.inline_view Text string_bytes e)

abbrev pub variant_json : Variant Text → Data
variant_json a = json_variant (v.variant_view Text string_bytes a)

abbrev pub arguments_json : CallArguments Text → Data
arguments_json a = json_arguments (v.arguments_view Text string_bytes a)

abbrev pub named_json : NamedArgument Text → Data
named_json n = json_one_named (v.named_view Text string_bytes n)

abbrev pub attribute_json : Attribute Text → Data
attribute_json a = json_attribute (v.attribute_view Text string_bytes a)

abbrev pub comment_json : Comment Text → Data
comment_json c = json_comment (v.comment_view Text string_bytes c)

-- a comment of some type
abbrev pub commented_json : List ℕ → Comment Text → Data
commented_json kind c = node kind ((codes "content", array (each string (v.comment_view Text string_bytes c))) ∷ [])

-- an object of some type, whose value is a text
abbrev pub text_json : List ℕ → List ℕ → Data
text_json kind text = node kind ((codes "value", string text) ∷ [])

abbrev pub variable_json : Identifier Text → Data
variable_json i = variable_reference (identifier_json i)

abbrev pub entry_json : Entry Text → Data
entry_json e = json_entry (v.entry_view Text string_bytes e)

abbrev pub message_json : Message Text → Data
message_json m = json_entry (t.message (v.message_view Text string_bytes m))

abbrev pub term_json : Term Text → Data
term_json m = json_entry (t.term (v.term_view Text string_bytes m))

abbrev pub lines_json : List Text → Items
lines_json lines = each string (map string_bytes lines)

abbrev pub attributes_json : List (Attribute Text) → Items
attributes_json list = each json_attribute (map (v.attribute_view Text string_bytes) list)

abbrev pub entries_json : List (Entry Text) → Items
entries_json es = each json_entry (map (v.entry_view Text string_bytes) es)

abbrev pub elements_json : List (PatternElement Text) → Items
elements_json es = json_elements (v.elements_of (map (v.element_view Text string_bytes) es))

abbrev pub variants_json : List (Variant Text) → Items
variants_json vs = json_variants (v.variants_of (map (v.variant_view Text string_bytes) vs))

abbrev pub positional_json : List (InlineExpression Text) → Items
positional_json es = json_positional (v.inlines_of (map (v.inline_view Text string_bytes) es))

abbrev pub nameds_json : List (NamedArgument Text) → Items
nameds_json ns = json_named (v.nameds_of (map (v.named_view Text string_bytes) ns))

-- of what may be absent

abbrev pub accessor_json : Option (Identifier Text) → Data
accessor_json id = or_null identifier (option_map (v.name_of Text string_bytes) id)

abbrev pub maybe_arguments_json : Option (CallArguments Text) → Data
maybe_arguments_json call = json_maybe_arguments (v.maybe_arguments (option_map (v.arguments_view Text string_bytes) call))

abbrev pub maybe_pattern_json : Option (Pattern Text) → Data
maybe_pattern_json p = or_null json_pattern (option_map (v.pattern_view Text string_bytes) p)

abbrev pub maybe_comment_json : Option (Comment Text) → Data
maybe_comment_json c = or_null json_comment (option_map (v.comment_view Text string_bytes) c)
