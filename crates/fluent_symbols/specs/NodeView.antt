-- The plain nodes that nodes stand for.
use Rattle.std.specs.Prelude.{◌≡◌, List, ◌++◌, map, Vec}
use Rattle.std.specs.Global.{Global}
use Rattle.fluent_symbols.specs.Node as n
use Rattle.fluent_symbols.specs.declared.node.Node.{Node}
use Rattle.fluent_symbols.specs.declared.node.NodeKind.{NodeKind}
use Rattle.fluent_symbols.specs.declared.node.NodeKind.TheVariants as kind

abbrev pub kind_view : NodeKind → n.Kind
kind_view kind.Message = n.message
kind_view kind.Term = n.term
kind_view kind.Comment = n.comment
kind_view kind.GroupComment = n.group_comment
kind_view kind.ResourceComment = n.resource_comment
kind_view kind.Junk = n.junk
kind_view kind.Attribute = n.attribute
kind_view kind.Pattern = n.pattern
kind_view kind.TextElement = n.text_element
kind_view kind.Placeable = n.placeable
kind_view kind.Select = n.select
kind_view kind.Variant = n.variant
kind_view kind.DefaultVariant = n.default_variant
kind_view kind.StringLiteral = n.string_literal
kind_view kind.NumberLiteral = n.number_literal
kind_view kind.VariableReference = n.variable_reference
kind_view kind.MessageReference = n.message_reference
kind_view kind.TermReference = n.term_reference
kind_view kind.FunctionReference = n.function_reference
kind_view kind.CallArguments = n.call_arguments
kind_view kind.NamedArgument = n.named_argument
kind_view kind.Identifier = n.identifier

abbrev pub node_view : Node → n.Node
node_view x = n.node (kind_view x.kind) x.from.now x.to.now

-- these nodes are added after the others
abbrev pub Adds : Vec Node Global → Vec Node Global → List n.Node → Type 0
Adds old new added = map node_view new.items ≡ map node_view old.items ++ added
