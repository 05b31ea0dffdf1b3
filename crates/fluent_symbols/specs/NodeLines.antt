-- The nodes of a source as lines.
use Rattle.std.specs.Prelude.{ℕ, ◌-◌, List, [], ◌∷◌, ◌++◌, length, codes, decimal}
use Rattle.std.specs.List.{flat_map}
use Rattle.fluent_grammar.specs.Words.{Text, line_feed, space}
use Rattle.fluent_symbols.specs.EntryNodes.{nodes}
use Rattle.fluent_symbols.specs.Node.{Kind, Node}
use Rattle.fluent_symbols.specs.Node as kind

abbrev pub kind_text : Kind → Text
kind_text kind.message = codes "Message"
kind_text kind.term = codes "Term"
kind_text kind.comment = codes "Comment"
kind_text kind.group_comment = codes "GroupComment"
kind_text kind.resource_comment = codes "ResourceComment"
kind_text kind.junk = codes "Junk"
kind_text kind.attribute = codes "Attribute"
kind_text kind.pattern = codes "Pattern"
kind_text kind.text_element = codes "TextElement"
kind_text kind.placeable = codes "Placeable"
kind_text kind.select = codes "Select"
kind_text kind.variant = codes "Variant"
kind_text kind.default_variant = codes "DefaultVariant"
kind_text kind.string_literal = codes "StringLiteral"
kind_text kind.number_literal = codes "NumberLiteral"
kind_text kind.variable_reference = codes "VariableReference"
kind_text kind.message_reference = codes "MessageReference"
kind_text kind.term_reference = codes "TermReference"
kind_text kind.function_reference = codes "FunctionReference"
kind_text kind.call_arguments = codes "CallArguments"
kind_text kind.named_argument = codes "NamedArgument"
kind_text kind.identifier = codes "Identifier"

-- the offset at which an end of a source of this length begins
abbrev pub offset : ℕ → Text → Text
offset len s = decimal (len - length s)

-- The line of a node in a source of this length: its kind, where it begins and where it ends.
abbrev pub node_line : ℕ → Node → Text
node_line len n = kind_text n.kind ++ space ∷ offset len n.from ++ space ∷ offset len n.to ++ line_feed ∷ []

abbrev pub lines_of : ℕ → List Node → Text
lines_of len ns = flat_map (node_line len) ns

-- the lines of the nodes of a source
abbrev pub node_lines : Text → Text
node_lines source = lines_of (length source) (nodes source)
