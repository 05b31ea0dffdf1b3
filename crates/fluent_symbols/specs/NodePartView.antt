-- The nodes in the parts of a tree, as code has them.
use Rattle.std.specs.Prelude.{◌≡◌, List, Option, option_map}
use denote.Ref.{Bor}
use Rattle.fluent_ast.specs.Borrowed.{arguments_of, elements_of, name_of, lines_of, maybe_arguments_of}
use Rattle.fluent_ast.specs.declared.CallArguments.{CallArguments}
use Rattle.fluent_ast.specs.declared.Comment.{Comment}
use Rattle.fluent_ast.specs.declared.Identifier.{Identifier}
use Rattle.fluent_ast.specs.declared.Pattern.{Pattern}
use Rattle.fluent_grammar.specs.Tree as t
use Rattle.fluent_grammar.specs.Words.{Text}
use Rattle.fluent_symbols.specs.Node.{Node}
use Rattle.fluent_symbols.specs.PatternNodes.{in_inline}
use Rattle.fluent_symbols.specs.declared.pattern_nodes.Ended.{Ended}

-- the name of an attribute, if one is named
abbrev pub name_if : Option (Identifier (Bor Text)) → Option Text
name_if name = option_map name_of name

-- the elements of a value, which a message may lack
abbrev pub elements_if : Option (Pattern (Bor Text)) → Option t.Elements
elements_if value = option_map elements_of value

-- the lines of a comment, if there is one
abbrev pub lines_if : Option (Comment (Bor Text)) → Option (List Text)
lines_if comment = option_map lines_of comment

-- references, by their parts
abbrev pub message_of : Text → Option (Identifier (Bor Text)) → t.Inline
message_of name attribute = t.message_reference name (name_if attribute)

abbrev pub function_of : Text → CallArguments (Bor Text) → t.Inline
function_of name arguments = t.function_reference name (arguments_of arguments)

abbrev pub term_of : Text → Option (Identifier (Bor Text)) → Option (CallArguments (Bor Text)) → t.Inline
term_of name attribute arguments = t.term_reference name (name_if attribute) (maybe_arguments_of arguments)

-- the nodes of a reference to a term
abbrev pub in_term : Text → Option (Identifier (Bor Text)) → Option (CallArguments (Bor Text)) → Text → List Node
in_term name attribute arguments s = in_inline (term_of name attribute arguments) s

-- a part ends before this, and this follows it
abbrev pub EndsAt : Text → Ended → Type 0
EndsAt end ended = ended.end.now ≡ end

abbrev pub Leaves : Text → Ended → Type 0
Leaves rest ended = ended.rest.now ≡ rest
