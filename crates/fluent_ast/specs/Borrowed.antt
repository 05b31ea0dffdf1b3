-- The plain data of a tree whose texts are `&str`.
use Rattle.std.specs.Prelude.{List, Option, option_map}
use denote.Ref.{Bor}
use Rattle.fluent_ast.specs.View as view
use Rattle.fluent_ast.specs.declared.Attribute.{Attribute}
use Rattle.fluent_ast.specs.declared.CallArguments.{CallArguments}
use Rattle.fluent_ast.specs.declared.Comment.{Comment}
use Rattle.fluent_ast.specs.declared.Entry.{Entry}
use Rattle.fluent_ast.specs.declared.Expression.{Expression}
use Rattle.fluent_ast.specs.declared.Identifier.{Identifier}
use Rattle.fluent_ast.specs.declared.InlineExpression.{InlineExpression}
use Rattle.fluent_ast.specs.declared.Message.{Message}
use Rattle.fluent_ast.specs.declared.NamedArgument.{NamedArgument}
use Rattle.fluent_ast.specs.declared.Pattern.{Pattern}
use Rattle.fluent_ast.specs.declared.Resource.{Resource}
use Rattle.fluent_ast.specs.declared.Term.{Term}
use Rattle.fluent_ast.specs.declared.Variant.{Variant}
use Rattle.fluent_ast.specs.declared.VariantKey.{VariantKey}
use Rattle.fluent_grammar.specs.Tree as t
use Rattle.fluent_grammar.specs.Words.{Text}

-- the bytes of a name
abbrev pub name_of : Identifier (Bor Text) → Text
name_of = view.name_of _ (λ s. s.now)

-- the key of a variant
abbrev pub key_of : VariantKey (Bor Text) → t.VariantKey
key_of = view.key_of _ (λ s. s.now)

-- the elements of a pattern
abbrev pub elements_of : Pattern (Bor Text) → t.Elements
elements_of = view.pattern_view _ (λ s. s.now)

-- the elements of a pattern that may be absent
abbrev pub elements_found : Option (Bor (Pattern (Bor Text))) → Option t.Elements
elements_found found = option_map (λ pattern. elements_of pattern.now) found

-- an expression
abbrev pub expression_of : Expression (Bor Text) → t.Expression
expression_of = view.expression_view _ (λ s. s.now)

-- an inline expression
abbrev pub inline_of : InlineExpression (Bor Text) → t.Inline
inline_of = view.inline_view _ (λ s. s.now)

-- the variants of a selector
abbrev pub variants_of : List (Variant (Bor Text)) → t.Variants
variants_of = view.variants_view _ (λ s. s.now)

-- the arguments of a call
abbrev pub arguments_of : CallArguments (Bor Text) → t.Arguments
arguments_of = view.arguments_view _ (λ s. s.now)

-- the arguments of a term, which may be absent
abbrev pub maybe_arguments_of : Option (CallArguments (Bor Text)) → t.MaybeArguments
maybe_arguments_of arguments = view.maybe_arguments (option_map arguments_of arguments)

-- the arguments of a call without a name
abbrev pub positional_of : List (InlineExpression (Bor Text)) → t.Inlines
positional_of = view.inlines_view _ (λ s. s.now)

-- the arguments of a call with a name
abbrev pub named_of : List (NamedArgument (Bor Text)) → t.Nameds
named_of = view.nameds_view _ (λ s. s.now)

-- an attribute
abbrev pub attribute_of : Attribute (Bor Text) → t.Attribute
attribute_of = view.attribute_view _ (λ s. s.now)

-- the attributes of a message or a term
abbrev pub attributes_of : List (Attribute (Bor Text)) → List t.Attribute
attributes_of = view.attributes_view _ (λ s. s.now)

-- the lines of a comment
abbrev pub lines_of : Comment (Bor Text) → List Text
lines_of = view.comment_view _ (λ s. s.now)

-- a message
abbrev pub message_of : Message (Bor Text) → t.Message
message_of = view.message_view _ (λ s. s.now)

-- a term
abbrev pub term_of : Term (Bor Text) → t.Term
term_of = view.term_view _ (λ s. s.now)

-- an entry
abbrev pub entry_of : Entry (Bor Text) → t.Entry
entry_of = view.entry_view _ (λ s. s.now)

-- the entries of a tree
abbrev pub entries_of : Resource (Bor Text) → List t.Entry
entries_of = view.resource_view _ (λ s. s.now)
