-- What an expression is, by its variant.
use Rattle.std.proofs.Common.{◌≡◌, ◌∙◌, Bor, Option, ap, option_map}
use Rattle.fluent_ast.proofs.Views.{expression_view-Inline, inline_view-StringLiteral, inline_view-NumberLiteral, inline_view-FunctionReference, inline_view-MessageReference, inline_view-VariableReference, inline_view-Placeable}
use Rattle.fluent_ast.specs.Borrowed.{arguments_of, expression_of, inline_of, name_of}
use Rattle.fluent_ast.specs.declared.CallArguments.{CallArguments}
use Rattle.fluent_ast.specs.declared.Expression.{Expression}
use Rattle.fluent_ast.specs.declared.Expression.TheVariants.{Inline}
use Rattle.fluent_ast.specs.declared.Identifier.{Identifier}
use Rattle.fluent_ast.specs.declared.InlineExpression.{InlineExpression}
use Rattle.fluent_ast.specs.declared.InlineExpression.TheVariants.{StringLiteral, NumberLiteral, FunctionReference, MessageReference, VariableReference, Placeable}
use Rattle.fluent_grammar.specs.Tree as t
use Rattle.fluent_grammar.specs.Words.{Text}

pub is-inline : {e : Expression (Bor Text)} {i : InlineExpression (Bor Text)} → e ≡ Inline i → expression_of e ≡ t.inline (inline_of i)
is-inline {i = i} h = ap expression_of h ∙ expression_view-Inline _ (λ s. s.now) i

module _ {e : InlineExpression (Bor Text)} where
  pub is-string : {x : Bor Text} → e ≡ StringLiteral x → inline_of e ≡ t.string_literal x.now
  is-string {x = x} h = ap inline_of h ∙ inline_view-StringLiteral _ (λ s. s.now) x

  pub is-number : {x : Bor Text} → e ≡ NumberLiteral x → inline_of e ≡ t.number_literal x.now
  is-number {x = x} h = ap inline_of h ∙ inline_view-NumberLiteral _ (λ s. s.now) x

  pub is-function : {id : Identifier (Bor Text)} {given : CallArguments (Bor Text)} → e ≡ FunctionReference id given → inline_of e ≡ t.function_reference (name_of id) (arguments_of given)
  is-function {id = id} {given = given} h = ap inline_of h ∙ inline_view-FunctionReference _ (λ s. s.now) id given

  pub is-message : {id : Identifier (Bor Text)} {attr : Option (Identifier (Bor Text))} → e ≡ MessageReference id attr → inline_of e ≡ t.message_reference (name_of id) (option_map name_of attr)
  is-message {id = id} {attr = attr} h = ap inline_of h ∙ inline_view-MessageReference _ (λ s. s.now) id attr

  pub is-variable : {id : Identifier (Bor Text)} → e ≡ VariableReference id → inline_of e ≡ t.variable_reference (name_of id)
  is-variable {id = id} h = ap inline_of h ∙ inline_view-VariableReference _ (λ s. s.now) id

  pub is-nested : {inner : _} → e ≡ Placeable inner → inline_of e ≡ t.nested (expression_of inner.value)
  is-nested {inner = inner} h = ap inline_of h ∙ inline_view-Placeable _ (λ s. s.now) inner
