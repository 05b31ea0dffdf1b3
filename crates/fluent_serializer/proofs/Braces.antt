-- An inline expression in the braces of a pattern, where it is no placeable.
use Rattle.std.proofs.Common.{◌≡◌, ℕ, List, refl, ap, sym, subst, ◌∙◌}
use Rattle.fluent_grammar.specs.Tree as t
use Rattle.fluent_grammar.specs.Written.{in_braces, inline_signs, placeable_signs}
use Rattle.fluent_ast.specs.declared.Expression.{Expression}
use Rattle.fluent_ast.specs.declared.InlineExpression.{InlineExpression, out-InlineExpression, roll-InlineExpression, roll-out-InlineExpression}
use Rattle.fluent_ast.specs.declared.InlineExpression.TheVariants.{Placeable as Nested, rolls-StringLiteral, rolls-NumberLiteral, rolls-FunctionReference, rolls-MessageReference, rolls-TermReference, rolls-VariableReference, rolls-Placeable as rolls-Nested}
use Rattle.fluent_ast.specs.declared.PatternElement.{PatternElement}
use Rattle.fluent_ast.specs.declared.CallArguments.{CallArguments}
use Rattle.fluent_ast.specs.declared.NamedArgument.{NamedArgument}
use Rattle.fluent_ast.specs.declared.Pattern.{Pattern}
use Rattle.fluent_ast.specs.declared.Variant.{Variant}
use Rattle.fluent_ast.specs.declared.Expression.TheOpen as o
use Rattle.fluent_ast.specs.View.{inline_view}
use Rattle.fluent_ast.proofs.Views.{inline_view-StringLiteral, inline_view-NumberLiteral, inline_view-FunctionReference, inline_view-MessageReference, inline_view-TermReference, inline_view-VariableReference}

module _ (S : Type 0) (text_of : S → List ℕ) (level : ℕ) where
  -- the expression stands in braces with a space inside each
  abbrev InBraces : t.Inline → Type 0
  InBraces i = placeable_signs level (t.inline i) ≡ in_braces level (inline_signs level i)

  abbrev Layer : Type 0
  Layer = o.InlineExpression-F S (Expression S) (InlineExpression S) (PatternElement S) (CallArguments S) (NamedArgument S) (Pattern S) (Variant S)

  by_layer : (x : InlineExpression S) (d : Layer) → x ≡ roll-InlineExpression S d → ((b : _) → x ≡ Nested b → ⊥) → InBraces (inline_view S text_of x)
  by_layer x (o.StringLiteral s) is other = subst InBraces (sym (ap (inline_view S text_of) (is ∙ rolls-StringLiteral s) ∙ inline_view-StringLiteral S text_of s)) refl
  by_layer x (o.NumberLiteral s) is other = subst InBraces (sym (ap (inline_view S text_of) (is ∙ rolls-NumberLiteral s) ∙ inline_view-NumberLiteral S text_of s)) refl
  by_layer x (o.FunctionReference i a) is other = subst InBraces (sym (ap (inline_view S text_of) (is ∙ rolls-FunctionReference i a) ∙ inline_view-FunctionReference S text_of i a)) refl
  by_layer x (o.MessageReference i a) is other = subst InBraces (sym (ap (inline_view S text_of) (is ∙ rolls-MessageReference i a) ∙ inline_view-MessageReference S text_of i a)) refl
  by_layer x (o.TermReference i a c) is other = subst InBraces (sym (ap (inline_view S text_of) (is ∙ rolls-TermReference i a c) ∙ inline_view-TermReference S text_of i a c)) refl
  by_layer x (o.VariableReference i) is other = subst InBraces (sym (ap (inline_view S text_of) (is ∙ rolls-VariableReference i) ∙ inline_view-VariableReference S text_of i)) refl
  by_layer x (o.InlineExpression::Placeable b) is other = absurd (other b (is ∙ rolls-Nested b))

  pub in_braces-no_placeable : (x : InlineExpression S) → ((b : _) → x ≡ Nested b → ⊥) → placeable_signs level (t.inline (inline_view S text_of x)) ≡ in_braces level (inline_signs level (inline_view S text_of x))
  in_braces-no_placeable x other = by_layer x (out-InlineExpression S x) (sym (roll-out-InlineExpression S x)) other
