-- What the views are at each variant of an enum, and at a struct by its fields.
use Rattle.std.proofs.Common.{◌≡◌, ℕ, Bool, List, Option, None, Some, option_map, map, ap, sym, ◌∙◌, Vec, Global}
use Rattle.fluent_grammar.specs.Tree as t
use Rattle.fluent_ast.specs.declared.Identifier.{Identifier}
use Rattle.fluent_ast.specs.declared.VariantKey.{VariantKey}
use Rattle.fluent_ast.specs.declared.Message.{Message}
use Rattle.fluent_ast.specs.declared.Term.{Term}
use Rattle.fluent_ast.specs.declared.Expression.{Expression, fold-roll-Expression}
use Rattle.fluent_ast.specs.declared.Expression.TheVariants.{Select, Inline, rolls-Select, rolls-Inline}
use Rattle.fluent_ast.specs.declared.InlineExpression.{InlineExpression, fold-roll-InlineExpression}
use Rattle.fluent_ast.specs.declared.InlineExpression.TheVariants.{StringLiteral, NumberLiteral, FunctionReference, MessageReference, TermReference, VariableReference, Placeable as Nested, rolls-StringLiteral, rolls-NumberLiteral, rolls-FunctionReference, rolls-MessageReference, rolls-TermReference, rolls-VariableReference, rolls-Placeable as rolls-Nested}
use Rattle.fluent_ast.specs.declared.PatternElement.{fold-roll-PatternElement}
use Rattle.fluent_ast.specs.declared.PatternElement.TheVariants.{TextElement, Placeable, rolls-TextElement, rolls-Placeable}
use Rattle.fluent_ast.specs.declared.Pattern.{Pattern, out-Pattern, roll-Pattern, fold-roll-Pattern, fold_out-Pattern}
use Rattle.fluent_ast.specs.declared.CallArguments.{CallArguments, out-CallArguments, roll-CallArguments, fold-roll-CallArguments, fold_out-CallArguments}
use Rattle.fluent_ast.specs.declared.NamedArgument.{NamedArgument, out-NamedArgument, roll-NamedArgument, fold-roll-NamedArgument, fold_out-NamedArgument}
use Rattle.fluent_ast.specs.declared.Variant.{Variant, out-Variant, roll-Variant, fold-roll-Variant, fold_out-Variant}
use Rattle.fluent_ast.specs.declared.Expression.TheOpen as o
use Rattle.fluent_ast.specs.View.{message_view, term_view, attribute_view, comment_view, expression_step, inline_step, element_step, arguments_step, named_step, pattern_step, variant_step, pattern_view, element_view, expression_view, inline_view, variant_view, arguments_view, named_view, key_of, name_of, elements_of, variants_of, inlines_of, nameds_of, maybe_arguments, text, placeable}

module _ (S : Type 0) (text_of : S → List ℕ) where
  pub expression_view-Select : (s : InlineExpression S) (vs : _) → expression_view S text_of (Select s vs) ≡ t.select (inline_view S text_of s) (variants_of (map (variant_view S text_of) vs.items))
  expression_view-Select s vs =
      ap (expression_view S text_of) (sym (rolls-Select s vs))
      ∙ fold-roll-Expression S _ _ _ _ _ _ _ (expression_step S text_of) (inline_step S text_of) (element_step S text_of) (arguments_step S text_of) (named_step S text_of) (pattern_step S text_of) (variant_step S text_of) (o.Select s vs)

  pub expression_view-Inline : (i : InlineExpression S) → expression_view S text_of (Inline i) ≡ t.inline (inline_view S text_of i)
  expression_view-Inline i =
      ap (expression_view S text_of) (sym (rolls-Inline i))
      ∙ fold-roll-Expression S _ _ _ _ _ _ _ (expression_step S text_of) (inline_step S text_of) (element_step S text_of) (arguments_step S text_of) (named_step S text_of) (pattern_step S text_of) (variant_step S text_of) (o.Inline i)

  pub inline_view-StringLiteral : (s : S) → inline_view S text_of (StringLiteral s) ≡ t.string_literal (text_of s)
  inline_view-StringLiteral s =
      ap (inline_view S text_of) (sym (rolls-StringLiteral s))
      ∙ fold-roll-InlineExpression S _ _ _ _ _ _ _ (expression_step S text_of) (inline_step S text_of) (element_step S text_of) (arguments_step S text_of) (named_step S text_of) (pattern_step S text_of) (variant_step S text_of) (o.StringLiteral s)

  pub inline_view-NumberLiteral : (s : S) → inline_view S text_of (NumberLiteral s) ≡ t.number_literal (text_of s)
  inline_view-NumberLiteral s =
      ap (inline_view S text_of) (sym (rolls-NumberLiteral s))
      ∙ fold-roll-InlineExpression S _ _ _ _ _ _ _ (expression_step S text_of) (inline_step S text_of) (element_step S text_of) (arguments_step S text_of) (named_step S text_of) (pattern_step S text_of) (variant_step S text_of) (o.NumberLiteral s)

  pub inline_view-FunctionReference : (i : Identifier S) (a : CallArguments S) → inline_view S text_of (FunctionReference i a) ≡ t.function_reference (name_of S text_of i) (arguments_view S text_of a)
  inline_view-FunctionReference i a =
      ap (inline_view S text_of) (sym (rolls-FunctionReference i a))
      ∙ fold-roll-InlineExpression S _ _ _ _ _ _ _ (expression_step S text_of) (inline_step S text_of) (element_step S text_of) (arguments_step S text_of) (named_step S text_of) (pattern_step S text_of) (variant_step S text_of) (o.FunctionReference i a)

  pub inline_view-MessageReference : (i : Identifier S) (a : _) → inline_view S text_of (MessageReference i a) ≡ t.message_reference (name_of S text_of i) (option_map (name_of S text_of) a)
  inline_view-MessageReference i a =
      ap (inline_view S text_of) (sym (rolls-MessageReference i a))
      ∙ fold-roll-InlineExpression S _ _ _ _ _ _ _ (expression_step S text_of) (inline_step S text_of) (element_step S text_of) (arguments_step S text_of) (named_step S text_of) (pattern_step S text_of) (variant_step S text_of) (o.MessageReference i a)

  pub inline_view-TermReference : (i : Identifier S) (a : _) (c : Option (CallArguments S)) → inline_view S text_of (TermReference i a c) ≡ t.term_reference (name_of S text_of i) (option_map (name_of S text_of) a) (maybe_arguments (option_map (arguments_view S text_of) c))
  inline_view-TermReference i a None =
      ap (inline_view S text_of) (sym (rolls-TermReference i a None))
      ∙ fold-roll-InlineExpression S _ _ _ _ _ _ _ (expression_step S text_of) (inline_step S text_of) (element_step S text_of) (arguments_step S text_of) (named_step S text_of) (pattern_step S text_of) (variant_step S text_of) (o.TermReference i a None)
  inline_view-TermReference i a (Some c) =
      ap (inline_view S text_of) (sym (rolls-TermReference i a (Some c)))
      ∙ fold-roll-InlineExpression S _ _ _ _ _ _ _ (expression_step S text_of) (inline_step S text_of) (element_step S text_of) (arguments_step S text_of) (named_step S text_of) (pattern_step S text_of) (variant_step S text_of) (o.TermReference i a (Some c))

  pub inline_view-VariableReference : (i : Identifier S) → inline_view S text_of (VariableReference i) ≡ t.variable_reference (name_of S text_of i)
  inline_view-VariableReference i =
      ap (inline_view S text_of) (sym (rolls-VariableReference i))
      ∙ fold-roll-InlineExpression S _ _ _ _ _ _ _ (expression_step S text_of) (inline_step S text_of) (element_step S text_of) (arguments_step S text_of) (named_step S text_of) (pattern_step S text_of) (variant_step S text_of) (o.VariableReference i)

  pub inline_view-Placeable : (b : _) → inline_view S text_of (Nested b) ≡ t.nested (expression_view S text_of b.value)
  inline_view-Placeable b =
      ap (inline_view S text_of) (sym (rolls-Nested b))
      ∙ fold-roll-InlineExpression S _ _ _ _ _ _ _ (expression_step S text_of) (inline_step S text_of) (element_step S text_of) (arguments_step S text_of) (named_step S text_of) (pattern_step S text_of) (variant_step S text_of) (o.InlineExpression::Placeable b)

  pub element_view-TextElement : (s : S) → element_view S text_of (TextElement s) ≡ text (text_of s)
  element_view-TextElement s =
      ap (element_view S text_of) (sym (rolls-TextElement s))
      ∙ fold-roll-PatternElement S _ _ _ _ _ _ _ (expression_step S text_of) (inline_step S text_of) (element_step S text_of) (arguments_step S text_of) (named_step S text_of) (pattern_step S text_of) (variant_step S text_of) (o.TextElement s)

  pub element_view-Placeable : (e : Expression S) → element_view S text_of (Placeable e) ≡ placeable (expression_view S text_of e)
  element_view-Placeable e =
      ap (element_view S text_of) (sym (rolls-Placeable e))
      ∙ fold-roll-PatternElement S _ _ _ _ _ _ _ (expression_step S text_of) (inline_step S text_of) (element_step S text_of) (arguments_step S text_of) (named_step S text_of) (pattern_step S text_of) (variant_step S text_of) (o.PatternElement::Placeable e)

  pub pattern_view-out : (x : Pattern S) → pattern_view S text_of x ≡ elements_of (map (element_view S text_of) (out-Pattern S x).elements.items)
  pattern_view-out x = fold_out-Pattern S _ _ _ _ _ _ _ (expression_step S text_of) (inline_step S text_of) (element_step S text_of) (arguments_step S text_of) (named_step S text_of) (pattern_step S text_of) (variant_step S text_of) x

  pub pattern_view-roll : (x : _) → pattern_view S text_of (roll-Pattern S x) ≡ elements_of (map (element_view S text_of) x.elements.items)
  pattern_view-roll x = fold-roll-Pattern S _ _ _ _ _ _ _ (expression_step S text_of) (inline_step S text_of) (element_step S text_of) (arguments_step S text_of) (named_step S text_of) (pattern_step S text_of) (variant_step S text_of) x

  pub arguments_view-out : (x : CallArguments S) → arguments_view S text_of x ≡ t.arguments (inlines_of (map (inline_view S text_of) (out-CallArguments S x).positional.items)) (nameds_of (map (named_view S text_of) (out-CallArguments S x).named.items))
  arguments_view-out x = fold_out-CallArguments S _ _ _ _ _ _ _ (expression_step S text_of) (inline_step S text_of) (element_step S text_of) (arguments_step S text_of) (named_step S text_of) (pattern_step S text_of) (variant_step S text_of) x

  pub arguments_view-roll : (x : _) → arguments_view S text_of (roll-CallArguments S x) ≡ t.arguments (inlines_of (map (inline_view S text_of) x.positional.items)) (nameds_of (map (named_view S text_of) x.named.items))
  arguments_view-roll x = fold-roll-CallArguments S _ _ _ _ _ _ _ (expression_step S text_of) (inline_step S text_of) (element_step S text_of) (arguments_step S text_of) (named_step S text_of) (pattern_step S text_of) (variant_step S text_of) x

  pub named_view-out : (x : NamedArgument S) → named_view S text_of x ≡ record { name = name_of S text_of (out-NamedArgument S x).name; value = inline_view S text_of (out-NamedArgument S x).value }
  named_view-out x = fold_out-NamedArgument S _ _ _ _ _ _ _ (expression_step S text_of) (inline_step S text_of) (element_step S text_of) (arguments_step S text_of) (named_step S text_of) (pattern_step S text_of) (variant_step S text_of) x

  pub named_view-roll : (x : _) → named_view S text_of (roll-NamedArgument S x) ≡ record { name = name_of S text_of x.name; value = inline_view S text_of x.value }
  named_view-roll x = fold-roll-NamedArgument S _ _ _ _ _ _ _ (expression_step S text_of) (inline_step S text_of) (element_step S text_of) (arguments_step S text_of) (named_step S text_of) (pattern_step S text_of) (variant_step S text_of) x

  pub variant_view-out : (x : Variant S) → variant_view S text_of x ≡ record { key = key_of S text_of (out-Variant S x).key; value = pattern_view S text_of (out-Variant S x).value; default = (out-Variant S x).default }
  variant_view-out x = fold_out-Variant S _ _ _ _ _ _ _ (expression_step S text_of) (inline_step S text_of) (element_step S text_of) (arguments_step S text_of) (named_step S text_of) (pattern_step S text_of) (variant_step S text_of) x

  -- two calls of one name with arguments that are equal as plain data
  pub inline_view-FunctionReference_same : (i j : Identifier S) (a b : CallArguments S) → name_of S text_of i ≡ name_of S text_of j → arguments_view S text_of a ≡ arguments_view S text_of b → inline_view S text_of (FunctionReference i a) ≡ inline_view S text_of (FunctionReference j b)
  inline_view-FunctionReference_same i j a b names arguments =
      inline_view-FunctionReference i a
      ∙ ap (λ n. t.function_reference n (arguments_view S text_of a)) names
      ∙ ap (t.function_reference (name_of S text_of j)) arguments
      ∙ sym (inline_view-FunctionReference j b)

  pub variant_view-roll : (x : _) → variant_view S text_of (roll-Variant S x) ≡ record { key = key_of S text_of x.key; value = pattern_view S text_of x.value; default = x.default }
  variant_view-roll x = fold-roll-Variant S _ _ _ _ _ _ _ (expression_step S text_of) (inline_step S text_of) (element_step S text_of) (arguments_step S text_of) (named_step S text_of) (pattern_step S text_of) (variant_step S text_of) x

  -- two texts with the same bytes, as elements
  pub element_view-TextElement_same : (s r : S) → text_of s ≡ text_of r → element_view S text_of (TextElement s) ≡ element_view S text_of (TextElement r)
  element_view-TextElement_same s r texts = element_view-TextElement s ∙ ap text texts ∙ sym (element_view-TextElement r)

  -- two choices with selectors and variants that are equal as plain data
  pub expression_view-Select_same : (s r : InlineExpression S) (vs ws : Vec (Variant S) Global) → inline_view S text_of s ≡ inline_view S text_of r → map (variant_view S text_of) vs.items ≡ map (variant_view S text_of) ws.items → expression_view S text_of (Select s vs) ≡ expression_view S text_of (Select r ws)
  expression_view-Select_same s r vs ws selectors variants =
      expression_view-Select s vs
      ∙ ap (λ e. t.select e (variants_of (map (variant_view S text_of) vs.items))) selectors
      ∙ ap (λ l. t.select (inline_view S text_of r) (variants_of l)) variants
      ∙ sym (expression_view-Select r ws)

  -- two references to one message and one attribute
  pub inline_view-MessageReference_same : (i j : Identifier S) (a b : Option (Identifier S)) → name_of S text_of i ≡ name_of S text_of j → option_map (name_of S text_of) a ≡ option_map (name_of S text_of) b → inline_view S text_of (MessageReference i a) ≡ inline_view S text_of (MessageReference j b)
  inline_view-MessageReference_same i j a b names attributes =
      inline_view-MessageReference i a
      ∙ ap (λ n. t.message_reference n (option_map (name_of S text_of) a)) names
      ∙ ap (t.message_reference (name_of S text_of j)) attributes
      ∙ sym (inline_view-MessageReference j b)

  -- arguments whose lists are equal as plain data
  pub arguments_view_same : (ps : Vec (InlineExpression S) Global) (ns : Vec (NamedArgument S) Global) (y : CallArguments S) → map (inline_view S text_of) ps.items ≡ map (inline_view S text_of) (out-CallArguments S y).positional.items → map (named_view S text_of) ns.items ≡ map (named_view S text_of) (out-CallArguments S y).named.items → arguments_view S text_of (roll-CallArguments S (record { positional = ps; named = ns })) ≡ arguments_view S text_of y
  arguments_view_same ps ns y positional named =
      arguments_view-roll (record { positional = ps; named = ns })
      ∙ ap (λ l. t.arguments (inlines_of l) (nameds_of (map (named_view S text_of) ns.items))) positional
      ∙ ap (λ l. t.arguments (inlines_of (map (inline_view S text_of) (out-CallArguments S y).positional.items)) (nameds_of l)) named
      ∙ sym (arguments_view-out y)

  -- a named argument whose name and value are equal as plain data
  pub named_view_same : (i : Identifier S) (e : InlineExpression S) (y : NamedArgument S) → name_of S text_of i ≡ name_of S text_of (out-NamedArgument S y).name → inline_view S text_of e ≡ inline_view S text_of (out-NamedArgument S y).value → named_view S text_of (roll-NamedArgument S (record { name = i; value = e })) ≡ named_view S text_of y
  named_view_same i e y names values = cc (named_view-roll (record { name = i; value = e }), named_view-out y, names, values)

  -- a variant whose parts are equal as plain data
  pub variant_view_same : (k : VariantKey S) (p : Pattern S) (d : Bool) (y : Variant S) → key_of S text_of k ≡ key_of S text_of (out-Variant S y).key → pattern_view S text_of p ≡ pattern_view S text_of (out-Variant S y).value → d ≡ (out-Variant S y).default → variant_view S text_of (roll-Variant S (record { key = k; value = p; default = d })) ≡ variant_view S text_of y
  variant_view_same k p d y keys values defaults = cc (variant_view-roll (record { key = k; value = p; default = d }), variant_view-out y, keys, values, defaults)

  -- a message whose parts are equal as plain data
  pub message_view_same : (x y : Message S) → name_of S text_of x.id ≡ name_of S text_of y.id → option_map (pattern_view S text_of) x.value ≡ option_map (pattern_view S text_of) y.value → map (attribute_view S text_of) x.attributes.items ≡ map (attribute_view S text_of) y.attributes.items → option_map (comment_view S text_of) x.comment ≡ option_map (comment_view S text_of) y.comment → message_view S text_of x ≡ message_view S text_of y
  message_view_same x y ids values attributes comments = cc (ids, values, attributes, comments)

  -- a term whose parts are equal as plain data
  pub term_view_same : (x y : Term S) → name_of S text_of x.id ≡ name_of S text_of y.id → pattern_view S text_of x.value ≡ pattern_view S text_of y.value → map (attribute_view S text_of) x.attributes.items ≡ map (attribute_view S text_of) y.attributes.items → option_map (comment_view S text_of) x.comment ≡ option_map (comment_view S text_of) y.comment → term_view S text_of x ≡ term_view S text_of y
  term_view_same x y ids values attributes comments = cc (ids, values, attributes, comments)
