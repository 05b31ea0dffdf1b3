-- Equality of trees, as it is derived, is equality of plain trees.
use Rattle.std.proofs.Common.{◌≡◌, ℕ, Bool, true, false, List, [], ◌∷◌, Option, None, Some, option_map, map, refl, ap, sym, subst, ◌∙◌, nat_eq, inl, inr, Decides, Vec, Box, Global}
use Rattle.std.specs.Prelude.{◌&&◌}
use Rattle.std.specs.Cmp.Lexicographic.{pointwise, same_text}
use Rattle.std.proofs.lemmas.Bool.{false≢true}
use Rattle.std.proofs.lemmas.Bool.Decides.{Decides-and}
use Rattle.std.specs.declared.cmp.PartialEq
use Rattle.std.specs.contracts.cmp.PartialEq.TheBound
use Rattle.std.specs.contracts.prelude.OptionPartialEq.TheImpl as option_impl
use denote.RattleType.{RattleType}
use denote.Hole.Compared.{compared_is}
use mir.Syntax as syntax
use mir.Syntax.{Dict}
use Rattle.fluent_grammar.specs.Tree as t
use Rattle.fluent_ast.specs.declared.Expression.TheBlock as b
use Rattle.fluent_ast.specs.declared.Expression.{Expression, roll-Expression, map-Expression, ind-Expression}
use Rattle.fluent_ast.specs.declared.Expression.TheOpen as o
use Rattle.fluent_ast.specs.declared.Expression.TheVariants.{Select, Inline, rolls-Select, rolls-Inline}
use Rattle.fluent_ast.specs.declared.InlineExpression.{InlineExpression, roll-InlineExpression, map-InlineExpression, ind-InlineExpression}
use Rattle.fluent_ast.specs.declared.InlineExpression.TheVariants.{StringLiteral, NumberLiteral, FunctionReference, MessageReference, TermReference, VariableReference, Placeable as Nested, rolls-StringLiteral, rolls-NumberLiteral, rolls-FunctionReference, rolls-MessageReference, rolls-TermReference, rolls-VariableReference, rolls-Placeable as rolls-Nested}
use Rattle.fluent_ast.specs.declared.PatternElement.{PatternElement, roll-PatternElement, map-PatternElement, ind-PatternElement}
use Rattle.fluent_ast.specs.declared.PatternElement.TheVariants.{TextElement, Placeable, rolls-TextElement, rolls-Placeable}
use Rattle.fluent_ast.specs.declared.CallArguments.{CallArguments, out-CallArguments, roll-CallArguments, out-roll-CallArguments, map-CallArguments, ind-CallArguments}
use Rattle.fluent_ast.specs.declared.NamedArgument.{NamedArgument, out-NamedArgument, roll-NamedArgument, map-NamedArgument, ind-NamedArgument}
use Rattle.fluent_ast.specs.declared.Pattern.{Pattern, out-Pattern, roll-Pattern, map-Pattern, ind-Pattern}
use Rattle.fluent_ast.specs.declared.Variant.{Variant, out-Variant, roll-Variant, map-Variant, ind-Variant}
use Rattle.fluent_ast.specs.declared.Identifier.{Identifier}
use Rattle.fluent_ast.specs.contracts.Identifier as identifier
use Rattle.fluent_ast.specs.contracts.IdentifierPartialEq.TheImpl as identifier_impl
use Rattle.fluent_ast.specs.contracts.VariantKeyPartialEq.TheImpl as key_impl
use Rattle.fluent_ast.specs.declared.VariantKey.{VariantKey}
use Rattle.fluent_ast.specs.declared.VariantKey.TheVariants as key
use Rattle.std.specs.contracts.prelude.BoolPartialEq.TheImpl as bool_impl
use Rattle.std.proofs.lemmas.Cmp.{nat_list_eq_equiv}
use Rattle.fluent_ast.specs.View as v
use Rattle.fluent_ast.specs.View.{elements_of, variants_of, inlines_of, nameds_of, maybe_arguments}
use Rattle.fluent_ast.specs.contracts.CallArguments as arguments_type
use Rattle.fluent_ast.specs.contracts.Expression as expression
use Rattle.fluent_ast.specs.contracts.InlineExpression as inline
use Rattle.fluent_ast.specs.contracts.PatternElement as element
use Rattle.fluent_ast.specs.contracts.PatternPartialEq.TheImpl as impl
use Rattle.fluent_ast.specs.contracts.PatternPartialEq.TheImpl.Laws as laws
use Rattle.fluent_ast.specs.View.{pattern_view, element_view, expression_view, inline_view, variant_view, arguments_view, named_view, key_of, name_of, Element, text, placeable}
use Rattle.fluent_ast.proofs.Views.{expression_view-Select, expression_view-Inline, inline_view-StringLiteral, inline_view-NumberLiteral, inline_view-FunctionReference, inline_view-MessageReference, inline_view-TermReference, inline_view-VariableReference, inline_view-Placeable, element_view-TextElement, element_view-Placeable, pattern_view-out, arguments_view-out, named_view-out, variant_view-out}

-- a test that fails decides what can't be
pub apart : {P : Type 0} (b : Bool) → b ≡ false → (P → ⊥) → Decides b P
apart b fails never = (λ holds. absurd (false≢true (sym fails ∙ holds)), λ p. absurd (never p))

-- what a test decides, under another name of the test and of the fact
pub renamed : {P Q : Type 0} (a b : Bool) → a ≡ b → (P → Q) → (Q → P) → Decides b P → Decides a Q
renamed a b is to from decides = (λ holds. to (decides.0 (sym is ∙ holds)), λ q. is ∙ decides.1 (from q))

text_decides : (s r : List ℕ) → Decides (pointwise nat_eq s r) (s ≡ r)
text_decides s r = (λ holds. same_text s r (sym holds), λ p. subst (λ x. pointwise nat_eq s x ≡ true) p (nat_list_eq_equiv.refl s))

bool_decides : (x y : Bool) → Decides (bool_impl.ghosts.eq x y) (x ≡ y)
bool_decides true true = (λ _. refl, λ _. refl)
bool_decides true false = apart _ refl (λ h. cc)
bool_decides false true = apart _ refl (λ h. cc)
bool_decides false false = (λ _. refl, λ _. refl)

-- a fact about what is seen of two values, by what the views say of them
seen : {V : Type 0} (x x' y y' : V) (b : Bool) → x ≡ x' → y ≡ y' → Decides b (x' ≡ y') → Decides b (x ≡ y)
seen x x' y y' b ex ey = renamed b b refl (λ p. ex ∙ p ∙ sym ey) (λ h. sym ex ∙ h ∙ ey)

-- two lists, of which the first has for each element what its test decides
pointwise_decides : {A V : Type 0} (test : A → A → Bool) (view : A → V) (xs : List ((x : A) × ((y : A) → Decides (test x y) (view x ≡ view y)))) (ys : List A) → Decides (pointwise test (map (λ e. e.0) xs) ys) (map view (map (λ e. e.0) xs) ≡ map view ys)
pointwise_decides test view [] [] = (λ _. refl, λ _. refl)
pointwise_decides test view [] (y ∷ ys) = apart _ refl (λ h. cc)
pointwise_decides test view (x ∷ xs) [] = apart _ refl (λ h. cc)
pointwise_decides test view (x ∷ xs) (y ∷ ys) =
    renamed _ _ refl (λ p. let head = p.0 in let tail = p.1 in cc) (λ h. (cc, cc)) (Decides-and _ _ (x.1 y) (pointwise_decides test view xs ys))

elements_of-injective : (es fs : List Element) → elements_of es ≡ elements_of fs → es ≡ fs
elements_of-injective [] [] h = refl
elements_of-injective [] (text s ∷ fs) h = cc
elements_of-injective [] (placeable e ∷ fs) h = cc
elements_of-injective (text s ∷ es) [] h = cc
elements_of-injective (placeable e ∷ es) [] h = cc
elements_of-injective (text s ∷ es) (placeable e ∷ fs) h = cc
elements_of-injective (placeable e ∷ es) (text s ∷ fs) h = cc
elements_of-injective (text s ∷ es) (text r ∷ fs) h =
    let first : s ≡ r = cc in
    let more = elements_of-injective es fs (cc) in
    cc
elements_of-injective (placeable d ∷ es) (placeable e ∷ fs) h =
    let first : d ≡ e = cc in
    let more = elements_of-injective es fs (cc) in
    cc

variants_of-injective : (vs ws : List v.Variant) → variants_of vs ≡ variants_of ws → vs ≡ ws
variants_of-injective [] [] h = refl
variants_of-injective [] (w ∷ ws) h = cc
variants_of-injective (u ∷ vs) [] h = cc
variants_of-injective (u ∷ vs) (w ∷ ws) h =
    let key : u.key ≡ w.key = cc in
    let value : u.value ≡ w.value = cc in
    let default : u.default ≡ w.default = cc in
    let more = variants_of-injective vs ws (cc) in
    let first : u ≡ w = λ i. record { key = key i; value = value i; default = default i } in
    cc

inlines_of-injective : (es fs : List t.Inline) → inlines_of es ≡ inlines_of fs → es ≡ fs
inlines_of-injective [] [] h = refl
inlines_of-injective [] (f ∷ fs) h = cc
inlines_of-injective (e ∷ es) [] h = cc
inlines_of-injective (e ∷ es) (f ∷ fs) h =
    let first : e ≡ f = cc in
    let more = inlines_of-injective es fs (cc) in
    cc

nameds_of-injective : (ns ms : List v.Named) → nameds_of ns ≡ nameds_of ms → ns ≡ ms
nameds_of-injective [] [] h = refl
nameds_of-injective [] (m ∷ ms) h = cc
nameds_of-injective (n ∷ ns) [] h = cc
nameds_of-injective (n ∷ ns) (m ∷ ms) h =
    let name : n.name ≡ m.name = cc in
    let value : n.value ≡ m.value = cc in
    let more = nameds_of-injective ns ms (cc) in
    let first : n ≡ m = λ i. record { name = name i; value = value i } in
    cc

maybe_arguments-injective : (a c : Option t.Arguments) → maybe_arguments a ≡ maybe_arguments c → a ≡ c
maybe_arguments-injective None None h = refl
maybe_arguments-injective None (Some c) h = cc
maybe_arguments-injective (Some a) None h = cc
maybe_arguments-injective (Some a) (Some c) h = cc

module _ (T : RattleType) (E : PartialEq.Ghosts T.Denot) (dict : Dict) (lawful : TheBound.Lawful T E dict) (text_of : T.Denot → List ℕ) (leaf : (x y : T.Denot) → E.eq x y ≡ pointwise nat_eq (text_of x) (text_of y)) where
  abbrev same_expression : Expression T.Denot → Expression T.Denot → Bool
  same_expression = laws.family T E dict lawful b.member-Expression

  expression_is : (d e : Expression T.Denot) → same_expression d e ≡ impl.the_step T E dict (laws.family T E dict lawful) b.member-Expression d e
  expression_is = compared_is _ _ _ _ true (impl.the_step T E dict) (laws.local T E dict lawful) b.member-Expression

  -- what `==` on it decides
  abbrev Tells-expression : Expression T.Denot → Type 0
  Tells-expression x = (y : Expression T.Denot) → Decides (same_expression x y) (expression_view T.Denot text_of x ≡ expression_view T.Denot text_of y)

  abbrev same_inline : InlineExpression T.Denot → InlineExpression T.Denot → Bool
  same_inline = laws.family T E dict lawful b.member-InlineExpression

  inline_is : (d e : InlineExpression T.Denot) → same_inline d e ≡ impl.the_step T E dict (laws.family T E dict lawful) b.member-InlineExpression d e
  inline_is = compared_is _ _ _ _ true (impl.the_step T E dict) (laws.local T E dict lawful) b.member-InlineExpression

  -- what `==` on it decides
  abbrev Tells-inline : InlineExpression T.Denot → Type 0
  Tells-inline x = (y : InlineExpression T.Denot) → Decides (same_inline x y) (inline_view T.Denot text_of x ≡ inline_view T.Denot text_of y)

  abbrev same_element : PatternElement T.Denot → PatternElement T.Denot → Bool
  same_element = laws.family T E dict lawful b.member-PatternElement

  element_is : (d e : PatternElement T.Denot) → same_element d e ≡ impl.the_step T E dict (laws.family T E dict lawful) b.member-PatternElement d e
  element_is = compared_is _ _ _ _ true (impl.the_step T E dict) (laws.local T E dict lawful) b.member-PatternElement

  -- what `==` on it decides
  abbrev Tells-element : PatternElement T.Denot → Type 0
  Tells-element x = (y : PatternElement T.Denot) → Decides (same_element x y) (element_view T.Denot text_of x ≡ element_view T.Denot text_of y)

  abbrev same_arguments : CallArguments T.Denot → CallArguments T.Denot → Bool
  same_arguments = laws.family T E dict lawful b.member-CallArguments

  arguments_is : (d e : CallArguments T.Denot) → same_arguments d e ≡ impl.the_step T E dict (laws.family T E dict lawful) b.member-CallArguments d e
  arguments_is = compared_is _ _ _ _ true (impl.the_step T E dict) (laws.local T E dict lawful) b.member-CallArguments

  -- what `==` on it decides
  abbrev Tells-arguments : CallArguments T.Denot → Type 0
  Tells-arguments x = (y : CallArguments T.Denot) → Decides (same_arguments x y) (arguments_view T.Denot text_of x ≡ arguments_view T.Denot text_of y)

  abbrev same_named : NamedArgument T.Denot → NamedArgument T.Denot → Bool
  same_named = laws.family T E dict lawful b.member-NamedArgument

  named_is : (d e : NamedArgument T.Denot) → same_named d e ≡ impl.the_step T E dict (laws.family T E dict lawful) b.member-NamedArgument d e
  named_is = compared_is _ _ _ _ true (impl.the_step T E dict) (laws.local T E dict lawful) b.member-NamedArgument

  -- what `==` on it decides
  abbrev Tells-named : NamedArgument T.Denot → Type 0
  Tells-named x = (y : NamedArgument T.Denot) → Decides (same_named x y) (named_view T.Denot text_of x ≡ named_view T.Denot text_of y)

  abbrev same_pattern : Pattern T.Denot → Pattern T.Denot → Bool
  same_pattern = laws.family T E dict lawful b.member-Pattern

  pattern_is : (d e : Pattern T.Denot) → same_pattern d e ≡ impl.the_step T E dict (laws.family T E dict lawful) b.member-Pattern d e
  pattern_is = compared_is _ _ _ _ true (impl.the_step T E dict) (laws.local T E dict lawful) b.member-Pattern

  -- what `==` on it decides
  abbrev Tells-pattern : Pattern T.Denot → Type 0
  Tells-pattern x = (y : Pattern T.Denot) → Decides (same_pattern x y) (pattern_view T.Denot text_of x ≡ pattern_view T.Denot text_of y)

  abbrev same_variant : Variant T.Denot → Variant T.Denot → Bool
  same_variant = laws.family T E dict lawful b.member-Variant

  variant_is : (d e : Variant T.Denot) → same_variant d e ≡ impl.the_step T E dict (laws.family T E dict lawful) b.member-Variant d e
  variant_is = compared_is _ _ _ _ true (impl.the_step T E dict) (laws.local T E dict lawful) b.member-Variant

  -- what `==` on it decides
  abbrev Tells-variant : Variant T.Denot → Type 0
  Tells-variant x = (y : Variant T.Denot) → Decides (same_variant x y) (variant_view T.Denot text_of x ≡ variant_view T.Denot text_of y)

  pub leaf_decides : (x y : T.Denot) → Decides (E.eq x y) (text_of x ≡ text_of y)
  leaf_decides x y = renamed _ _ (leaf x y) (λ p. p) (λ p. p) (text_decides (text_of x) (text_of y))

  abbrev same_name : Identifier T.Denot → Identifier T.Denot → Bool
  same_name i j = E.eq i.name j.name

  pub name_decides : (i j : Identifier T.Denot) → Decides (same_name i j) (name_of T.Denot text_of i ≡ name_of T.Denot text_of j)
  name_decides i j = leaf_decides i.name j.name

  abbrev same_accessor : Option (Identifier T.Denot) → Option (Identifier T.Denot) → Bool
  same_accessor = (option_impl.ghosts (identifier.the_row T) (identifier_impl.ghosts T E dict) (identifier_impl.dict T E dict)).eq

  accessor_decides : (x y : Option (Identifier T.Denot)) → Decides (same_accessor x y) (option_map (name_of T.Denot text_of) x ≡ option_map (name_of T.Denot text_of) y)
  accessor_decides None None = (λ _. refl, λ _. refl)
  accessor_decides None (Some j) = apart _ refl (λ h. cc)
  accessor_decides (Some i) None = apart _ refl (λ h. cc)
  accessor_decides (Some i) (Some j) = renamed _ _ refl (λ p. cc) (λ h. cc) (name_decides i j)

  abbrev same_maybe : Option (CallArguments T.Denot) → Option (CallArguments T.Denot) → Bool
  same_maybe = (option_impl.ghosts (arguments_type.the_row T) (record { eq = same_arguments }) (syntax.impl [] syntax.tnil syntax.dnil)).eq

  pub key_decides : (x y : VariantKey T.Denot) → Decides ((key_impl.ghosts T E dict).eq x y) (key_of T.Denot text_of x ≡ key_of T.Denot text_of y)
  key_decides (key.Identifier s) (key.Identifier r) = renamed _ _ refl (λ p. cc) (λ h. cc) (leaf_decides s r)
  key_decides (key.Identifier s) (key.NumberLiteral r) = apart _ refl (λ h. cc)
  key_decides (key.NumberLiteral s) (key.Identifier r) = apart _ refl (λ h. cc)
  key_decides (key.NumberLiteral s) (key.NumberLiteral r) = renamed _ _ refl (λ p. cc) (λ h. cc) (leaf_decides s r)

  at_expression : (P : Expression T.Denot → Type 0) → ((s : _) (us : _) → P (Select s us)) → ((i : _) → P (Inline i)) → (c : _) → P (expression.the_make T c)
  at_expression P p0 p1 (inl w) = p0 w.0 w.1.0
  at_expression P p0 p1 (inr (inl w)) = p1 w.0
  at_expression P p0 p1 (inr (inr z)) = absurd z

  by_expression : (P : Expression T.Denot → Type 0) → ((s : _) (us : _) → P (Select s us)) → ((i : _) → P (Inline i)) → (y : Expression T.Denot) → P y
  by_expression P p0 p1 y = subst P (expression.the_eta T y) (at_expression P p0 p1 (expression.as_values T y))

  at_inline : (P : InlineExpression T.Denot → Type 0) → ((s : _) → P (StringLiteral s)) → ((s : _) → P (NumberLiteral s)) → ((i : _) (a : _) → P (FunctionReference i a)) → ((i : _) (m : _) → P (MessageReference i m)) → ((i : _) (m : _) (c : _) → P (TermReference i m c)) → ((i : _) → P (VariableReference i)) → ((x : _) → P (Nested x)) → (c : _) → P (inline.the_make T c)
  at_inline P p0 p1 p2 p3 p4 p5 p6 (inl w) = p0 w.0
  at_inline P p0 p1 p2 p3 p4 p5 p6 (inr (inl w)) = p1 w.0
  at_inline P p0 p1 p2 p3 p4 p5 p6 (inr (inr (inl w))) = p2 w.0 w.1.0
  at_inline P p0 p1 p2 p3 p4 p5 p6 (inr (inr (inr (inl w)))) = p3 w.0 w.1.0
  at_inline P p0 p1 p2 p3 p4 p5 p6 (inr (inr (inr (inr (inl w))))) = p4 w.0 w.1.0 w.1.1.0
  at_inline P p0 p1 p2 p3 p4 p5 p6 (inr (inr (inr (inr (inr (inl w)))))) = p5 w.0
  at_inline P p0 p1 p2 p3 p4 p5 p6 (inr (inr (inr (inr (inr (inr (inl w))))))) = p6 w.0
  at_inline P p0 p1 p2 p3 p4 p5 p6 (inr (inr (inr (inr (inr (inr (inr z))))))) = absurd z

  by_inline : (P : InlineExpression T.Denot → Type 0) → ((s : _) → P (StringLiteral s)) → ((s : _) → P (NumberLiteral s)) → ((i : _) (a : _) → P (FunctionReference i a)) → ((i : _) (m : _) → P (MessageReference i m)) → ((i : _) (m : _) (c : _) → P (TermReference i m c)) → ((i : _) → P (VariableReference i)) → ((x : _) → P (Nested x)) → (y : InlineExpression T.Denot) → P y
  by_inline P p0 p1 p2 p3 p4 p5 p6 y = subst P (inline.the_eta T y) (at_inline P p0 p1 p2 p3 p4 p5 p6 (inline.as_values T y))

  at_element : (P : PatternElement T.Denot → Type 0) → ((s : _) → P (TextElement s)) → ((e : _) → P (Placeable e)) → (c : _) → P (element.the_make T c)
  at_element P p0 p1 (inl w) = p0 w.0
  at_element P p0 p1 (inr (inl w)) = p1 w.0
  at_element P p0 p1 (inr (inr z)) = absurd z

  by_element : (P : PatternElement T.Denot → Type 0) → ((s : _) → P (TextElement s)) → ((e : _) → P (Placeable e)) → (y : PatternElement T.Denot) → P y
  by_element P p0 p1 y = subst P (element.the_eta T y) (at_element P p0 p1 (element.as_values T y))

  tells-Select : (s : _) (us : Vec (Variant T.Denot) Global) → (Tells-inline s) → ((ys : List (Variant T.Denot)) → Decides (pointwise same_variant us.items ys) (map (variant_view T.Denot text_of) us.items ≡ map (variant_view T.Denot text_of) ys)) → Tells-expression (Select s us)
  tells-Select s us hs hus = by_expression (λ y. Decides (same_expression (Select s us) y) (expression_view T.Denot text_of (Select s us) ≡ expression_view T.Denot text_of y))
      (λ s' us'. seen _ _ _ _ _ (expression_view-Select T.Denot text_of s us) (expression_view-Select T.Denot text_of s' us') (renamed _ (same_inline s s' && pointwise same_variant us.items us'.items) (expression_is (Select s us) (Select s' us') ∙ rw (expression.the_beta T (inl (s, (us, tt))), expression.the_beta T (inl (s', (us', tt)))) refl) (λ p. let first = p.0 in let more = ap variants_of p.1 in cc) (λ h. (cc, variants_of-injective _ _ (cc))) (Decides-and _ _ (hs s') (hus us'.items))))
      (λ i'. seen _ _ _ _ _ (expression_view-Select T.Denot text_of s us) (expression_view-Inline T.Denot text_of i') (apart _ (expression_is (Select s us) (Inline i') ∙ rw (expression.the_beta T (inl (s, (us, tt))), expression.the_beta T (inr (inl (i', tt)))) refl) (λ h. cc)))

  tells-Inline : (i : _) → (Tells-inline i) → Tells-expression (Inline i)
  tells-Inline i hi = by_expression (λ y. Decides (same_expression (Inline i) y) (expression_view T.Denot text_of (Inline i) ≡ expression_view T.Denot text_of y))
      (λ s' us'. seen _ _ _ _ _ (expression_view-Inline T.Denot text_of i) (expression_view-Select T.Denot text_of s' us') (apart _ (expression_is (Inline i) (Select s' us') ∙ rw (expression.the_beta T (inr (inl (i, tt))), expression.the_beta T (inl (s', (us', tt)))) refl) (λ h. cc)))
      (λ i'. seen _ _ _ _ _ (expression_view-Inline T.Denot text_of i) (expression_view-Inline T.Denot text_of i') (renamed _ (same_inline i i') (expression_is (Inline i) (Inline i') ∙ rw (expression.the_beta T (inr (inl (i, tt))), expression.the_beta T (inr (inl (i', tt)))) refl) (λ p. cc) (λ h. cc) (hi i')))

  tells-StringLiteral : (s : _) → Tells-inline (StringLiteral s)
  tells-StringLiteral s = by_inline (λ y. Decides (same_inline (StringLiteral s) y) (inline_view T.Denot text_of (StringLiteral s) ≡ inline_view T.Denot text_of y))
      (λ s'. seen _ _ _ _ _ (inline_view-StringLiteral T.Denot text_of s) (inline_view-StringLiteral T.Denot text_of s') (renamed _ (E.eq s s') (inline_is (StringLiteral s) (StringLiteral s') ∙ rw (inline.the_beta T (inl (s, tt)), inline.the_beta T (inl (s', tt))) refl) (λ p. cc) (λ h. cc) (leaf_decides s s')))
      (λ s'. seen _ _ _ _ _ (inline_view-StringLiteral T.Denot text_of s) (inline_view-NumberLiteral T.Denot text_of s') (apart _ (inline_is (StringLiteral s) (NumberLiteral s') ∙ rw (inline.the_beta T (inl (s, tt)), inline.the_beta T (inr (inl (s', tt)))) refl) (λ h. cc)))
      (λ i' a'. seen _ _ _ _ _ (inline_view-StringLiteral T.Denot text_of s) (inline_view-FunctionReference T.Denot text_of i' a') (apart _ (inline_is (StringLiteral s) (FunctionReference i' a') ∙ rw (inline.the_beta T (inl (s, tt)), inline.the_beta T (inr (inr (inl (i', (a', tt)))))) refl) (λ h. cc)))
      (λ i' m'. seen _ _ _ _ _ (inline_view-StringLiteral T.Denot text_of s) (inline_view-MessageReference T.Denot text_of i' m') (apart _ (inline_is (StringLiteral s) (MessageReference i' m') ∙ rw (inline.the_beta T (inl (s, tt)), inline.the_beta T (inr (inr (inr (inl (i', (m', tt))))))) refl) (λ h. cc)))
      (λ i' m' c'. seen _ _ _ _ _ (inline_view-StringLiteral T.Denot text_of s) (inline_view-TermReference T.Denot text_of i' m' c') (apart _ (inline_is (StringLiteral s) (TermReference i' m' c') ∙ rw (inline.the_beta T (inl (s, tt)), inline.the_beta T (inr (inr (inr (inr (inl (i', (m', (c', tt))))))))) refl) (λ h. cc)))
      (λ i'. seen _ _ _ _ _ (inline_view-StringLiteral T.Denot text_of s) (inline_view-VariableReference T.Denot text_of i') (apart _ (inline_is (StringLiteral s) (VariableReference i') ∙ rw (inline.the_beta T (inl (s, tt)), inline.the_beta T (inr (inr (inr (inr (inr (inl (i', tt)))))))) refl) (λ h. cc)))
      (λ x'. seen _ _ _ _ _ (inline_view-StringLiteral T.Denot text_of s) (inline_view-Placeable T.Denot text_of x') (apart _ (inline_is (StringLiteral s) (Nested x') ∙ rw (inline.the_beta T (inl (s, tt)), inline.the_beta T (inr (inr (inr (inr (inr (inr (inl (x', tt))))))))) refl) (λ h. cc)))

  tells-NumberLiteral : (s : _) → Tells-inline (NumberLiteral s)
  tells-NumberLiteral s = by_inline (λ y. Decides (same_inline (NumberLiteral s) y) (inline_view T.Denot text_of (NumberLiteral s) ≡ inline_view T.Denot text_of y))
      (λ s'. seen _ _ _ _ _ (inline_view-NumberLiteral T.Denot text_of s) (inline_view-StringLiteral T.Denot text_of s') (apart _ (inline_is (NumberLiteral s) (StringLiteral s') ∙ rw (inline.the_beta T (inr (inl (s, tt))), inline.the_beta T (inl (s', tt))) refl) (λ h. cc)))
      (λ s'. seen _ _ _ _ _ (inline_view-NumberLiteral T.Denot text_of s) (inline_view-NumberLiteral T.Denot text_of s') (renamed _ (E.eq s s') (inline_is (NumberLiteral s) (NumberLiteral s') ∙ rw (inline.the_beta T (inr (inl (s, tt))), inline.the_beta T (inr (inl (s', tt)))) refl) (λ p. cc) (λ h. cc) (leaf_decides s s')))
      (λ i' a'. seen _ _ _ _ _ (inline_view-NumberLiteral T.Denot text_of s) (inline_view-FunctionReference T.Denot text_of i' a') (apart _ (inline_is (NumberLiteral s) (FunctionReference i' a') ∙ rw (inline.the_beta T (inr (inl (s, tt))), inline.the_beta T (inr (inr (inl (i', (a', tt)))))) refl) (λ h. cc)))
      (λ i' m'. seen _ _ _ _ _ (inline_view-NumberLiteral T.Denot text_of s) (inline_view-MessageReference T.Denot text_of i' m') (apart _ (inline_is (NumberLiteral s) (MessageReference i' m') ∙ rw (inline.the_beta T (inr (inl (s, tt))), inline.the_beta T (inr (inr (inr (inl (i', (m', tt))))))) refl) (λ h. cc)))
      (λ i' m' c'. seen _ _ _ _ _ (inline_view-NumberLiteral T.Denot text_of s) (inline_view-TermReference T.Denot text_of i' m' c') (apart _ (inline_is (NumberLiteral s) (TermReference i' m' c') ∙ rw (inline.the_beta T (inr (inl (s, tt))), inline.the_beta T (inr (inr (inr (inr (inl (i', (m', (c', tt))))))))) refl) (λ h. cc)))
      (λ i'. seen _ _ _ _ _ (inline_view-NumberLiteral T.Denot text_of s) (inline_view-VariableReference T.Denot text_of i') (apart _ (inline_is (NumberLiteral s) (VariableReference i') ∙ rw (inline.the_beta T (inr (inl (s, tt))), inline.the_beta T (inr (inr (inr (inr (inr (inl (i', tt)))))))) refl) (λ h. cc)))
      (λ x'. seen _ _ _ _ _ (inline_view-NumberLiteral T.Denot text_of s) (inline_view-Placeable T.Denot text_of x') (apart _ (inline_is (NumberLiteral s) (Nested x') ∙ rw (inline.the_beta T (inr (inl (s, tt))), inline.the_beta T (inr (inr (inr (inr (inr (inr (inl (x', tt))))))))) refl) (λ h. cc)))

  tells-FunctionReference : (i : _) (a : _) → (Tells-arguments a) → Tells-inline (FunctionReference i a)
  tells-FunctionReference i a ha = by_inline (λ y. Decides (same_inline (FunctionReference i a) y) (inline_view T.Denot text_of (FunctionReference i a) ≡ inline_view T.Denot text_of y))
      (λ s'. seen _ _ _ _ _ (inline_view-FunctionReference T.Denot text_of i a) (inline_view-StringLiteral T.Denot text_of s') (apart _ (inline_is (FunctionReference i a) (StringLiteral s') ∙ rw (inline.the_beta T (inr (inr (inl (i, (a, tt))))), inline.the_beta T (inl (s', tt))) refl) (λ h. cc)))
      (λ s'. seen _ _ _ _ _ (inline_view-FunctionReference T.Denot text_of i a) (inline_view-NumberLiteral T.Denot text_of s') (apart _ (inline_is (FunctionReference i a) (NumberLiteral s') ∙ rw (inline.the_beta T (inr (inr (inl (i, (a, tt))))), inline.the_beta T (inr (inl (s', tt)))) refl) (λ h. cc)))
      (λ i' a'. seen _ _ _ _ _ (inline_view-FunctionReference T.Denot text_of i a) (inline_view-FunctionReference T.Denot text_of i' a') (renamed _ (same_name i i' && same_arguments a a') (inline_is (FunctionReference i a) (FunctionReference i' a') ∙ rw (inline.the_beta T (inr (inr (inl (i, (a, tt))))), inline.the_beta T (inr (inr (inl (i', (a', tt)))))) refl) (λ p. let first = p.0 in let more = p.1 in cc) (λ h. (cc, cc)) (Decides-and _ _ (name_decides i i') (ha a'))))
      (λ i' m'. seen _ _ _ _ _ (inline_view-FunctionReference T.Denot text_of i a) (inline_view-MessageReference T.Denot text_of i' m') (apart _ (inline_is (FunctionReference i a) (MessageReference i' m') ∙ rw (inline.the_beta T (inr (inr (inl (i, (a, tt))))), inline.the_beta T (inr (inr (inr (inl (i', (m', tt))))))) refl) (λ h. cc)))
      (λ i' m' c'. seen _ _ _ _ _ (inline_view-FunctionReference T.Denot text_of i a) (inline_view-TermReference T.Denot text_of i' m' c') (apart _ (inline_is (FunctionReference i a) (TermReference i' m' c') ∙ rw (inline.the_beta T (inr (inr (inl (i, (a, tt))))), inline.the_beta T (inr (inr (inr (inr (inl (i', (m', (c', tt))))))))) refl) (λ h. cc)))
      (λ i'. seen _ _ _ _ _ (inline_view-FunctionReference T.Denot text_of i a) (inline_view-VariableReference T.Denot text_of i') (apart _ (inline_is (FunctionReference i a) (VariableReference i') ∙ rw (inline.the_beta T (inr (inr (inl (i, (a, tt))))), inline.the_beta T (inr (inr (inr (inr (inr (inl (i', tt)))))))) refl) (λ h. cc)))
      (λ x'. seen _ _ _ _ _ (inline_view-FunctionReference T.Denot text_of i a) (inline_view-Placeable T.Denot text_of x') (apart _ (inline_is (FunctionReference i a) (Nested x') ∙ rw (inline.the_beta T (inr (inr (inl (i, (a, tt))))), inline.the_beta T (inr (inr (inr (inr (inr (inr (inl (x', tt))))))))) refl) (λ h. cc)))

  tells-MessageReference : (i : _) (m : _) → Tells-inline (MessageReference i m)
  tells-MessageReference i m = by_inline (λ y. Decides (same_inline (MessageReference i m) y) (inline_view T.Denot text_of (MessageReference i m) ≡ inline_view T.Denot text_of y))
      (λ s'. seen _ _ _ _ _ (inline_view-MessageReference T.Denot text_of i m) (inline_view-StringLiteral T.Denot text_of s') (apart _ (inline_is (MessageReference i m) (StringLiteral s') ∙ rw (inline.the_beta T (inr (inr (inr (inl (i, (m, tt)))))), inline.the_beta T (inl (s', tt))) refl) (λ h. cc)))
      (λ s'. seen _ _ _ _ _ (inline_view-MessageReference T.Denot text_of i m) (inline_view-NumberLiteral T.Denot text_of s') (apart _ (inline_is (MessageReference i m) (NumberLiteral s') ∙ rw (inline.the_beta T (inr (inr (inr (inl (i, (m, tt)))))), inline.the_beta T (inr (inl (s', tt)))) refl) (λ h. cc)))
      (λ i' a'. seen _ _ _ _ _ (inline_view-MessageReference T.Denot text_of i m) (inline_view-FunctionReference T.Denot text_of i' a') (apart _ (inline_is (MessageReference i m) (FunctionReference i' a') ∙ rw (inline.the_beta T (inr (inr (inr (inl (i, (m, tt)))))), inline.the_beta T (inr (inr (inl (i', (a', tt)))))) refl) (λ h. cc)))
      (λ i' m'. seen _ _ _ _ _ (inline_view-MessageReference T.Denot text_of i m) (inline_view-MessageReference T.Denot text_of i' m') (renamed _ (same_name i i' && same_accessor m m') (inline_is (MessageReference i m) (MessageReference i' m') ∙ rw (inline.the_beta T (inr (inr (inr (inl (i, (m, tt)))))), inline.the_beta T (inr (inr (inr (inl (i', (m', tt))))))) refl) (λ p. let first = p.0 in let more = p.1 in cc) (λ h. (cc, cc)) (Decides-and _ _ (name_decides i i') (accessor_decides m m'))))
      (λ i' m' c'. seen _ _ _ _ _ (inline_view-MessageReference T.Denot text_of i m) (inline_view-TermReference T.Denot text_of i' m' c') (apart _ (inline_is (MessageReference i m) (TermReference i' m' c') ∙ rw (inline.the_beta T (inr (inr (inr (inl (i, (m, tt)))))), inline.the_beta T (inr (inr (inr (inr (inl (i', (m', (c', tt))))))))) refl) (λ h. cc)))
      (λ i'. seen _ _ _ _ _ (inline_view-MessageReference T.Denot text_of i m) (inline_view-VariableReference T.Denot text_of i') (apart _ (inline_is (MessageReference i m) (VariableReference i') ∙ rw (inline.the_beta T (inr (inr (inr (inl (i, (m, tt)))))), inline.the_beta T (inr (inr (inr (inr (inr (inl (i', tt)))))))) refl) (λ h. cc)))
      (λ x'. seen _ _ _ _ _ (inline_view-MessageReference T.Denot text_of i m) (inline_view-Placeable T.Denot text_of x') (apart _ (inline_is (MessageReference i m) (Nested x') ∙ rw (inline.the_beta T (inr (inr (inr (inl (i, (m, tt)))))), inline.the_beta T (inr (inr (inr (inr (inr (inr (inl (x', tt))))))))) refl) (λ h. cc)))

  tells-TermReference : (i : _) (m : _) (c : _) → ((d : Option (CallArguments T.Denot)) → Decides (same_maybe c d) (option_map (arguments_view T.Denot text_of) c ≡ option_map (arguments_view T.Denot text_of) d)) → Tells-inline (TermReference i m c)
  tells-TermReference i m c hc = by_inline (λ y. Decides (same_inline (TermReference i m c) y) (inline_view T.Denot text_of (TermReference i m c) ≡ inline_view T.Denot text_of y))
      (λ s'. seen _ _ _ _ _ (inline_view-TermReference T.Denot text_of i m c) (inline_view-StringLiteral T.Denot text_of s') (apart _ (inline_is (TermReference i m c) (StringLiteral s') ∙ rw (inline.the_beta T (inr (inr (inr (inr (inl (i, (m, (c, tt)))))))), inline.the_beta T (inl (s', tt))) refl) (λ h. cc)))
      (λ s'. seen _ _ _ _ _ (inline_view-TermReference T.Denot text_of i m c) (inline_view-NumberLiteral T.Denot text_of s') (apart _ (inline_is (TermReference i m c) (NumberLiteral s') ∙ rw (inline.the_beta T (inr (inr (inr (inr (inl (i, (m, (c, tt)))))))), inline.the_beta T (inr (inl (s', tt)))) refl) (λ h. cc)))
      (λ i' a'. seen _ _ _ _ _ (inline_view-TermReference T.Denot text_of i m c) (inline_view-FunctionReference T.Denot text_of i' a') (apart _ (inline_is (TermReference i m c) (FunctionReference i' a') ∙ rw (inline.the_beta T (inr (inr (inr (inr (inl (i, (m, (c, tt)))))))), inline.the_beta T (inr (inr (inl (i', (a', tt)))))) refl) (λ h. cc)))
      (λ i' m'. seen _ _ _ _ _ (inline_view-TermReference T.Denot text_of i m c) (inline_view-MessageReference T.Denot text_of i' m') (apart _ (inline_is (TermReference i m c) (MessageReference i' m') ∙ rw (inline.the_beta T (inr (inr (inr (inr (inl (i, (m, (c, tt)))))))), inline.the_beta T (inr (inr (inr (inl (i', (m', tt))))))) refl) (λ h. cc)))
      (λ i' m' c'. seen _ _ _ _ _ (inline_view-TermReference T.Denot text_of i m c) (inline_view-TermReference T.Denot text_of i' m' c') (renamed _ (same_name i i' && (same_accessor m m' && same_maybe c c')) (inline_is (TermReference i m c) (TermReference i' m' c') ∙ rw (inline.the_beta T (inr (inr (inr (inr (inl (i, (m, (c, tt)))))))), inline.the_beta T (inr (inr (inr (inr (inl (i', (m', (c', tt))))))))) refl) (λ p. let first = p.0 in let accessor = p.1.0 in let more = ap maybe_arguments p.1.1 in cc) (λ h. (cc, (cc, maybe_arguments-injective _ _ (cc)))) (Decides-and _ _ (name_decides i i') (Decides-and _ _ (accessor_decides m m') (hc c')))))
      (λ i'. seen _ _ _ _ _ (inline_view-TermReference T.Denot text_of i m c) (inline_view-VariableReference T.Denot text_of i') (apart _ (inline_is (TermReference i m c) (VariableReference i') ∙ rw (inline.the_beta T (inr (inr (inr (inr (inl (i, (m, (c, tt)))))))), inline.the_beta T (inr (inr (inr (inr (inr (inl (i', tt)))))))) refl) (λ h. cc)))
      (λ x'. seen _ _ _ _ _ (inline_view-TermReference T.Denot text_of i m c) (inline_view-Placeable T.Denot text_of x') (apart _ (inline_is (TermReference i m c) (Nested x') ∙ rw (inline.the_beta T (inr (inr (inr (inr (inl (i, (m, (c, tt)))))))), inline.the_beta T (inr (inr (inr (inr (inr (inr (inl (x', tt))))))))) refl) (λ h. cc)))

  tells-VariableReference : (i : _) → Tells-inline (VariableReference i)
  tells-VariableReference i = by_inline (λ y. Decides (same_inline (VariableReference i) y) (inline_view T.Denot text_of (VariableReference i) ≡ inline_view T.Denot text_of y))
      (λ s'. seen _ _ _ _ _ (inline_view-VariableReference T.Denot text_of i) (inline_view-StringLiteral T.Denot text_of s') (apart _ (inline_is (VariableReference i) (StringLiteral s') ∙ rw (inline.the_beta T (inr (inr (inr (inr (inr (inl (i, tt))))))), inline.the_beta T (inl (s', tt))) refl) (λ h. cc)))
      (λ s'. seen _ _ _ _ _ (inline_view-VariableReference T.Denot text_of i) (inline_view-NumberLiteral T.Denot text_of s') (apart _ (inline_is (VariableReference i) (NumberLiteral s') ∙ rw (inline.the_beta T (inr (inr (inr (inr (inr (inl (i, tt))))))), inline.the_beta T (inr (inl (s', tt)))) refl) (λ h. cc)))
      (λ i' a'. seen _ _ _ _ _ (inline_view-VariableReference T.Denot text_of i) (inline_view-FunctionReference T.Denot text_of i' a') (apart _ (inline_is (VariableReference i) (FunctionReference i' a') ∙ rw (inline.the_beta T (inr (inr (inr (inr (inr (inl (i, tt))))))), inline.the_beta T (inr (inr (inl (i', (a', tt)))))) refl) (λ h. cc)))
      (λ i' m'. seen _ _ _ _ _ (inline_view-VariableReference T.Denot text_of i) (inline_view-MessageReference T.Denot text_of i' m') (apart _ (inline_is (VariableReference i) (MessageReference i' m') ∙ rw (inline.the_beta T (inr (inr (inr (inr (inr (inl (i, tt))))))), inline.the_beta T (inr (inr (inr (inl (i', (m', tt))))))) refl) (λ h. cc)))
      (λ i' m' c'. seen _ _ _ _ _ (inline_view-VariableReference T.Denot text_of i) (inline_view-TermReference T.Denot text_of i' m' c') (apart _ (inline_is (VariableReference i) (TermReference i' m' c') ∙ rw (inline.the_beta T (inr (inr (inr (inr (inr (inl (i, tt))))))), inline.the_beta T (inr (inr (inr (inr (inl (i', (m', (c', tt))))))))) refl) (λ h. cc)))
      (λ i'. seen _ _ _ _ _ (inline_view-VariableReference T.Denot text_of i) (inline_view-VariableReference T.Denot text_of i') (renamed _ (same_name i i') (inline_is (VariableReference i) (VariableReference i') ∙ rw (inline.the_beta T (inr (inr (inr (inr (inr (inl (i, tt))))))), inline.the_beta T (inr (inr (inr (inr (inr (inl (i', tt)))))))) refl) (λ p. cc) (λ h. cc) (name_decides i i')))
      (λ x'. seen _ _ _ _ _ (inline_view-VariableReference T.Denot text_of i) (inline_view-Placeable T.Denot text_of x') (apart _ (inline_is (VariableReference i) (Nested x') ∙ rw (inline.the_beta T (inr (inr (inr (inr (inr (inl (i, tt))))))), inline.the_beta T (inr (inr (inr (inr (inr (inr (inl (x', tt))))))))) refl) (λ h. cc)))

  tells-Nested : (x : Box (Expression T.Denot) Global) → (Tells-expression x.value) → Tells-inline (Nested x)
  tells-Nested x hx = by_inline (λ y. Decides (same_inline (Nested x) y) (inline_view T.Denot text_of (Nested x) ≡ inline_view T.Denot text_of y))
      (λ s'. seen _ _ _ _ _ (inline_view-Placeable T.Denot text_of x) (inline_view-StringLiteral T.Denot text_of s') (apart _ (inline_is (Nested x) (StringLiteral s') ∙ rw (inline.the_beta T (inr (inr (inr (inr (inr (inr (inl (x, tt)))))))), inline.the_beta T (inl (s', tt))) refl) (λ h. cc)))
      (λ s'. seen _ _ _ _ _ (inline_view-Placeable T.Denot text_of x) (inline_view-NumberLiteral T.Denot text_of s') (apart _ (inline_is (Nested x) (NumberLiteral s') ∙ rw (inline.the_beta T (inr (inr (inr (inr (inr (inr (inl (x, tt)))))))), inline.the_beta T (inr (inl (s', tt)))) refl) (λ h. cc)))
      (λ i' a'. seen _ _ _ _ _ (inline_view-Placeable T.Denot text_of x) (inline_view-FunctionReference T.Denot text_of i' a') (apart _ (inline_is (Nested x) (FunctionReference i' a') ∙ rw (inline.the_beta T (inr (inr (inr (inr (inr (inr (inl (x, tt)))))))), inline.the_beta T (inr (inr (inl (i', (a', tt)))))) refl) (λ h. cc)))
      (λ i' m'. seen _ _ _ _ _ (inline_view-Placeable T.Denot text_of x) (inline_view-MessageReference T.Denot text_of i' m') (apart _ (inline_is (Nested x) (MessageReference i' m') ∙ rw (inline.the_beta T (inr (inr (inr (inr (inr (inr (inl (x, tt)))))))), inline.the_beta T (inr (inr (inr (inl (i', (m', tt))))))) refl) (λ h. cc)))
      (λ i' m' c'. seen _ _ _ _ _ (inline_view-Placeable T.Denot text_of x) (inline_view-TermReference T.Denot text_of i' m' c') (apart _ (inline_is (Nested x) (TermReference i' m' c') ∙ rw (inline.the_beta T (inr (inr (inr (inr (inr (inr (inl (x, tt)))))))), inline.the_beta T (inr (inr (inr (inr (inl (i', (m', (c', tt))))))))) refl) (λ h. cc)))
      (λ i'. seen _ _ _ _ _ (inline_view-Placeable T.Denot text_of x) (inline_view-VariableReference T.Denot text_of i') (apart _ (inline_is (Nested x) (VariableReference i') ∙ rw (inline.the_beta T (inr (inr (inr (inr (inr (inr (inl (x, tt)))))))), inline.the_beta T (inr (inr (inr (inr (inr (inl (i', tt)))))))) refl) (λ h. cc)))
      (λ x'. seen _ _ _ _ _ (inline_view-Placeable T.Denot text_of x) (inline_view-Placeable T.Denot text_of x') (renamed _ (same_expression x.value x'.value) (inline_is (Nested x) (Nested x') ∙ rw (inline.the_beta T (inr (inr (inr (inr (inr (inr (inl (x, tt)))))))), inline.the_beta T (inr (inr (inr (inr (inr (inr (inl (x', tt))))))))) refl) (λ p. cc) (λ h. cc) (hx x'.value)))

  tells-TextElement : (s : _) → Tells-element (TextElement s)
  tells-TextElement s = by_element (λ y. Decides (same_element (TextElement s) y) (element_view T.Denot text_of (TextElement s) ≡ element_view T.Denot text_of y))
      (λ s'. seen _ _ _ _ _ (element_view-TextElement T.Denot text_of s) (element_view-TextElement T.Denot text_of s') (renamed _ (E.eq s s') (element_is (TextElement s) (TextElement s')) (λ p. cc) (λ h. cc) (leaf_decides s s')))
      (λ e'. seen _ _ _ _ _ (element_view-TextElement T.Denot text_of s) (element_view-Placeable T.Denot text_of e') (apart _ (element_is (TextElement s) (Placeable e')) (λ h. cc)))

  tells-Placeable : (e : _) → (Tells-expression e) → Tells-element (Placeable e)
  tells-Placeable e he = by_element (λ y. Decides (same_element (Placeable e) y) (element_view T.Denot text_of (Placeable e) ≡ element_view T.Denot text_of y))
      (λ s'. seen _ _ _ _ _ (element_view-Placeable T.Denot text_of e) (element_view-TextElement T.Denot text_of s') (apart _ (element_is (Placeable e) (TextElement s')) (λ h. cc)))
      (λ e'. seen _ _ _ _ _ (element_view-Placeable T.Denot text_of e) (element_view-Placeable T.Denot text_of e') (renamed _ (same_expression e e') (element_is (Placeable e) (Placeable e')) (λ p. cc) (λ h. cc) (he e')))

  tells_none : (d : Option (CallArguments T.Denot)) → Decides (same_maybe None d) (None ≡ option_map (arguments_view T.Denot text_of) d)
  tells_none None = (λ _. refl, λ _. refl)
  tells_none (Some d) = apart _ refl (λ h. cc)

  tells_some : (a : CallArguments T.Denot) → Tells-arguments a → (d : Option (CallArguments T.Denot)) → Decides (same_maybe (Some a) d) (Some (arguments_view T.Denot text_of a) ≡ option_map (arguments_view T.Denot text_of) d)
  tells_some a ha None = apart _ refl (λ h. cc)
  tells_some a ha (Some d) = renamed _ _ refl (λ p. cc) (λ h. cc) (ha d)

  tells-Pattern : (x : Pattern T.Denot) → ((ys : List (PatternElement T.Denot)) → Decides (pointwise same_element (out-Pattern T.Denot x).elements.items ys) (map (element_view T.Denot text_of) (out-Pattern T.Denot x).elements.items ≡ map (element_view T.Denot text_of) ys)) → Tells-pattern x
  tells-Pattern x hx = λ y. seen _ _ _ _ _ (pattern_view-out T.Denot text_of x) (pattern_view-out T.Denot text_of y)
      (renamed _ _ (pattern_is x y) (ap elements_of) (elements_of-injective _ _) (hx (out-Pattern T.Denot y).elements.items))

  tells-CallArguments : (x : CallArguments T.Denot) → ((ys : List (InlineExpression T.Denot)) → Decides (pointwise same_inline (out-CallArguments T.Denot x).positional.items ys) (map (inline_view T.Denot text_of) (out-CallArguments T.Denot x).positional.items ≡ map (inline_view T.Denot text_of) ys)) → ((ys : List (NamedArgument T.Denot)) → Decides (pointwise same_named (out-CallArguments T.Denot x).named.items ys) (map (named_view T.Denot text_of) (out-CallArguments T.Denot x).named.items ≡ map (named_view T.Denot text_of) ys)) → Tells-arguments x
  tells-CallArguments x hp hn = λ y. seen _ _ _ _ _ (arguments_view-out T.Denot text_of x) (arguments_view-out T.Denot text_of y)
      (renamed _ _ (arguments_is x y) (λ p. let first = ap inlines_of p.0 in let more = ap nameds_of p.1 in cc) (λ h. (inlines_of-injective _ _ (cc), nameds_of-injective _ _ (cc)))
      (Decides-and _ _ (hp (out-CallArguments T.Denot y).positional.items) (hn (out-CallArguments T.Denot y).named.items)))

  tells-NamedArgument : (x : NamedArgument T.Denot) → Tells-inline (out-NamedArgument T.Denot x).value → Tells-named x
  tells-NamedArgument x hx = λ y. seen _ _ _ _ _ (named_view-out T.Denot text_of x) (named_view-out T.Denot text_of y)
      (renamed _ _ (named_is x y) (λ p. λ i. record { name = p.0 i; value = p.1 i }) (λ h. (ap (λ (r : v.Named). r.name) h, ap (λ (r : v.Named). r.value) h))
      (Decides-and _ _ (name_decides (out-NamedArgument T.Denot x).name (out-NamedArgument T.Denot y).name) (hx (out-NamedArgument T.Denot y).value)))

  tells-Variant : (x : Variant T.Denot) → Tells-pattern (out-Variant T.Denot x).value → Tells-variant x
  tells-Variant x hx = λ y. seen _ _ _ _ _ (variant_view-out T.Denot text_of x) (variant_view-out T.Denot text_of y)
      (renamed _ _ (variant_is x y) (λ p. λ i. record { key = p.0 i; value = p.1.0 i; default = p.1.1 i }) (λ h. (ap (λ (r : v.Variant). r.key) h, (ap (λ (r : v.Variant). r.value) h, ap (λ (r : v.Variant). r.default) h)))
      (Decides-and _ _ (key_decides (out-Variant T.Denot x).key (out-Variant T.Denot y).key) (Decides-and _ _ (hx (out-Variant T.Denot y).value) (bool_decides (out-Variant T.Denot x).default (out-Variant T.Denot y).default))))

  abbrev Such-expression : Type 0
  Such-expression = (x : Expression T.Denot) × Tells-expression x

  abbrev Such-inline : Type 0
  Such-inline = (x : InlineExpression T.Denot) × Tells-inline x

  abbrev Such-element : Type 0
  Such-element = (x : PatternElement T.Denot) × Tells-element x

  abbrev Such-arguments : Type 0
  Such-arguments = (x : CallArguments T.Denot) × Tells-arguments x

  abbrev Such-named : Type 0
  Such-named = (x : NamedArgument T.Denot) × Tells-named x

  abbrev Such-pattern : Type 0
  Such-pattern = (x : Pattern T.Denot) × Tells-pattern x

  abbrev Such-variant : Type 0
  Such-variant = (x : Variant T.Denot) × Tells-variant x

  step-expression : (x : o.Expression-F T.Denot (Expression T.Denot) (InlineExpression T.Denot) (PatternElement T.Denot) (CallArguments T.Denot) (NamedArgument T.Denot) (Pattern T.Denot) (Variant T.Denot)) (y : o.Expression-F T.Denot Such-expression Such-inline Such-element Such-arguments Such-named Such-pattern Such-variant) → map-Expression T.Denot Such-expression Such-inline Such-element Such-arguments Such-named Such-pattern Such-variant (Expression T.Denot) (InlineExpression T.Denot) (PatternElement T.Denot) (CallArguments T.Denot) (NamedArgument T.Denot) (Pattern T.Denot) (Variant T.Denot) (λ e. e.0) (λ e. e.0) (λ e. e.0) (λ e. e.0) (λ e. e.0) (λ e. e.0) (λ e. e.0) y ≡ x → Tells-expression (roll-Expression T.Denot x)
  step-expression x (o.Select s us) is = subst (λ z. Tells-expression (roll-Expression T.Denot z)) is (subst Tells-expression (sym (rolls-Select s.0 _)) (tells-Select s.0 _ s.1 (pointwise_decides same_variant (variant_view T.Denot text_of) us.items)))
  step-expression x (o.Inline i) is = subst (λ z. Tells-expression (roll-Expression T.Denot z)) is (subst Tells-expression (sym (rolls-Inline i.0)) (tells-Inline i.0 i.1))

  step-inline : (x : o.InlineExpression-F T.Denot (Expression T.Denot) (InlineExpression T.Denot) (PatternElement T.Denot) (CallArguments T.Denot) (NamedArgument T.Denot) (Pattern T.Denot) (Variant T.Denot)) (y : o.InlineExpression-F T.Denot Such-expression Such-inline Such-element Such-arguments Such-named Such-pattern Such-variant) → map-InlineExpression T.Denot Such-expression Such-inline Such-element Such-arguments Such-named Such-pattern Such-variant (Expression T.Denot) (InlineExpression T.Denot) (PatternElement T.Denot) (CallArguments T.Denot) (NamedArgument T.Denot) (Pattern T.Denot) (Variant T.Denot) (λ e. e.0) (λ e. e.0) (λ e. e.0) (λ e. e.0) (λ e. e.0) (λ e. e.0) (λ e. e.0) y ≡ x → Tells-inline (roll-InlineExpression T.Denot x)
  step-inline x (o.StringLiteral s) is = subst (λ z. Tells-inline (roll-InlineExpression T.Denot z)) is (subst Tells-inline (sym (rolls-StringLiteral s)) (tells-StringLiteral s))
  step-inline x (o.NumberLiteral s) is = subst (λ z. Tells-inline (roll-InlineExpression T.Denot z)) is (subst Tells-inline (sym (rolls-NumberLiteral s)) (tells-NumberLiteral s))
  step-inline x (o.FunctionReference i a) is = subst (λ z. Tells-inline (roll-InlineExpression T.Denot z)) is (subst Tells-inline (sym (rolls-FunctionReference i a.0)) (tells-FunctionReference i a.0 a.1))
  step-inline x (o.MessageReference i m) is = subst (λ z. Tells-inline (roll-InlineExpression T.Denot z)) is (subst Tells-inline (sym (rolls-MessageReference i m)) (tells-MessageReference i m))
  step-inline x (o.TermReference i m None) is = subst (λ z. Tells-inline (roll-InlineExpression T.Denot z)) is (subst Tells-inline (sym (rolls-TermReference i m None)) (tells-TermReference i m None tells_none))
  step-inline x (o.TermReference i m (Some a)) is = subst (λ z. Tells-inline (roll-InlineExpression T.Denot z)) is (subst Tells-inline (sym (rolls-TermReference i m (Some a.0))) (tells-TermReference i m (Some a.0) (tells_some a.0 a.1)))
  step-inline x (o.VariableReference i) is = subst (λ z. Tells-inline (roll-InlineExpression T.Denot z)) is (subst Tells-inline (sym (rolls-VariableReference i)) (tells-VariableReference i))
  step-inline x (o.InlineExpression::Placeable e) is = subst (λ z. Tells-inline (roll-InlineExpression T.Denot z)) is (subst Tells-inline (sym (rolls-Nested _)) (tells-Nested _ e.value.1))

  step-element : (x : o.PatternElement-F T.Denot (Expression T.Denot) (InlineExpression T.Denot) (PatternElement T.Denot) (CallArguments T.Denot) (NamedArgument T.Denot) (Pattern T.Denot) (Variant T.Denot)) (y : o.PatternElement-F T.Denot Such-expression Such-inline Such-element Such-arguments Such-named Such-pattern Such-variant) → map-PatternElement T.Denot Such-expression Such-inline Such-element Such-arguments Such-named Such-pattern Such-variant (Expression T.Denot) (InlineExpression T.Denot) (PatternElement T.Denot) (CallArguments T.Denot) (NamedArgument T.Denot) (Pattern T.Denot) (Variant T.Denot) (λ e. e.0) (λ e. e.0) (λ e. e.0) (λ e. e.0) (λ e. e.0) (λ e. e.0) (λ e. e.0) y ≡ x → Tells-element (roll-PatternElement T.Denot x)
  step-element x (o.TextElement s) is = subst (λ z. Tells-element (roll-PatternElement T.Denot z)) is (subst Tells-element (sym (rolls-TextElement s)) (tells-TextElement s))
  step-element x (o.PatternElement::Placeable e) is = subst (λ z. Tells-element (roll-PatternElement T.Denot z)) is (subst Tells-element (sym (rolls-Placeable e.0)) (tells-Placeable e.0 e.1))

  step-arguments : (x : o.CallArguments-F T.Denot (Expression T.Denot) (InlineExpression T.Denot) (PatternElement T.Denot) (CallArguments T.Denot) (NamedArgument T.Denot) (Pattern T.Denot) (Variant T.Denot)) (y : o.CallArguments-F T.Denot Such-expression Such-inline Such-element Such-arguments Such-named Such-pattern Such-variant) → map-CallArguments T.Denot Such-expression Such-inline Such-element Such-arguments Such-named Such-pattern Such-variant (Expression T.Denot) (InlineExpression T.Denot) (PatternElement T.Denot) (CallArguments T.Denot) (NamedArgument T.Denot) (Pattern T.Denot) (Variant T.Denot) (λ e. e.0) (λ e. e.0) (λ e. e.0) (λ e. e.0) (λ e. e.0) (λ e. e.0) (λ e. e.0) y ≡ x → Tells-arguments (roll-CallArguments T.Denot x)
  step-arguments x y is = subst (λ z. Tells-arguments (roll-CallArguments T.Denot z)) is (tells-CallArguments _ (subst (λ (z : o.CallArguments-F T.Denot (Expression T.Denot) (InlineExpression T.Denot) (PatternElement T.Denot) (CallArguments T.Denot) (NamedArgument T.Denot) (Pattern T.Denot) (Variant T.Denot)). (ys : List (InlineExpression T.Denot)) → Decides (pointwise same_inline z.positional.items ys) (map (inline_view T.Denot text_of) z.positional.items ≡ map (inline_view T.Denot text_of) ys)) (sym (out-roll-CallArguments T.Denot _)) (pointwise_decides same_inline (inline_view T.Denot text_of) y.positional.items)) (subst (λ (z : o.CallArguments-F T.Denot (Expression T.Denot) (InlineExpression T.Denot) (PatternElement T.Denot) (CallArguments T.Denot) (NamedArgument T.Denot) (Pattern T.Denot) (Variant T.Denot)). (ys : List (NamedArgument T.Denot)) → Decides (pointwise same_named z.named.items ys) (map (named_view T.Denot text_of) z.named.items ≡ map (named_view T.Denot text_of) ys)) (sym (out-roll-CallArguments T.Denot _)) (pointwise_decides same_named (named_view T.Denot text_of) y.named.items)))

  step-named : (x : o.NamedArgument-F T.Denot (Expression T.Denot) (InlineExpression T.Denot) (PatternElement T.Denot) (CallArguments T.Denot) (NamedArgument T.Denot) (Pattern T.Denot) (Variant T.Denot)) (y : o.NamedArgument-F T.Denot Such-expression Such-inline Such-element Such-arguments Such-named Such-pattern Such-variant) → map-NamedArgument T.Denot Such-expression Such-inline Such-element Such-arguments Such-named Such-pattern Such-variant (Expression T.Denot) (InlineExpression T.Denot) (PatternElement T.Denot) (CallArguments T.Denot) (NamedArgument T.Denot) (Pattern T.Denot) (Variant T.Denot) (λ e. e.0) (λ e. e.0) (λ e. e.0) (λ e. e.0) (λ e. e.0) (λ e. e.0) (λ e. e.0) y ≡ x → Tells-named (roll-NamedArgument T.Denot x)
  step-named x y is = subst (λ z. Tells-named (roll-NamedArgument T.Denot z)) is (tells-NamedArgument _ y.value.1)

  step-pattern : (x : o.Pattern-F T.Denot (Expression T.Denot) (InlineExpression T.Denot) (PatternElement T.Denot) (CallArguments T.Denot) (NamedArgument T.Denot) (Pattern T.Denot) (Variant T.Denot)) (y : o.Pattern-F T.Denot Such-expression Such-inline Such-element Such-arguments Such-named Such-pattern Such-variant) → map-Pattern T.Denot Such-expression Such-inline Such-element Such-arguments Such-named Such-pattern Such-variant (Expression T.Denot) (InlineExpression T.Denot) (PatternElement T.Denot) (CallArguments T.Denot) (NamedArgument T.Denot) (Pattern T.Denot) (Variant T.Denot) (λ e. e.0) (λ e. e.0) (λ e. e.0) (λ e. e.0) (λ e. e.0) (λ e. e.0) (λ e. e.0) y ≡ x → Tells-pattern (roll-Pattern T.Denot x)
  step-pattern x y is = subst (λ z. Tells-pattern (roll-Pattern T.Denot z)) is (tells-Pattern _ (pointwise_decides same_element (element_view T.Denot text_of) y.elements.items))

  step-variant : (x : o.Variant-F T.Denot (Expression T.Denot) (InlineExpression T.Denot) (PatternElement T.Denot) (CallArguments T.Denot) (NamedArgument T.Denot) (Pattern T.Denot) (Variant T.Denot)) (y : o.Variant-F T.Denot Such-expression Such-inline Such-element Such-arguments Such-named Such-pattern Such-variant) → map-Variant T.Denot Such-expression Such-inline Such-element Such-arguments Such-named Such-pattern Such-variant (Expression T.Denot) (InlineExpression T.Denot) (PatternElement T.Denot) (CallArguments T.Denot) (NamedArgument T.Denot) (Pattern T.Denot) (Variant T.Denot) (λ e. e.0) (λ e. e.0) (λ e. e.0) (λ e. e.0) (λ e. e.0) (λ e. e.0) (λ e. e.0) y ≡ x → Tells-variant (roll-Variant T.Denot x)
  step-variant x y is = subst (λ z. Tells-variant (roll-Variant T.Denot z)) is (tells-Variant _ y.value.1)

  -- `==` of two nodes of the cycle says whether they are the same plain data
  pub expression_decides : (x y : Expression T.Denot) → Decides (same_expression x y) (expression_view T.Denot text_of x ≡ expression_view T.Denot text_of y)
  expression_decides = ind-Expression T.Denot Tells-expression Tells-inline Tells-element Tells-arguments Tells-named Tells-pattern Tells-variant step-expression step-inline step-element step-arguments step-named step-pattern step-variant

  pub inline_decides : (x y : InlineExpression T.Denot) → Decides (same_inline x y) (inline_view T.Denot text_of x ≡ inline_view T.Denot text_of y)
  inline_decides = ind-InlineExpression T.Denot Tells-expression Tells-inline Tells-element Tells-arguments Tells-named Tells-pattern Tells-variant step-expression step-inline step-element step-arguments step-named step-pattern step-variant

  pub element_decides : (x y : PatternElement T.Denot) → Decides (same_element x y) (element_view T.Denot text_of x ≡ element_view T.Denot text_of y)
  element_decides = ind-PatternElement T.Denot Tells-expression Tells-inline Tells-element Tells-arguments Tells-named Tells-pattern Tells-variant step-expression step-inline step-element step-arguments step-named step-pattern step-variant

  pub arguments_decides : (x y : CallArguments T.Denot) → Decides (same_arguments x y) (arguments_view T.Denot text_of x ≡ arguments_view T.Denot text_of y)
  arguments_decides = ind-CallArguments T.Denot Tells-expression Tells-inline Tells-element Tells-arguments Tells-named Tells-pattern Tells-variant step-expression step-inline step-element step-arguments step-named step-pattern step-variant

  pub named_decides : (x y : NamedArgument T.Denot) → Decides (same_named x y) (named_view T.Denot text_of x ≡ named_view T.Denot text_of y)
  named_decides = ind-NamedArgument T.Denot Tells-expression Tells-inline Tells-element Tells-arguments Tells-named Tells-pattern Tells-variant step-expression step-inline step-element step-arguments step-named step-pattern step-variant

  pub pattern_decides : (x y : Pattern T.Denot) → Decides (same_pattern x y) (pattern_view T.Denot text_of x ≡ pattern_view T.Denot text_of y)
  pattern_decides = ind-Pattern T.Denot Tells-expression Tells-inline Tells-element Tells-arguments Tells-named Tells-pattern Tells-variant step-expression step-inline step-element step-arguments step-named step-pattern step-variant

  pub variant_decides : (x y : Variant T.Denot) → Decides (same_variant x y) (variant_view T.Denot text_of x ≡ variant_view T.Denot text_of y)
  variant_decides = ind-Variant T.Denot Tells-expression Tells-inline Tells-element Tells-arguments Tells-named Tells-pattern Tells-variant step-expression step-inline step-element step-arguments step-named step-pattern step-variant
