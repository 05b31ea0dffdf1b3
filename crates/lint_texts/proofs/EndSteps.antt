-- What a pattern may end with, by its last element.
use Rattle.std.proofs.Common.{◌≡◌, ◌∙◌, suc, ◌-◌, List, [], ◌∷◌, ◌++◌, length, map, Option, Some, None, refl, ap, sym, arith, append_assoc, append-nil}
use denote.Ref.{Bor}
use Rattle.std.specs.List.{slice_get}
use Rattle.fluent_ast.specs.Borrowed as b
use Rattle.fluent_ast.specs.View.{Element, text, placeable, element_view, elements_of}
use Rattle.fluent_ast.specs.declared.Expression.TheVariants.{Select, Inline}
use Rattle.fluent_ast.specs.declared.InlineExpression.{InlineExpression}
use Rattle.fluent_ast.specs.declared.Pattern.{Pattern, out-Pattern}
use Rattle.fluent_ast.specs.declared.PatternElement.{PatternElement}
use Rattle.fluent_ast.specs.declared.PatternElement.TheVariants.{TextElement, Placeable}
use Rattle.fluent_ast.proofs.Views.{element_view-Placeable, element_view-TextElement, expression_view-Inline, expression_view-Select, pattern_view-out}
use Rattle.fluent_grammar.specs.Tree as t
use Rattle.fluent_grammar.specs.Tree.{Elements, Variants}
use Rattle.fluent_grammar.specs.Words.{Text}
use Rattle.lint_findings.specs.Runs.{ends, ends_after, own_text, placeable_text, variants_ends}

-- the variants of an element, if it is a select
abbrev pub variants_in : Element → Option Variants
variants_in (text s) = None
variants_in (placeable (t.select i vs)) = Some vs
variants_in (placeable (t.inline i)) = None

-- those of the last element
abbrev pub last_variants : List Element → Option Variants
last_variants [] = None
last_variants (x ∷ []) = variants_in x
last_variants (x ∷ y ∷ xs) = last_variants (y ∷ xs)

abbrev pub ends_by : Text → Elements → Option Variants → List Text
ends_by s es None = (s ++ own_text es) ∷ []
ends_by s es (Some vs) = variants_ends vs

after_text : (s u : Text) (es : Elements) (o : Option Variants) → ends_by (s ++ u) es o ≡ ends_by s (t.text u es) o
after_text s u es None = ap (λ z. z ∷ []) (append_assoc s u (own_text es))
after_text s u es (Some vs) = refl

after_placeable : (s : Text) (e : t.Expression) (es : Elements) (o : Option Variants) → ends_by (s ++ placeable_text e) es o ≡ ends_by s (t.placeable e es) o
after_placeable s e es None = ap (λ z. z ∷ []) (append_assoc s (placeable_text e) (own_text es))
after_placeable s e es (Some vs) = refl

pub ends_are : (s : Text) (xs : List Element) → ends_after s (elements_of xs) ≡ ends_by s (elements_of xs) (last_variants xs)
ends_are s [] = ap (λ z. z ∷ []) (sym (append-nil s))
ends_are s (text u ∷ []) = ap (λ z. (s ++ z) ∷ []) (sym (append-nil u))
ends_are s (placeable (t.select i vs) ∷ []) = refl
ends_are s (placeable (t.inline i) ∷ []) = ap (λ z. (s ++ z) ∷ []) (sym (append-nil (placeable_text (t.inline i))))
ends_are s (text u ∷ y ∷ xs) = ends_are (s ++ u) (y ∷ xs) ∙ after_text s u (elements_of (y ∷ xs)) (last_variants (y ∷ xs))
ends_are s (placeable e ∷ text v ∷ xs) =
    ends_are (s ++ placeable_text e) (text v ∷ xs) ∙ after_placeable s e (elements_of (text v ∷ xs)) (last_variants (text v ∷ xs))
ends_are s (placeable e ∷ placeable f ∷ xs) =
    ends_are (s ++ placeable_text e) (placeable f ∷ xs) ∙ after_placeable s e (elements_of (placeable f ∷ xs)) (last_variants (placeable f ∷ xs))

-- ---- as the code has them

abbrev element_of : PatternElement (Bor Text) → Element
element_of = element_view _ (λ s. s.now)

abbrev pub found_variants : Option (PatternElement (Bor Text)) → Option Variants
found_variants None = None
found_variants (Some x) = variants_in (element_of x)

last_found : (xs : List (PatternElement (Bor Text))) → last_variants (map element_of xs) ≡ found_variants (slice_get xs (length xs - 1))
last_found [] = refl
last_found (x ∷ []) =
    let e : length (x ∷ []) - 1 ≡ 0 = omega arith in
    ap (λ k. found_variants (slice_get (x ∷ []) k)) (sym e)
last_found (x ∷ y ∷ xs) =
    let e : length (x ∷ y ∷ xs) - 1 ≡ suc (length (y ∷ xs) - 1) = omega arith in
    last_found (y ∷ xs) ∙ ap (λ k. found_variants (slice_get (x ∷ y ∷ xs) k)) (sym e)

-- by the last element
pub ends_found : (p : Pattern (Bor Text)) (o : Option (PatternElement (Bor Text))) →
    o ≡ slice_get (out-Pattern _ p).elements.items (length (out-Pattern _ p).elements.items - 1) →
    ends (b.elements_of p) ≡ ends_by [] (b.elements_of p) (found_variants o)
ends_found p o is =
    let xs = (out-Pattern _ p).elements.items in
    let view : b.elements_of p ≡ elements_of (map element_of xs) = pattern_view-out _ (λ s. s.now) p in
    ap ends view
    ∙ ends_are [] (map element_of xs)
    ∙ ap (ends_by [] (elements_of (map element_of xs))) (last_found xs ∙ ap found_variants (sym is))
    ∙ ap (λ es. ends_by [] es (found_variants o)) (sym view)

pub select_last : (s : InlineExpression (Bor Text)) (vs : _) → found_variants (Some (Placeable (Select s vs))) ≡ Some (b.variants_of vs.items)
select_last s vs = ap variants_in (element_view-Placeable _ (λ s. s.now) (Select s vs) ∙ ap placeable (expression_view-Select _ (λ s. s.now) s vs))

pub inline_last : (i : InlineExpression (Bor Text)) → found_variants (Some (Placeable (Inline i))) ≡ None
inline_last i = ap variants_in (element_view-Placeable _ (λ s. s.now) (Inline i) ∙ ap placeable (expression_view-Inline _ (λ s. s.now) i))

pub text_last : (s : Bor Text) → found_variants (Some (TextElement s)) ≡ None
text_last s = ap variants_in (element_view-TextElement _ (λ s. s.now) s)
