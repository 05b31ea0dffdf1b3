-- The elements of a pattern, by how many of them were written.
use Rattle.std.proofs.Common.{◌≡◌, ◌∙◌, ◌+◌, ◌<◌, ◌++◌, ◌∷◌, ℕ, List, Bor, ap, drop, get_or, length, map, sym, take}
use Rattle.std.proofs.lemmas.List.{map-append, take-append-drop}
use Rattle.fluent_ast.proofs.Views.{pattern_view-out}
use Rattle.fluent_ast.specs.View.{Element, element_view, elements_of, pattern_view}
use Rattle.fluent_ast.specs.declared.Pattern.{Pattern, out-Pattern}
use Rattle.fluent_ast.specs.declared.PatternElement.{PatternElement}
use Rattle.fluent_meaning.proofs.Looking.{drop-here}

-- an item between those that stand before it and those that stand after it
pub around : {A B : Type 0} (view : A → B) (items : List A) (i : ℕ) (x : A) → i < length items → x ≡ get_or items i x → map view (take i items) ++ view x ∷ map view (drop (i + 1) items) ≡ map view items
around view items i x less is =
    ap (λ zs. map view (take i items) ++ map view zs) (sym (drop-here items i x less is))
    ∙ sym (map-append view (take i items) (drop i items))
    ∙ ap (map view) (take-append-drop i items)

module _ (pattern : Pattern (Bor (List ℕ))) {items : List (PatternElement (Bor (List ℕ)))} (same : items ≡ (out-Pattern (Bor (List ℕ)) pattern).elements.items) where
  abbrev view : PatternElement (Bor (List ℕ)) → Element
  view = element_view (Bor (List ℕ)) (λ s. s.now)

  pub whole-elements : elements_of (map view items) ≡ pattern_view (Bor (List ℕ)) (λ s. s.now) pattern
  whole-elements = ap (λ ys. elements_of (map view ys)) same ∙ sym (pattern_view-out (Bor (List ℕ)) (λ s. s.now) pattern)

  -- what was written, and the rest
  pub whole-split : (i : ℕ) → elements_of (map view (take i items) ++ map view (drop i items)) ≡ pattern_view (Bor (List ℕ)) (λ s. s.now) pattern
  whole-split i = ap elements_of (sym (map-append view (take i items) (drop i items)) ∙ ap (map view) (take-append-drop i items)) ∙ whole-elements

  -- what was written, an element, and the rest
  pub whole-around : (i : ℕ) (x : PatternElement (Bor (List ℕ))) (e : Element) → i < length items → x ≡ get_or items i x → view x ≡ e → elements_of (map view (take i items) ++ e ∷ map view (drop (i + 1) items)) ≡ pattern_view (Bor (List ℕ)) (λ s. s.now) pattern
  whole-around i x e less here is = ap (λ z. elements_of (map view (take i items) ++ z ∷ map view (drop (i + 1) items))) (sym is) ∙ ap elements_of (around view items i x less here) ∙ whole-elements
