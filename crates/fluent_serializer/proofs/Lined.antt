-- Whether a list of elements takes more than one line, or begins with a dot, element by element.
use Rattle.std.proofs.Common.{◌≡◌, Bool, true, false, List, [], ◌∷◌, map, refl, ap, ◌∙◌, sym, subst}
use Rattle.std.specs.Prelude.{◌||◌, Option, MatchOption}
use Rattle.std.specs.List.{list_any, slice_get}
use Rattle.fluent_grammar.specs.Tree as t
use Rattle.fluent_grammar.specs.Written.{begins_with_dot, is_many_lined, is_select, holds_line_feed}
use Rattle.fluent_ast.specs.View.{Element, text, placeable, elements_of}

-- one element
abbrev pub is_long : Element → Bool
is_long e = is_many_lined (elements_of (e ∷ []))

or_false : (b : Bool) → (b || false) ≡ b
or_false true = refl
or_false false = refl

pub is_long-placeable : (e : t.Expression) → is_select e ≡ is_long (placeable e)
is_long-placeable e = sym (or_false (is_select e))

is_many_lined-cons : (e : Element) (es : List Element) → is_many_lined (elements_of (e ∷ es)) ≡ (is_long e || is_many_lined (elements_of es))
is_many_lined-cons (text s) es = ap (λ b. b || is_many_lined (elements_of es)) (sym (or_false (holds_line_feed s)))
is_many_lined-cons (placeable e) es = ap (λ b. b || is_many_lined (elements_of es)) (sym (or_false (is_select e)))

pub is_many_lined-any : {A : Type 0} (view : A → Element) (xs : List A) → list_any (λ x. is_long (view x)) xs ≡ is_many_lined (elements_of (map view xs))
is_many_lined-any view [] = refl
is_many_lined-any view (x ∷ xs) = ap (λ b. is_long (view x) || b) (is_many_lined-any view xs) ∙ sym (is_many_lined-cons (view x) (map view xs))

begins_with_dot-cons : (e : Element) (es : List Element) → begins_with_dot (elements_of (e ∷ [])) ≡ begins_with_dot (elements_of (e ∷ es))
begins_with_dot-cons (text s) es = refl
begins_with_dot-cons (placeable e) es = refl

-- the first element, if there is one, decides whether a pattern begins with a dot
pub begins_with_dot-first : {A : Type 0} (view : A → Element) (xs : List A) (first : Option A) → first ≡ slice_get xs 0 → MatchOption first (false ≡ begins_with_dot (elements_of (map view xs))) (λ x. begins_with_dot (elements_of (view x ∷ [])) ≡ begins_with_dot (elements_of (map view xs)))
begins_with_dot-first view [] first is = subst (λ o. MatchOption o (false ≡ false) (λ x. begins_with_dot (elements_of (view x ∷ [])) ≡ false)) (sym is) refl
begins_with_dot-first view (x ∷ xs) first is = subst (λ o. MatchOption o (false ≡ begins_with_dot (elements_of (view x ∷ map view xs))) (λ y. begins_with_dot (elements_of (view y ∷ [])) ≡ begins_with_dot (elements_of (view x ∷ map view xs)))) (sym is) (begins_with_dot-cons (view x) (map view xs))
