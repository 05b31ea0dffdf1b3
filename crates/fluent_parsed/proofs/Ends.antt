-- The elements up to the last that is not blank, found from the end, and the last one trimmed.
use Rattle.std.proofs.Common.{◌≡◌, ℕ, suc, ◌+◌, ◌-◌, ◌<◌, ◌≤◌, Bool, true, false, cond, ◌&&◌, List, [], ◌∷◌, ◌++◌, length, take, map, set, get_or, refl, sym, ap, ◌∙◌, arith, Option, Some}
use Rattle.std.specs.Prelude.{◌==◌}
use Rattle.std.proofs.lemmas.List.{take_more, map-append}
use Rattle.fluent_grammar.specs.Lines.{value_of}
use Rattle.fluent_tokens.proofs.Scanned.{test_ne}
use Rattle.fluent_ast.specs.View.{Element, text, placeable, elements_of}
use Rattle.fluent_parsed.specs.Elements.{line_behind, dedented_by, dedented_from, is_blank, kept_of, trimmed, last_trimmed}

last_blank : (es : List Element) (e : Element) → is_blank e ≡ true → kept_of (es ++ e ∷ []) ≡ kept_of es
last_blank [] e h = rw h refl
last_blank (x ∷ es) e h = let i = last_blank es e h in ap (λ (z : List Element). cond (is_blank x && length z == 0) [] (x ∷ z)) i

some_length : (es : List Element) (e : Element) → (length (es ++ e ∷ []) == 0) ≡ false
some_length [] e = refl
some_length (x ∷ es) e = test_ne (length (x ∷ (es ++ e ∷ []))) 0 (λ h. absurd (omega (arith, h)))

kept_by : (b z : Bool) (es : List Element) → z ≡ false → cond (b && z) [] es ≡ es
kept_by true z es h = rw h refl
kept_by false z es h = refl

last_kept : (es : List Element) (e : Element) → is_blank e ≡ false → kept_of (es ++ e ∷ []) ≡ es ++ e ∷ []
last_kept [] e h = rw h refl
last_kept (x ∷ es) e h =
    let i = last_kept es e h in
    let n : (length (es ++ e ∷ []) == 0) ≡ false = some_length es e in
    ap (λ (z : List Element). cond (is_blank x && length z == 0) [] (x ∷ z)) i ∙ kept_by (is_blank x) (length (es ++ e ∷ []) == 0) _ n

pub blank_dropped : {X : Type 0} (view : X → Element) (xs : List X) (k : ℕ) (d : X) → 0 < k → k ≤ length xs → is_blank (view (get_or xs (k - 1) d)) ≡ true →
    kept_of (map view (take (k - 1) xs)) ≡ kept_of (map view (take k xs))
blank_dropped view xs k d z h b =
    let e : k - 1 + 1 ≡ k = omega arith in
    let m = take_more xs (k - 1) d (omega arith) in
    sym (ap (λ (ys : List _). kept_of (map view ys)) (rw e at m) ∙ ap kept_of (map-append view (take (k - 1) xs) (get_or xs (k - 1) d ∷ []))
    ∙ last_blank (map view (take (k - 1) xs)) (view (get_or xs (k - 1) d)) b)

pub not_blank_kept : {X : Type 0} (view : X → Element) (xs : List X) (k : ℕ) (d : X) → 0 < k → k ≤ length xs → is_blank (view (get_or xs (k - 1) d)) ≡ false →
    kept_of (map view (take k xs)) ≡ map view (take k xs)
not_blank_kept view xs k d z h b =
    let e : k - 1 + 1 ≡ k = omega arith in
    let m = take_more xs (k - 1) d (omega arith) in
    let n : map view (take k xs) ≡ map view (take (k - 1) xs) ++ view (get_or xs (k - 1) d) ∷ [] = ap (map view) (rw e at m) ∙ map-append view (take (k - 1) xs) (get_or xs (k - 1) d ∷ []) in
    rw n (last_kept (map view (take (k - 1) xs)) (view (get_or xs (k - 1) d)) b)

-- the last one trimmed
pub last_set : {X : Type 0} (view : X → Element) (xs : List X) (d y : X) → 0 < length xs → d ≡ get_or xs (length xs - 1) d → view y ≡ trimmed (view d) →
    map view (set xs (length xs - 1) y) ≡ last_trimmed (map view xs)
last_set view [] d y h e k = absurd (omega (arith, h))
last_set view (x ∷ []) d y h e k = ap (λ (z : Element). z ∷ []) (k ∙ ap (λ (z : _). trimmed (view z)) e)
last_set view (x ∷ w ∷ xs) d y h e k =
    let n : length (x ∷ w ∷ xs) - 1 ≡ suc (length (w ∷ xs) - 1) = omega arith in
    rw n (ap (λ (z : List Element). view x ∷ z) (last_set view (w ∷ xs) d y (omega arith) (rw n at e) k))

-- what elements that are there give
first_there : (e : Element) (es : List Element) → Some (elements_of (e ∷ es)) ≡ value_of (elements_of (e ∷ es))
first_there (text s) es = refl
first_there (placeable x) es = refl

pub value_there : (line : Bool) (common : Option ℕ) (es : List Element) → 0 < length es →
    Some (elements_of (last_trimmed (dedented_from line common es))) ≡ value_of (elements_of (last_trimmed (dedented_from line common es)))
value_there line common [] h = absurd (omega (arith, h))
value_there line common (e ∷ []) h = first_there (trimmed (dedented_by line common e)) []
value_there line common (e ∷ f ∷ es) h = first_there (dedented_by line common e) (last_trimmed (dedented_from (line_behind e) common (f ∷ es)))

pub dedented_there : (es : List Element) → 0 < length es → Some (elements_of (last_trimmed es)) ≡ value_of (elements_of (last_trimmed es))
dedented_there [] h = absurd (omega (arith, h))
dedented_there (e ∷ []) h = first_there (trimmed e) []
dedented_there (e ∷ f ∷ es) h = first_there e (last_trimmed (f ∷ es))
