-- Which part of a source is the first shape.
use Rattle.std.proofs.Common.{◌≡◌, ℕ, Bool, true, false, Result, Ok, Err, List, [], ◌∷◌, length, sym, subst, refl}
use Rattle.std.specs.Prelude.{◌↔◌, IfOk, IsTrue, slice_get, slice_range, unwrap_or}
use Rattle.fluent_grammar.specs.Words.{Text}
use Rattle.fluent_tidy.specs.Reasons.{IsFirstShape, IsShape, TellsShape, end_before, none, here, later}

pub end-is : (source : Text) (more : List ℕ) (end : ℕ) → end ≡ unwrap_or (slice_get more 0) (length source) → end ≡ end_before source more
end-is source [] end e = e
end-is source (at ∷ more) end e = e

told : (source part : Text) (start end : ℕ) (is : Bool) → part ≡ slice_range source start end → (IsTrue is ↔ IsShape part) → TellsShape source start end is
told source part start end true e h = subst IsShape e (h.0 refl)
told source part start end false e h = λ ordered from to shape. let is : IsTrue false = h.1 (subst IsShape (sym e) shape) in absurd cc

-- what is told of the text of a part is told of the part
pub part-told : {E : Type 0} (r : Result Bool E) (source part : Text) (start end : ℕ) → part ≡ slice_range source start end
    → IfOk r (λ is. IsTrue is ↔ IsShape part) → IfOk r (TellsShape source start end)
part-told (Ok is) source part start end e h = told source part start end is e h
part-told (Err x) source part start end e h = tt

-- the first part that is left is a shape
pub is-here : (source : Text) (left more : List ℕ) (start end : ℕ) (is : Bool) → left ≡ start ∷ more → end ≡ end_before source more → is ≡ true
    → TellsShape source start end is → IsFirstShape source left start
is-here source left more start end is l e t h =
    subst (λ z. IsFirstShape source z start) (sym l) (here start more (subst (λ z. TellsShape source start z true) e (subst (TellsShape source start end) t h)))

-- it isn't one
pub is-later : (source : Text) (left more : List ℕ) (start end offset : ℕ) (is : Bool) → left ≡ start ∷ more → end ≡ end_before source more → is ≡ false
    → TellsShape source start end is → IsFirstShape source more offset → IsFirstShape source left offset
is-later source left more start end offset is l e t h first =
    subst (λ z. IsFirstShape source z offset) (sym l) (later start offset more (subst (λ z. TellsShape source start z false) e (subst (TellsShape source start end) t h)) first)

-- no parts are left
pub no-parts : (source : Text) (left : List ℕ) → length left ≡ 0 → IsFirstShape source left 0
no-parts source [] e = none
no-parts source (at ∷ more) e = absurd cc
