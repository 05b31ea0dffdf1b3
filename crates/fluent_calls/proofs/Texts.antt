-- The JSON of a call: its parts, and that it has no floats.
use Rattle.std.proofs.Common.{◌≡◌, ℕ, ◌+◌, ◌<◌, ◌≤◌, Bool, true, false, Result, Ok, Err, IfOk, List, [], ◌∷◌, ◌++◌, length, get_or, take, map, refl, sym, ap, ◌∙◌}
use Rattle.std.proofs.lemmas.List.{take_more, take_all, map-append}
use Rattle.std.specs.Prelude.{◌||◌}
use Rattle.std.specs.declared.cmp.Ordering.{Ordering}
use Rattle.std.specs.declared.cmp.Ordering.TheVariants.{Less, Equal, Greater}
use Rattle.std.specs.Ordering.{nat_cmp, match_ordering}
use Rattle.std.specs.Cmp.Lexicographic.{slice_cmp}
use Rattle.serde_json.specs.Data.{Data, Members, no_members, member, put}
use Rattle.serde_json.specs.View.{items_of}
use Rattle.serde_json.specs.Written.{has_float, items_have_float, members_have_float}
use Rattle.fluent_grammar.specs.Words.{Text}
use Rattle.fluent_value.specs.Value.{Value, text, number, custom, none, error}
use Rattle.fluent_calls.specs.Calls.{value_data, all_put, call_data}
use Rattle.fluent_date.specs.declared.date_time.FluentDateTime.{FluentDateTime}

map_after-map : {A B C : Type 0} (f : B → C) (g : A → B) (xs : List A) → map (λ x. f (g x)) xs ≡ map f (map g xs)
map_after-map f g [] = refl
map_after-map f g (x ∷ xs) = ap (λ ys. f (g x) ∷ ys) (map_after-map f g xs)

-- one more made of the item at k
pub made-more : {A B C : Type 0} (f : B → C) (g : A → C) (made : List B) (xs : List A) (k : ℕ) (more : B) (it : A) → k < length xs → it ≡ get_or xs k it → f more ≡ g it → map f made ≡ map g (take k xs) → map f (made ++ more ∷ []) ≡ map g (take (k + 1) xs)
made-more f g made xs k more it inside is same below =
    map-append f made (more ∷ [])
    ∙ ap (λ ys. ys ++ f more ∷ []) below
    ∙ ap (λ y. map g (take k xs) ++ y ∷ []) (same ∙ ap g is)
    ∙ sym (map-append g (take k xs) (get_or xs k it ∷ []))
    ∙ ap (map g) (sym (take_more xs k it inside))

-- all are made
pub made-all : {A B C : Type 0} (view : B → Data) (json : C → Data) (plain : A → C) (made : List B) (xs : List A) (k : ℕ) → length xs ≤ k → map view made ≡ map (λ x. json (plain x)) (take k xs) →
    items_of (map view made) ≡ items_of (map json (map plain xs))
made-all view json plain made xs k end below = ap items_of (below ∙ ap (map (λ x. json (plain x))) (take_all k xs end) ∙ map_after-map json plain xs)

neither : {a b : Bool} → a ≡ false → b ≡ false → (a || b) ≡ false
neither ea eb = cc

value_none : (v : Value FluentDateTime) → has_float (value_data v) ≡ false
value_none (text s) = refl
value_none (number n) = refl
value_none (custom c) = refl
value_none none = refl
value_none error = refl

values_none : (vs : List (Value FluentDateTime)) → items_have_float (items_of (map value_data vs)) ≡ false
values_none [] = refl
values_none (v ∷ vs) = neither (value_none v) (values_none vs)

by_order : (o : Ordering) (a b c : Members) → members_have_float a ≡ false → members_have_float b ≡ false → members_have_float c ≡ false → members_have_float (match_ordering o a b c) ≡ false
by_order Less a b c ea eb ec = ea
by_order Equal a b c ea eb ec = eb
by_order Greater a b c ea eb ec = ec

left : (a b : Bool) → (a || b) ≡ false → a ≡ false
left false b e = refl
left true b e = e

right : (a b : Bool) → (a || b) ≡ false → b ≡ false
right false b e = e
right true b e = absurd cc

put_none : (k : Text) (d : Data) (ms : Members) → has_float d ≡ false → members_have_float ms ≡ false → members_have_float (put k d ms) ≡ false
put_none k d no_members ed em = neither ed refl
put_none k d (member l e ms) ed em =
    by_order (slice_cmp nat_cmp k l) (member k d (member l e ms)) (member l d ms) (member l e (put k d ms))
    (neither ed em) (neither ed (right (has_float e) (members_have_float ms) em)) (neither (left (has_float e) (members_have_float ms) em) (put_none k d ms ed (right (has_float e) (members_have_float ms) em)))

all_put_none : (ms : Members) (pairs : List (Text × Value FluentDateTime)) → members_have_float ms ≡ false → members_have_float (all_put ms pairs) ≡ false
all_put_none ms [] em = em
all_put_none ms (pair ∷ pairs) em = all_put_none (put pair.0 (value_data pair.1) ms) pairs (put_none pair.0 (value_data pair.1) ms (value_none pair.1) em)

pub call_none : (name : Text) (values : List (Value FluentDateTime)) (pairs : List (Text × Value FluentDateTime)) → has_float (call_data name values pairs) ≡ false
call_none name values pairs = neither refl (neither (values_none values) (neither (all_put_none no_members pairs refl) refl))

-- what holds of a value on Ok, by what held of it
pub on_ok : {A X : Type 0} {P Q : A → Type 0} (r : Result A X) → ((a : A) → P a → Q a) → IfOk r P → IfOk r Q
on_ok (Ok a) f p = f a p
on_ok (Err e) f p = tt
