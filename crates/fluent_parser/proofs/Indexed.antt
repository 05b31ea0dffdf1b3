-- The names that are kept of a call's named arguments.
use Rattle.std.proofs.Common.{◌≡◌, ◌<◌, ◌≤◌, ◌||◌, ℕ, Bool, true, false, cond, List, [], ◌∷◌, ◌++◌, length, take, drop, map, refl, sym, ap, ◌∙◌, arith}
use Rattle.std.specs.List.{list_any}
use Rattle.std.specs.Str.{bytes_eq}
use Rattle.std.specs.Ordering.{nat_cmp, is_eq}
use Rattle.std.specs.Cmp.Lexicographic.{slice_cmp}
use Rattle.std.specs.BTreeSet.{BTreeSet, contains_by, UpdatesBy}
use Rattle.std.proofs.lemmas.Map.Text.{is_eq-slice_cmp}
use Rattle.std.proofs.lemmas.List.{take-append-drop, drop-append-le, drop_all, length-append}
use Rattle.std.proofs.lemmas.List.Folds.{list_any-append}
use denote.Ref.{Bor}
use Rattle.fluent_grammar.specs.Words as w
use Rattle.fluent_grammar.specs.Words.{Text}
use Rattle.fluent_ast.specs.View.{Named}
use Rattle.fluent_parser.specs.Steps.{names_of}
use Rattle.fluent_parser.proofs.Names.{among_is}

-- looking through the first names and then in the set finds each name that is there
found : {X : Type 0} (view : X → Named) (name : Text) (n : ℕ) (xs : List X) (a b : Bool) → a ≡ list_any (λ x. bytes_eq (view x).name name) (take n xs) →
    b ≡ list_any (λ x. bytes_eq (view x).name name) (drop n xs) → (a || b) ≡ w.is_among name (names_of (map view xs))
found view name n xs a b first later =
    rw (first, later) (sym (list_any-append (λ x. bytes_eq (view x).name name) (take n xs) (drop n xs)) ∙ ap (list_any (λ x. bytes_eq (view x).name name)) (take-append-drop n xs) ∙ sym (among_is view name xs))

pub found_first : {X : Type 0} (view : X → Named) (name : Text) (n : ℕ) (xs : List X) (a : Bool) → a ≡ list_any (λ x. bytes_eq (view x).name name) (take n xs) → a ≡ true → a ≡ w.is_among name (names_of (map view xs))
found_first view name n xs a first h =
    let later = list_any (λ x. bytes_eq (view x).name name) (drop n xs) in
    h ∙ ap (λ z. z || later) (sym h) ∙ found view name n xs a later first refl

pub found_later : {X : Type 0} (view : X → Named) (name : Text) (n : ℕ) (xs : List X) (a b : Bool) → a ≡ list_any (λ x. bytes_eq (view x).name name) (take n xs) →
    b ≡ list_any (λ x. bytes_eq (view x).name name) (drop n xs) → a ≡ false → b ≡ w.is_among name (names_of (map view xs))
found_later view name n xs a b first later h = ap (λ z. z || b) (sym h) ∙ found view name n xs a b first later

-- an argument among the first few needs no place in the set
pub few_more : {X : Type 0} (p : X → Bool) (n : ℕ) (xs ys : List X) (x : X) → length xs < n → ys ≡ xs ++ x ∷ [] → list_any p (drop n ys) ≡ list_any p (drop n xs)
few_more p n xs ys x h e =
    let old : drop n xs ≡ [] = drop_all n xs (omega arith) in
    let new : drop n (xs ++ x ∷ []) ≡ [] = drop_all n (xs ++ x ∷ []) (omega (arith, length-append xs (x ∷ []))) in
    rw (e, old, new) refl

or_true : (a b : Bool) → cond a true b ≡ (b || (a || false))
or_true true true = refl
or_true true false = refl
or_true false true = refl
or_true false false = refl

-- a set with one more name
pub one_more : {X : Type 0} (view : X → Named) (n : ℕ) (xs ys : List X) (x : X) (key : Bor (List ℕ)) (old new : BTreeSet (Bor (List ℕ))) → n ≤ length xs → ys ≡ xs ++ x ∷ [] → (view x).name ≡ key.now →
    UpdatesBy (λ a b. slice_cmp nat_cmp a.now b.now) (λ b. slice_cmp nat_cmp key.now b.now) old new true →
    ((name : List ℕ) → contains_by (λ k. slice_cmp nat_cmp name k.now) old ≡ list_any (λ x. bytes_eq (view x).name name) (drop n xs)) →
    (name : List ℕ) → contains_by (λ k. slice_cmp nat_cmp name k.now) new ≡ list_any (λ x. bytes_eq (view x).name name) (drop n ys)
one_more {X = X} view n xs ys x key old new h e same updates indexed name =
    let p : X → Bool = λ x. bytes_eq (view x).name name in
    let at_key : is_eq (slice_cmp nat_cmp key.now name) ≡ bytes_eq (view x).name name = is_eq-slice_cmp key.now name ∙ ap (λ k. bytes_eq k name) (sym same) in
    let query : Bor (List ℕ) = record { ref_ptr = (0, 0); now = name } in
    updates.0 query ∙ ap (λ b. cond b true (contains_by (λ k. slice_cmp nat_cmp name k.now) old)) at_key
    ∙ ap (cond (p x) true) (indexed name) ∙ or_true (p x) (list_any p (drop n xs))
    ∙ sym (list_any-append p (drop n xs) (x ∷ [])) ∙ ap (list_any p) (sym (drop-append-le n xs (x ∷ []) h) ∙ ap (drop n) (sym e))
