-- A near name is known, and a slip away.
use Rattle.std.proofs.Common.{◌≡◌, ◌∙◌, ℕ, zero, suc, ◌<◌, Bool, true, false, cond, if◌then◌else◌, List, [], ◌∷◌, ◌++◌, length, Option, Some, None, refl, sym, ap, subst, arith, All, Contains}
use Rattle.std.specs.Prelude.{is_some, option_map, unwrap_or}
use Rattle.std.specs.List.{find, slice_index_or}
use Rattle.std.specs.Str.{bytes_eq}
use Rattle.std.proofs.lemmas.Bool.{false≢true}
use Rattle.std.proofs.lemmas.List.Elements.{All-nil, All-cons, All-append, All-weaker, All-map, All-head, All-tail}
use Rattle.std.proofs.lemmas.List.Folds.{Any-from_list_any, list_any_at}
use Rattle.std.proofs.lemmas.Slice.Eq.{bytes_eq-Decides}
use Rattle.fluent_grammar.proofs.Cases.{cases}
use Rattle.fluent_grammar.specs.Words.{Text, is_among}
use Rattle.lint_findings.specs.NearLaws.{IsSlip, swapped, left_out, replaced, added, later, NearestIsThere, AsksFor}
use Rattle.lint_findings.specs.NearNames.{after_any_byte, after_byte, additions, may_be_slip, name_bytes, near_names, near_text, nearest, nearest_hint, omissions, replacements, swaps}

-- ---- each near name is a slip away

-- after one more byte
behind : (x : ℕ) (s : Text) (texts : List Text) → All (IsSlip s) texts → All (IsSlip (x ∷ s)) (after_byte x texts)
behind x s texts h = All-map (IsSlip (x ∷ s)) (λ near. x ∷ near) texts (All-weaker (IsSlip s) (λ near. IsSlip (x ∷ s) (x ∷ near)) (λ near k. later k) texts h)

pub every : {X : Type 0} (P : X → Type 0) → ((x : X) → P x) → (xs : List X) → All P xs
every P h [] = All-nil P
every P h (x ∷ xs) = All-cons P x xs (h x) (every P h xs)

-- with any byte in the place of the first, or before it
any_replaced : (x : ℕ) (s : Text) → All (IsSlip (x ∷ s)) (after_any_byte s)
any_replaced x s = All-map (IsSlip (x ∷ s)) (λ y. y ∷ s) name_bytes (every (λ y. IsSlip (x ∷ s) (y ∷ s)) (λ y. replaced) name_bytes)

any_added : (s : Text) → All (IsSlip s) (after_any_byte s)
any_added s = All-map (IsSlip s) (λ y. y ∷ s) name_bytes (every (λ y. IsSlip s (y ∷ s)) (λ y. added) name_bytes)

of_swaps : (s : Text) → All (IsSlip s) (swaps s)
of_swaps [] = All-nil (IsSlip [])
of_swaps (x ∷ []) = All-nil (IsSlip (x ∷ []))
of_swaps (x ∷ y ∷ s) = All-cons (IsSlip (x ∷ y ∷ s)) (y ∷ x ∷ s) (after_byte x (swaps (y ∷ s))) swapped (behind x (y ∷ s) (swaps (y ∷ s)) (of_swaps (y ∷ s)))

of_omissions : (s : Text) → All (IsSlip s) (omissions s)
of_omissions [] = All-nil (IsSlip [])
of_omissions (x ∷ s) = All-cons (IsSlip (x ∷ s)) s (after_byte x (omissions s)) left_out (behind x s (omissions s) (of_omissions s))

of_replacements : (s : Text) → All (IsSlip s) (replacements s)
of_replacements [] = All-nil (IsSlip [])
of_replacements (x ∷ s) = All-append (IsSlip (x ∷ s)) (after_any_byte s) (after_byte x (replacements s)) (any_replaced x s) (behind x s (replacements s) (of_replacements s))

of_additions : (s : Text) → All (IsSlip s) (additions s)
of_additions [] = any_added []
of_additions (x ∷ s) = All-append (IsSlip (x ∷ s)) (after_any_byte (x ∷ s)) (after_byte x (additions s)) (any_added (x ∷ s)) (behind x s (additions s) (of_additions s))

all_near : (s : Text) → All (IsSlip s) (near_names s)
all_near s =
    All-append (IsSlip s) (swaps s) (omissions s ++ (replacements s ++ additions s)) (of_swaps s)
    (All-append (IsSlip s) (omissions s) (replacements s ++ additions s) (of_omissions s)
    (All-append (IsSlip s) (replacements s) (additions s) (of_replacements s) (of_additions s)))

-- ---- the nearest is known

pub none_is_some : {A B : Type 0} {x : A} → None ≡ Some x → B
none_is_some e = absurd (false≢true (ap is_some e))

pub some_is : {A : Type 0} {x y : A} → Some x ≡ Some y → x ≡ y
some_is {A} {x} {y} e = ap (λ o. unwrap_or o x) e

-- what a search finds passes the test, and is one of those that it went through
found : {X : Type 0} (P : X → Type 0) (test : X → Bool) (xs : List X) (x : X) → All P xs → find test xs ≡ Some x → P x × (test x ≡ true)
found P test [] x h e = none_is_some e
found P test (y ∷ ys) x h e = cases (test y)
    (λ b. let same : y ≡ x = some_is (ap (λ c. cond c (Some y) (find test ys)) (sym b) ∙ e) in
    subst (λ z. P z × (test z ≡ true)) same (All-head P y ys h, b))
    (λ b. found P test ys x (All-tail P y ys h) (ap (λ c. cond c (Some y) (find test ys)) (sym b) ∙ e))

pub nearest_is_there : NearestIsThere
unfolding nearest
nearest_is_there is_known s near e = cases (may_be_slip s)
    (λ b. found (IsSlip s) is_known (near_names s) near (all_near s) (ap (λ c. if c then find is_known (near_names s) else None) (sym b) ∙ e))
    (λ b. none_is_some (ap (λ c. if c then find is_known (near_names s) else None) (sym b) ∙ e))

-- a hint asks for the nearest name, which is what its test says
asked : (IsThere : Text → Type 0) (sign : Text) (is_known : Text → Bool) (s : Text) → ((name : Text) → is_known name ≡ true → IsThere name) →
    (o : Option Text) → nearest is_known s ≡ o → (hint : Text) → option_map (near_text sign) o ≡ Some hint → AsksFor IsThere sign s hint
asked IsThere sign is_known s there None is hint e = none_is_some e
asked IsThere sign is_known s there (Some near) is hint e =
    let known = nearest_is_there is_known s near is in
    record { name = near; text = sym (some_is e); slip = known.0; there = there near known.1 }

pub asks_for : (IsThere : Text → Type 0) (sign : Text) (is_known : Text → Bool) (s : Text) → ((name : Text) → is_known name ≡ true → IsThere name) →
    (hint : Text) → nearest_hint sign is_known s ≡ Some hint → AsksFor IsThere sign s hint
asks_for IsThere sign is_known s there hint e = asked IsThere sign is_known s there (nearest is_known s) refl hint e

-- ---- what a test of a name says

pub is_same : (s u : Text) → bytes_eq s u ≡ true → s ≡ u
is_same s u e = (bytes_eq-Decides s u).0 e

-- what is among names is one of them
pub is_one_of : (names : List Text) (name : Text) → is_among name names ≡ true → Contains names name
is_one_of names name e =
    let any = Any-from_list_any (λ other. bytes_eq other name) names e in
    subst (Contains names) (is_same any.1 name any.4) (any.0, any.2, any.3)

-- one of the names is among them
pub is_among_it : (names : List Text) (name : Text) → Contains names name → is_among name names ≡ true
is_among_it names name at = list_any_at (λ other. bytes_eq other name) names at.0 name at.1 (ap (λ s. bytes_eq s name) at.2 ∙ (bytes_eq-Decides name name).1 refl)

-- ---- what a search finds

-- what it finds is one of those that it went through
pub found_in : {X : Type 0} (test : X → Bool) (xs : List X) (x : X) → find test xs ≡ Some x → Contains xs x × (test x ≡ true)
found_in test [] x e = none_is_some e
found_in test (y ∷ ys) x e = cases (test y)
    (λ b. let same : y ≡ x = some_is (ap (λ c. cond c (Some y) (find test ys)) (sym b) ∙ e) in
    subst (λ z. Contains (y ∷ ys) z × (test z ≡ true)) same ((0, omega arith, refl), b))
    (λ b. let rest = found_in test ys x (ap (λ c. cond c (Some y) (find test ys)) (sym b) ∙ e) in
    let inside = rest.0.1 in
    ((suc rest.0.0, omega (arith, inside), rest.0.2), rest.1))

none_at : {X : Type 0} (test : X → Bool) (xs : List X) (x : X) → find test xs ≡ None → (k : ℕ) → k < length xs → slice_index_or xs k x ≡ x → test x ≡ true → ⊥
none_at test [] x e k inside is passes = absurd (omega (arith, inside))
none_at test (y ∷ ys) x e zero inside is passes = none_is_some (sym e ∙ ap (λ c. cond c (Some y) (find test ys)) (ap test is ∙ passes))
none_at test (y ∷ ys) x e (suc k) inside is passes = cases (test y)
    (λ b. none_is_some (sym e ∙ ap (λ c. cond c (Some y) (find test ys)) b))
    (λ b. none_at test ys x (ap (λ c. cond c (Some y) (find test ys)) (sym b) ∙ e) k (omega (arith, inside)) is passes)

-- if it finds nothing, none of them passes the test
pub none_found : {X : Type 0} (test : X → Bool) (xs : List X) (x : X) → find test xs ≡ None → Contains xs x → test x ≡ true → ⊥
none_found test xs x e at passes = none_at test xs x e at.0 at.1 at.2 passes
