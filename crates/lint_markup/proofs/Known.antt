-- Names that are known, in whatever order.
use Rattle.std.proofs.Common.{◌≡◌, ◌∙◌, ℕ, Bool, true, false, not, ◌||◌, if◌then◌else◌, List, [], ◌∷◌, ◌++◌, length, refl, ap, sym, subst, arith, eq-eqb, eqb-true, Bor}
use Rattle.std.specs.Prelude.{◌==◌}
use Rattle.std.proofs.lemmas.Bool.Decides.{nat_tests}
use Rattle.std.specs.Str.{bytes_eq}
use Rattle.std.specs.Cmp.Lexicographic.{same_text}
use Rattle.fluent_grammar.specs.Words.{Text, is_among}
use Rattle.lint_nodes.specs.HasNames.{HasNames, is_in_set, texts}
use Rattle.lint_nodes.specs.declared.name_set.Names.{Names}
use Rattle.lint_nodes.proofs.Unions.{among-append, union_begins}
use Rattle.lint_findings.specs.Comparison.{union, without, has_new}
use Rattle.lint_findings.specs.NearNames.{nearest_hint}
use Rattle.lint_markup.specs.InCode.{AreNames, texts_in}

pub are_names : (names : Names) (xs : List Text) → HasNames names xs → AreNames names
are_names names xs has = subst (HasNames names) (sym has.listed) has

-- ---- what is among names

or_assoc : (a b c : Bool) → ((a || b) || c) ≡ (a || (b || c))
or_assoc true b c = refl
or_assoc false b c = refl

pub or_nil : (a : Bool) → (a || false) ≡ a
or_nil true = refl
or_nil false = refl

pub or_comm : (a b : Bool) → (a || b) ≡ (b || a)
or_comm true true = refl
or_comm true false = refl
or_comm false true = refl
or_comm false false = refl

-- the same names are among both
abbrev pub Same : List Text → List Text → Type 0
Same xs ys = (x : Text) → is_among x xs ≡ is_among x ys

absorbed : (y x : Text) (xs : List Text) (b c : Bool) → bytes_eq y x ≡ b → is_among y xs ≡ true → (is_among x xs || c) ≡ (is_among x xs || (b || c))
absorbed y x xs true c e h =
    let is : y ≡ x = same_text y x (sym e) in
    let there : is_among x xs ≡ true = ap (λ z. is_among z xs) (sym is) ∙ h in
    rw there refl
absorbed y x xs false c e h = refl

pub among_both : (x : Text) (xs ys : List Text) → is_among x (union xs ys) ≡ (is_among x xs || is_among x ys)
among_both x xs [] = sym (or_nil (is_among x xs))
among_both x xs (y ∷ ys) = by (is_among y xs) refl (among_both x xs ys) (among_both x (xs ++ y ∷ []) ys)
  where
    by : (b : Bool) → is_among y xs ≡ b → is_among x (union xs ys) ≡ (is_among x xs || is_among x ys) → is_among x (union (xs ++ y ∷ []) ys) ≡ (is_among x (xs ++ y ∷ []) || is_among x ys) →
        is_among x (if b then union xs ys else union (xs ++ y ∷ []) ys) ≡ (is_among x xs || (bytes_eq y x || is_among x ys))
    by true e old new = old ∙ absorbed y x xs (bytes_eq y x) (is_among x ys) refl e
    by false e old new =
        new
        ∙ ap (λ b. b || is_among x ys) (among-append x xs (y ∷ []) ∙ ap (λ b. is_among x xs || b) (or_nil (bytes_eq y x)))
        ∙ or_assoc (is_among x xs) (bytes_eq y x) (is_among x ys)

-- each once
pub same_once : (xs : List Text) → Same (union [] xs) xs
same_once xs x = among_both x [] xs

pub once_nil : (xs : List Text) → union [] xs ≡ [] → xs ≡ []
once_nil [] e = refl
once_nil (y ∷ ys) e = absurd cc (union_begins (y ∷ []) ys).1

no_texts : (ns : List (Bor Text)) → texts ns ≡ [] → ns ≡ []
no_texts [] e = refl
no_texts (n ∷ ns) e = absurd cc

pub none_listed : (names : Names) (xs : List Text) → HasNames names (union [] xs) → names.list.items ≡ [] → xs ≡ []
none_listed names xs has e = once_nil xs (sym has.listed ∙ ap texts e)

pub some_listed : (names : Names) (xs : List Text) → HasNames names (union [] xs) → (names.list.items ≡ [] → ⊥) → xs ≡ [] → ⊥
some_listed names xs has some e = some (no_texts names.list.items (has.listed ∙ ap (union []) e))

-- ---- names that are new

not_empty : (x : Text) (xs : List Text) → (length (x ∷ xs) == 0) ≡ false
not_empty x xs = grind (arith, nat_tests)

-- whether one of some names isn't known
pub none_new : (xs ys : List Text) → (length (without xs ys) == 0) ≡ not (has_new xs ys)
none_new [] ys = refl
none_new (x ∷ xs) ys = by (is_among x ys) (none_new xs ys)
  where
    by : (b : Bool) → (length (without xs ys) == 0) ≡ not (has_new xs ys) →
        (length (if not b then x ∷ without xs ys else without xs ys) == 0) ≡ not (not b || has_new xs ys)
    by true h = h
    by false h = not_empty x (without xs ys)

-- a hint by the set is one by those that are listed
pub hint_listed : (names : Names) → AreNames names → (name : Text) → nearest_hint [] (is_in_set names) name ≡ nearest_hint [] (λ x. is_among x (texts_in names)) name
hint_listed names are name = ap (λ (f : Text → Bool). nearest_hint [] f name) (λ i. λ x. are.known x i)

-- ---- by the length of a list

empty_list : {A : Type 0} (xs : List A) → length xs ≡ 0 → xs ≡ []
empty_list [] e = refl
empty_list (x ∷ xs) e = absurd (omega (arith, e))

pub none_by_len : {A : Type 0} (xs : List A) (n : ℕ) → n ≡ length xs → (n == 0) ≡ true → xs ≡ []
none_by_len xs n len h = empty_list xs (sym len ∙ eqb-true n 0 h)

pub some_by_len : {A : Type 0} (xs : List A) (n : ℕ) → n ≡ length xs → (n == 0) ≡ false → xs ≡ [] → ⊥
some_by_len xs n len h e =
    let zero : n ≡ 0 = len ∙ ap length e in
    absurd cc (eq-eqb n 0 zero)
