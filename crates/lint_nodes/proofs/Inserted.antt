-- Indices, once one more was put in.
use Rattle.std.proofs.Common.{◌≡◌, ◌∙◌, Bool, true, false, cond, ◌&&◌, ℕ, List, [], ◌∷◌, Option, Some, None, option_map, refl, ap, sym, Bor}
use Rattle.std.specs.Option.{option_eq}
use Rattle.std.specs.Bool.{nat_eq}
use Rattle.std.specs.Str.{bytes_eq}
use Rattle.std.specs.Cmp.Lexicographic.{pointwise}
use Rattle.std.specs.Map.{lookup}
use Rattle.fluent_value.specs.Matching.{same_bool, same_option}
use Rattle.fluent_grammar.specs.Words.{Text}
use Rattle.std.specs.contracts.prelude.BoolPartialEq.TheImpl.{ghosts}
use Rattle.std.specs.HashMap.{HashMap, get, get_by}
use Rattle.std.specs.Prelude.{if◌then◌else◌}
use Rattle.lint_nodes.specs.IndicesView.{attribute_text, is_key, same_names}

-- two tests that agree find the same
pub same_found : {K X : Type 0} (p q : K → Bool) → ((k : K) → p k ≡ q k) → (es : List (K × X)) → lookup p es ≡ lookup q es
same_found p q same [] = refl
same_found p q same (e ∷ es) = ap (λ b. cond b (Some e.1) (lookup p es)) (same e.0) ∙ ap (λ o. cond (q e.0) (Some e.1) o) (same_found p q same es)

-- a text that is lent
abbrev pub lent : Text → Bor Text
lent s = record { ref_ptr = (0, 0); now = s }

abbrev pub same_lent : Bor Text → Bor Text → Bool
same_lent x y = pointwise nat_eq x.now y.now

pub asked : (a : Option Text) (x : Option (Bor Text)) → same_option bytes_eq a (attribute_text x) ≡ option_eq same_lent (option_map lent a) x
asked None None = refl
asked None (Some x) = refl
asked (Some a) None = refl
asked (Some a) (Some x) = refl

pub put : (x : Option (Bor Text)) (a : Option Text) → option_eq same_lent x (option_map lent a) ≡ same_option bytes_eq (attribute_text x) a
put None None = refl
put None (Some a) = refl
put (Some x) None = refl
put (Some x) (Some a) = refl

same_kind : (s t : Bool) → same_bool s t ≡ ghosts.eq s t
same_kind true true = refl
same_kind true false = refl
same_kind false true = refl
same_kind false false = refl

abbrev pub Key : Type 0
Key = Bool × Bor Text × Option (Bor Text)

abbrev pub same_key : Key → Key → Bool
same_key x y = (ghosts.eq x.0 y.0 && same_lent x.1 y.1) && option_eq same_lent x.2 y.2

in_turn : (a b c : Bool) → (a && (b && c)) ≡ ((a && b) && c)
in_turn true b c = refl
in_turn false b c = refl

asked_key : (t : Bool) (i : Text) (a : Option Text) (k : Key) → is_key t i a k ≡ same_key (t, lent i, option_map lent a) k
asked_key t i a k =
    ap (λ b. b && (bytes_eq i k.1.now && same_option bytes_eq a (attribute_text k.2))) (same_kind t k.0)
    ∙ ap (λ b. ghosts.eq t k.0 && (bytes_eq i k.1.now && b)) (asked a k.2)
    ∙ in_turn (ghosts.eq t k.0) (bytes_eq i k.1.now) (option_eq same_lent (option_map lent a) k.2)

put_key : (s : Bool) (id : Bor Text) (x : Option (Bor Text)) (t : Bool) (i : Text) (a : Option Text) → same_key (s, id, x) (t, lent i, option_map lent a) ≡ same_names s id.now (attribute_text x) t i a
put_key s id x t i a =
    sym (in_turn (ghosts.eq s t) (bytes_eq id.now i) (option_eq same_lent x (option_map lent a)))
    ∙ ap (λ b. b && (bytes_eq id.now i && option_eq same_lent x (option_map lent a))) (sym (same_kind s t))
    ∙ ap (λ b. same_bool s t && (bytes_eq id.now i && b)) (put x a)

-- what is found once an index was put in
pub inserted : {S : Type 0} (m n : HashMap Key ℕ S) (s : Bool) (id : Bor Text) (x : Option (Bor Text)) (index : ℕ) → ((q : Key) → get same_key n q ≡ cond (same_key (s, id, x) q) (Some index) (get same_key m q)) → (t : Bool) (i : Text) (a : Option Text) →
    get_by (is_key t i a) n ≡ (if same_names s id.now (attribute_text x) t i a then Some index else get_by (is_key t i a) m)
inserted m n s id x index updates t i a =
    let query : Key = (t, lent i, option_map lent a) in
    same_found (is_key t i a) (same_key query) (asked_key t i a) n.entries
    ∙ updates query
    ∙ ap (λ b. cond b (Some index) (get_by (same_key query) m)) (put_key s id x t i a)
    ∙ ap (λ o. if same_names s id.now (attribute_text x) t i a then Some index else o) (sym (same_found (is_key t i a) (same_key query) (asked_key t i a) m.entries))

own_option : (x y : Option (Bor Text)) → option_eq same_lent (option_map lent (attribute_text x)) y ≡ option_eq same_lent x y
own_option None None = refl
own_option None (Some y) = refl
own_option (Some x) None = refl
own_option (Some x) (Some y) = refl

own_key : (s : Bool) (id : Bor Text) (x : Option (Bor Text)) (k : Key) → is_key s id.now (attribute_text x) k ≡ same_key (s, id, x) k
own_key s id x k = asked_key s id.now (attribute_text x) k ∙ ap (λ b. (ghosts.eq s k.0 && same_lent id k.1) && b) (own_option x k.2)

-- what is found by a key, and by its names
pub own_found : {S : Type 0} (m : HashMap Key ℕ S) (s : Bool) (id : Bor Text) (x : Option (Bor Text)) →
    get same_key m (s, id, x) ≡ get_by (is_key s id.now (attribute_text x)) m
own_found m s id x = sym (same_found (is_key s id.now (attribute_text x)) (same_key (s, id, x)) (own_key s id x) m.entries)
