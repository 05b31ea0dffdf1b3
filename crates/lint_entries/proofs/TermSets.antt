-- A set of terms with one term more.
use Rattle.std.proofs.Common.{◌≡◌, ◌∙◌, ℕ, ◌+◌, ◌<◌, Bool, true, false, cond, ◌||◌, List, [], ◌∷◌, ◌++◌, length, take, get_or, refl, ap, sym, subst, Bor}
use Rattle.std.specs.HashSet.{HashSet, contains_by}
use Rattle.std.specs.Str.{bytes_eq}
use Rattle.std.proofs.lemmas.List.{map-append, take_more}
use Rattle.std.proofs.lemmas.List.Folds.{list_any-append}
use Rattle.fluent_grammar.specs.Words.{Text, is_among}
use Rattle.lint_nodes.specs.HasNames.{texts}
use Rattle.lint_entries.specs.Terms.{AreTermsOf}
use Rattle.lint_entries.specs.declared.terms.ReferredTerms.{ReferredTerms}

cond_or : (b a : Bool) → cond b true a ≡ (a || (b || false))
cond_or true true = refl
cond_or true false = refl
cond_or false true = refl
cond_or false false = refl

-- after one more was added
pub one_added : {S : Type 0} (id : Bor Text) (old new : HashSet (Bor Text) S) (ids : List Text) →
    ((q : Bor Text) → contains_by (λ k. bytes_eq q.now k.now) new ≡ cond (bytes_eq id.now q.now) true (contains_by (λ k. bytes_eq q.now k.now) old)) →
    ((x : Text) → contains_by (λ k. bytes_eq x k.now) old ≡ is_among x ids) → (x : Text) → contains_by (λ k. bytes_eq x k.now) new ≡ is_among x (ids ++ id.now ∷ [])
one_added id old new ids updates has x =
    updates (record { ref_ptr = (0, 0); now = x }) ∙ ap (cond (bytes_eq id.now x) true) (has x) ∙ cond_or (bytes_eq id.now x) (is_among x ids)
    ∙ sym (list_any-append (λ other. bytes_eq other x) ids (id.now ∷ []))

-- with one more of some ids
pub one_more_term : (terms : ReferredTerms) (ids : List (Bor Text)) (i : ℕ) (d : Bor Text) → i < length ids →
    AreTermsOf terms (texts (take i ids) ++ (get_or ids i d).now ∷ []) → AreTermsOf terms (texts (take (i + 1) ids))
one_more_term terms ids i d inside has =
    subst (AreTermsOf terms) (sym (ap texts (take_more ids i d inside) ∙ map-append (λ (s : Bor Text). s.now) (take i ids) (get_or ids i d ∷ []))) has
