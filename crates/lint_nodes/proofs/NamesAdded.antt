-- Names with one more.
use Rattle.std.proofs.Common.{◌≡◌, ◌∙◌, Bool, true, false, cond, not, ◌||◌, if◌then◌else◌, List, [], ◌∷◌, ◌++◌, refl, ap, sym, subst, Bor}
use Rattle.std.specs.HashSet.{contains_by}
use Rattle.std.specs.Str.{bytes_eq}
use Rattle.std.proofs.lemmas.List.{map-append}
use Rattle.lint_findings.specs.Comparison.{union}
use Rattle.fluent_grammar.specs.Words.{Text, is_among}
use Rattle.lint_nodes.specs.HasNames.{HasNames, texts}
use Rattle.lint_nodes.specs.declared.name_set.Names.{Names}
use Rattle.lint_nodes.proofs.Unions.{among-append}

not_true : (a b : Bool) → a ≡ not b → a ≡ true → b ≡ false
not_true a true e h = absurd cc
not_true a false e h = refl

cond_or : (b a : Bool) → cond b true a ≡ (a || (b || false))
cond_or true true = refl
cond_or true false = refl
cond_or false true = refl
cond_or false false = refl

-- a new name was added
pub added_new : (name : Bor Text) (old new : Names) (is_new : Bool) (xs : List Text) → HasNames old xs → is_new ≡ not (contains_by (λ k. bytes_eq name.now k.now) old.set) → is_new ≡ true →
    new.list.items ≡ old.list.items ++ name ∷ [] →
    ((q : Bor Text) → contains_by (λ k. bytes_eq q.now k.now) new.set ≡ cond (bytes_eq name.now q.now) true (contains_by (λ k. bytes_eq q.now k.now) old.set)) →
    HasNames new (union xs (name.now ∷ []))
added_new name old new is_new xs has free is listed updates =
    let fresh : is_among name.now xs ≡ false = sym (has.known name.now) ∙ not_true is_new _ free is in
    let more : union xs (name.now ∷ []) ≡ xs ++ name.now ∷ [] = ap (λ b. if b then xs else xs ++ name.now ∷ []) fresh in
    subst (HasNames new) (sym more) (record {
      listed = ap texts listed ∙ map-append (λ (s : Bor Text). s.now) old.list.items (name ∷ []) ∙ ap (λ ys. ys ++ name.now ∷ []) has.listed;
      known = λ i. updates (record { ref_ptr = (0, 0); now = i }) ∙ ap (cond (bytes_eq name.now i) true) (has.known i) ∙ cond_or (bytes_eq name.now i) (is_among i xs) ∙ sym (among-append i xs (name.now ∷ []));
    })
