-- A set of keys with one key more.
use Rattle.std.proofs.Common.{◌≡◌, ◌∙◌, Bool, true, false, cond, List, ◌∷◌, ◌||◌, refl, sym, ap, subst}
use Rattle.std.specs.Str.{bytes_eq}
use Rattle.std.specs.Ordering.{nat_cmp}
use Rattle.std.specs.Cmp.Lexicographic.{slice_cmp}
use Rattle.std.specs.BTreeSet.{BTreeSet, contains_by, UpdatesBy}
use Rattle.std.proofs.lemmas.Map.Text.{is_eq-slice_cmp}
use Rattle.std.specs.Cmp.Lexicographic.{nat_list_eq_equiv}
use denote.Ref.{Bor}
use Rattle.fluent_grammar.specs.Words.{Text}
use Rattle.fluent_grammar.specs.Tree as t
use Rattle.lint_nodes.specs.declared.keys.Keys.{Keys}
use Rattle.lint_nodes.specs.HasKeys.{HasKeys}

or_is : (a b : Bool) → cond a true b ≡ (a || b)
or_is true b = refl
or_is false b = refl

pub one_more : (key : Bor Text) (old new : BTreeSet (Bor Text)) → UpdatesBy (λ a b. slice_cmp nat_cmp a.now b.now) (λ b. slice_cmp nat_cmp key.now b.now) old new true →
    (name : Text) → contains_by (λ k. slice_cmp nat_cmp name k.now) new ≡ (bytes_eq name key.now || contains_by (λ k. slice_cmp nat_cmp name k.now) old)
one_more key old new updates name =
    let query : Bor Text = record { ref_ptr = (0, 0); now = name } in
    let had = contains_by (λ k. slice_cmp nat_cmp name k.now) old in
    updates.0 query ∙ ap (λ b. cond b true had) (is_eq-slice_cmp key.now name ∙ nat_list_eq_equiv.symm key.now name) ∙ or_is (bytes_eq name key.now) had

-- a set of names with the one of this key
abbrev pub Adds : Bor Text → BTreeSet (Bor Text) → BTreeSet (Bor Text) → Type 0
Adds key old new = UpdatesBy (λ a b. slice_cmp nat_cmp a.now b.now) (λ b. slice_cmp nat_cmp key.now b.now) old new true

pub with_identifier : (key : Bor Text) (keys : Keys) (new : BTreeSet (Bor Text)) (k : t.VariantKey) (before : List t.VariantKey) → k ≡ t.identifier_key key.now → Adds key keys.identifiers new →
    HasKeys keys before → HasKeys (record { identifiers = new; numbers = keys.numbers }) (k ∷ before)
with_identifier key keys new k before same adds has =
    let P : t.VariantKey → Type 0 = λ x. HasKeys (record { identifiers = new; numbers = keys.numbers }) (x ∷ before) in
    subst P (sym same) (record {
      identifiers = λ name. one_more key keys.identifiers new adds name ∙ ap (λ b. bytes_eq name key.now || b) (has.identifiers name);
      numbers = λ name. has.numbers name;
    })

pub with_number : (key : Bor Text) (keys : Keys) (new : BTreeSet (Bor Text)) (k : t.VariantKey) (before : List t.VariantKey) → k ≡ t.number_key key.now → Adds key keys.numbers new →
    HasKeys keys before → HasKeys (record { identifiers = keys.identifiers; numbers = new }) (k ∷ before)
with_number key keys new k before same adds has =
    let P : t.VariantKey → Type 0 = λ x. HasKeys (record { identifiers = keys.identifiers; numbers = new }) (x ∷ before) in
    subst P (sym same) (record {
      identifiers = λ name. has.identifiers name;
      numbers = λ name. one_more key keys.numbers new adds name ∙ ap (λ b. bytes_eq name key.now || b) (has.numbers name);
    })
