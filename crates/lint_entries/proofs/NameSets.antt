-- A set of names with one name more.
use Rattle.std.proofs.Common.{◌≡◌, ◌∙◌, Bool, true, false, cond, List, ◌∷◌, ◌||◌, refl, ap}
use Rattle.std.specs.Str.{bytes_eq}
use Rattle.std.specs.Ordering.{nat_cmp}
use Rattle.std.specs.Cmp.Lexicographic.{slice_cmp}
use Rattle.std.specs.BTreeSet.{BTreeSet, contains_by, UpdatesBy}
use Rattle.std.proofs.lemmas.Map.Text.{is_eq-slice_cmp}
use denote.Ref.{Bor}
use Rattle.fluent_grammar.specs.Words.{Text, is_among}

or_is : (a b : Bool) → cond a true b ≡ (a || b)
or_is true b = refl
or_is false b = refl

pub one_more : (key : Bor Text) (old new : BTreeSet (Bor Text)) (before : List Text) → UpdatesBy (λ a b. slice_cmp nat_cmp a.now b.now) (λ b. slice_cmp nat_cmp key.now b.now) old new true →
    ((name : Text) → contains_by (λ k. slice_cmp nat_cmp name k.now) old ≡ is_among name before) → (name : Text) → contains_by (λ k. slice_cmp nat_cmp name k.now) new ≡ is_among name (key.now ∷ before)
one_more key old new before updates has name =
    let query : Bor Text = record { ref_ptr = (0, 0); now = name } in
    let had = contains_by (λ k. slice_cmp nat_cmp name k.now) old in
    updates.0 query ∙ ap (λ b. cond b true had) (is_eq-slice_cmp key.now name) ∙ or_is (bytes_eq key.now name) had ∙ ap (λ b. bytes_eq key.now name || b) (has name)
