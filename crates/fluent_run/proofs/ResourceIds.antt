-- The ids of resources that are added one after the other.
use Rattle.std.proofs.Common.{◌≡◌, ℕ, ◌+◌, ◌<◌, List, [], ◌∷◌, ◌++◌, length, get_or, take, map, refl, sym, ap, ◌∙◌, Bool, append-nil}
use Rattle.std.proofs.lemmas.Grind.{flat_map-append}
use Rattle.std.proofs.lemmas.List.{take_more}
use Rattle.fluent_grammar.specs.Words.{Text}
use Rattle.fluent_grammar.specs.Tiling.{list, runtime_tree}
use Rattle.fluent_tidy_laws.specs.Joined.{lists}
use Rattle.fluent_meaning.specs.Ids.{Ids, with_ids, entries_by_id}
use Rattle.fluent_resource.specs.ResourceView.{entries_view}
use Rattle.fluent_resource.specs.declared.resource.FluentResource.{FluentResource}
use Rattle.fluent_answers.proofs.InTurn.{runtime_has_the_same_ids, entries_by_id-++}
use Rattle.fluent_meaning.proofs.InTurn.{with_ids-++}
use Rattle.fluent_run.specs.ResourceIds.{by_id, all_by_id}

-- one resource more
pub all_by_id-next : {F : Type 0} (rs : List FluentResource) (k : ℕ) (r : FluentResource) → k < length rs → r ≡ get_or rs k r → all_by_id {F = F} (take (k + 1) rs) ≡ all_by_id (take k rs) ++ by_id r
all_by_id-next rs k r inside is =
    ap all_by_id (take_more rs k r inside)
    ∙ flat_map-append by_id (take k rs) (get_or rs k r ∷ [])
    ∙ ap (λ x. all_by_id (take k rs) ++ x) (append-nil (by_id (get_or rs k r)) ∙ ap by_id (sym is))

pub ids-next : {F : Type 0} (start : Ids F) (rs : List FluentResource) (k : ℕ) (r : FluentResource) → k < length rs → r ≡ get_or rs k r → (overriding : Bool) →
    with_ids overriding start (all_by_id (take (k + 1) rs)) ≡ with_ids overriding (with_ids overriding start (all_by_id (take k rs))) (by_id r)
ids-next start rs k r inside is overriding =
    ap (with_ids overriding start) (all_by_id-next rs k r inside is) ∙ with_ids-++ overriding start (all_by_id (take k rs)) (by_id r)

-- resources that were read of sources have the messages and terms of the sources, by their ids
pub all_by_id-read : {F : Type 0} (rs : List FluentResource) (sources : List Text) → map entries_view rs ≡ map runtime_tree sources → all_by_id {F = F} rs ≡ entries_by_id (lists sources)
all_by_id-read [] [] same = refl
all_by_id-read [] (s ∷ ss) same = absurd cc
all_by_id-read (r ∷ rs) [] same = absurd cc
all_by_id-read {F} (r ∷ rs) (s ∷ ss) same =
    let here : entries_view r ≡ runtime_tree s = cc in
    let behind : map entries_view rs ≡ map runtime_tree ss = cc in
    ap (λ es. entries_by_id es ++ all_by_id rs) here
    ∙ (ap (λ pairs. pairs ++ all_by_id rs) (runtime_has_the_same_ids F s)
    ∙ (ap (λ pairs. entries_by_id (list s) ++ pairs) (all_by_id-read rs ss behind)
    ∙ sym (entries_by_id-++ F (list s) (lists ss))))
