-- Marks of entries, one by one.
use Rattle.std.proofs.Common.{◌≡◌, ℕ, ◌+◌, ◌<◌, ◌≤◌, Bool, List, [], ◌∷◌, ◌++◌, length, drop, map, get_or, sym, ap, ◌∙◌, append_assoc, append-nil}
use Rattle.std.proofs.lemmas.List.{drop_all, drop_more}
use Rattle.fluent_grammar.specs.Words.{Text}
use Rattle.fluent_grammar.specs.Tree.{Entry}
use Rattle.fluent_tidy.specs.TidyText.{apart_at, first_apart, part_count}

-- the entries from one on
entries-left : {A : Type 0} (view : A → Entry) (items : List A) (i : ℕ) (item : A) → i < length items → item ≡ get_or items i item → map view (drop i items) ≡ view item ∷ map view (drop (i + 1) items)
entries-left view items i item inside is = ap (map view) (drop_more items i item inside) ∙ ap (λ x. view x ∷ map view (drop (i + 1) items)) (sym is)

-- one mark more
pub mark_more : {A : Type 0} (view : A → Entry) (source : Text) (items : List A) (i : ℕ) (item : A) (old new all : List Bool) (places after : List ℕ) (mark : Bool) (count : ℕ) →
    i < length items → item ≡ get_or items i item → old ++ apart_at source places (map view (drop i items)) ≡ all → new ≡ old ++ mark ∷ [] → mark ≡ first_apart source places →
    count ≡ part_count (view item) → after ≡ drop count places → new ++ apart_at source after (map view (drop (i + 1) items)) ≡ all
mark_more view source items i item old new all places after mark count inside is h n m k a =
    ap (λ z. z ++ apart_at source after (map view (drop (i + 1) items))) n
    ∙ append_assoc old (mark ∷ []) (apart_at source after (map view (drop (i + 1) items)))
    ∙ ap (λ z. old ++ (z ∷ apart_at source after (map view (drop (i + 1) items)))) m
    ∙ ap (λ z. old ++ (first_apart source places ∷ apart_at source z (map view (drop (i + 1) items)))) (a ∙ ap (λ z. drop z places) k)
    ∙ ap (λ z. old ++ apart_at source places z) (sym (entries-left view items i item inside is))
    ∙ h

-- after the last entry
pub marks_done : {A : Type 0} (view : A → Entry) (source : Text) (items : List A) (i : ℕ) (old all : List Bool) (places : List ℕ) → length items ≤ i →
    old ++ apart_at source places (map view (drop i items)) ≡ all → old ≡ all
marks_done view source items i old all places over h = sym (append-nil old) ∙ ap (λ l. old ++ apart_at source places (map view l)) (sym (drop_all i items over)) ∙ h
