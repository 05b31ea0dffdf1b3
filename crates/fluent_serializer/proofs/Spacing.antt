-- One entry more, with what stands before it.
use Rattle.std.proofs.Common.{◌≡◌, ℕ, ◌+◌, ◌<◌, ◌≤◌, Bool, true, List, ◌∷◌, drop, map, length, get_or, sym, ap, ◌∙◌}
use Rattle.std.proofs.lemmas.List.{drop_all, drop_more}
use Rattle.fluent_grammar.specs.Words.{Text}
use Rattle.fluent_grammar.specs.Tree.{Entry}
use Rattle.fluent_grammar.specs.Written.{gap_signs, onto}
use Rattle.fluent_grammar.proofs.LaidOut.{onto-append, onto-nil}
use Rattle.fluent_serializer.specs.Spaced.{alone_signs, first_mark, is_free, is_parted, spaced_signs}

-- an entry is written, after a blank line or not
pub entry-written : (before between after_it : Text) (after free : Bool) (marks more : List Bool) (e : Entry) (es : List Entry) (gap last : Bool) →
    between ≡ onto before (gap_signs gap) → after_it ≡ onto between (alone_signs e) → gap ≡ is_parted after free (first_mark marks) e → last ≡ is_free e → more ≡ drop 1 marks →
    onto after_it (spaced_signs true last more es) ≡ onto before (spaced_signs after free marks (e ∷ es))
entry-written before between after_it after free marks more e es gap last o1 o2 g f m =
    rw (f, m, o2, o1, g)
    (sym (onto-append (onto before (gap_signs (is_parted after free (first_mark marks) e))) (alone_signs e) _)
    ∙ sym (onto-append before (gap_signs (is_parted after free (first_mark marks) e)) _))

-- the entries from one on
pub entries-left : {A : Type 0} (view : A → Entry) (items : List A) (i : ℕ) (item : A) → i < length items → item ≡ get_or items i item → map view (drop i items) ≡ view item ∷ map view (drop (i + 1) items)
entries-left view items i item inside is = ap (map view) (drop_more items i item inside) ∙ ap (λ x. view x ∷ map view (drop (i + 1) items)) (sym is)

-- after the last one
pub all-written : {A : Type 0} (view : A → Entry) (items : List A) (i : ℕ) (out : Text) (after free : Bool) (marks : List Bool) → length items ≤ i →
    onto out (spaced_signs after free marks (map view (drop i items))) ≡ out
all-written view items i out after free marks h = ap (λ l. onto out (spaced_signs after free marks (map view l))) (drop_all i items h) ∙ onto-nil out
