-- Notices tell of ids and kinds alone, so the comment of an entry makes no difference to them.
use Rattle.std.proofs.Common.{◌≡◌, Bool, false, ◌||◌, List, [], ◌∷◌, ◌++◌, map, is_some, cond, refl, ap, ap₂, sym, ◌∙◌}
use Rattle.std.specs.Str.{bytes_eq}
use Rattle.std.proofs.lemmas.List.{map-append}
use denote.Ref.{Bor}
use Rattle.fluent_ast.specs.declared.Resource.{Resource}
use Rattle.fluent_errors.specs.Errors as e
use Rattle.fluent_grammar.specs.Words.{Text}
use Rattle.fluent_grammar.specs.Tree as t
use Rattle.fluent_grammar.specs.Tiling.{tree, list, listed}
use Rattle.fluent_tidy_laws.specs.Joined.{lists}
use Rattle.fluent_value.specs.declared.function.NoFunction.{NoFunction}
use Rattle.fluent_meaning.specs.Ids.{Ids, Meaning, find, kind_of, with_id, notice, notices, entries_by_id}
use Rattle.fluent_answers.proofs.InTurn.{entries_by_id-++}
use Rattle.fluent_ids.proofs.Steps.{known_after}
use Rattle.fluent_ids.specs.ResourceEntries.{entries_in}
use Rattle.fluent_check.specs.Added.{trees_by_id}

abbrev told_if : Bool → Text × e.Kind → List e.Reported
told_if known p = cond known (e.overriding p.1 p.0 ∷ []) []

module _ {F : Type 0} where
  abbrev id_and_kind : Text × Meaning F → Text × e.Kind
  id_and_kind p = (p.0, kind_of p.1)

  -- the ids and the kinds of pairs
  abbrev kinds : List (Text × Meaning F) → List (Text × e.Kind)
  kinds pairs = map id_and_kind pairs

  -- the same ids stand for something
  abbrev KnowSame : Ids F → Ids F → Type 0
  KnowSame ids others = (id : Text) → is_some (find ids id) ≡ is_some (find others id)

  -- pairs of the same ids and kinds have the same notices
  pub notices-alike : (ids others : Ids F) (ps qs : List (Text × Meaning F)) → KnowSame ids others → kinds ps ≡ kinds qs → notices ids ps ≡ notices others qs
  notices-alike ids others [] [] known same = refl
  notices-alike ids others [] (q ∷ qs) known same = absurd cc
  notices-alike ids others (p ∷ ps) [] known same = absurd cc
  notices-alike ids others (p ∷ ps) (q ∷ qs) known same =
      let first : id_and_kind p ≡ id_and_kind q = cc in
      let id : p.0 ≡ q.0 = ap (λ x. x.0) first in
      let kind : kind_of p.1 ≡ kind_of q.1 = ap (λ x. x.1) first in
      let behind : kinds ps ≡ kinds qs = cc in
      let here : notice ids p ≡ notice others q =
      ap (λ b. told_if b (p.0, kind_of p.1)) (known p.0)
      ∙ ap (λ x. told_if (is_some (find others x)) (x, kind_of p.1)) id
      ∙ ap (λ k. told_if (is_some (find others q.0)) (q.0, k)) kind in
      let later : KnowSame (with_id false ids p) (with_id false others q) = λ x.
      known_after ids p x
      ∙ ap (λ y. bytes_eq y x || is_some (find ids x)) id
      ∙ ap (λ b. bytes_eq q.0 x || b) (known x)
      ∙ sym (known_after others q x) in
      ap₂ (λ x y. x ++ y) here (notices-alike (with_id false ids p) (with_id false others q) ps qs later behind)

module _ (F : Type 0) where
  -- entries and their list have the same ids and kinds
  listed-kinds : (es : List t.Entry) → kinds {F = F} (entries_by_id es) ≡ kinds {F = F} (entries_by_id (listed es))
  listed-kinds [] = refl
  listed-kinds (t.message m ∷ es) = ap (λ ks. (m.id, e.message) ∷ ks) (listed-kinds es)
  listed-kinds (t.term m ∷ es) = ap (λ ks. (m.id, e.term) ∷ ks) (listed-kinds es)
  listed-kinds (t.comment c ∷ es) = listed-kinds es
  listed-kinds (t.group_comment c ∷ es) = listed-kinds es
  listed-kinds (t.resource_comment c ∷ es) = listed-kinds es
  listed-kinds (t.junk s ∷ es) = listed-kinds es

abbrev Pairs : Type 0
Pairs = List (Text × Meaning NoFunction)

abbrev of_list : List t.Entry → Pairs
of_list es = entries_by_id es

abbrev plain_kinds : Pairs → List (Text × e.Kind)
plain_kinds pairs = kinds pairs

kinds-++ : (ps qs : Pairs) → plain_kinds (ps ++ qs) ≡ plain_kinds ps ++ plain_kinds qs
kinds-++ ps qs = map-append id_and_kind ps qs

-- trees that were read of sources have the ids and kinds of the sources' messages and terms
trees-kinds : (trees : List (Resource (Bor Text))) (sources : List Text) → map entries_in trees ≡ map tree sources → plain_kinds (trees_by_id trees) ≡ plain_kinds (of_list (lists sources))
trees-kinds [] [] same = refl
trees-kinds [] (s ∷ ss) same = absurd cc
trees-kinds (r ∷ rs) [] same = absurd cc
trees-kinds (r ∷ rs) (s ∷ ss) same =
    let here : entries_in r ≡ tree s = cc in
    let behind : map entries_in rs ≡ map tree ss = cc in
    kinds-++ (of_list (entries_in r)) (trees_by_id rs)
    ∙ (ap (λ es. plain_kinds (of_list es) ++ plain_kinds (trees_by_id rs)) here
    ∙ (ap (λ ks. ks ++ plain_kinds (trees_by_id rs)) (listed-kinds NoFunction (tree s))
    ∙ (ap (λ ks. plain_kinds (of_list (list s)) ++ ks) (trees-kinds rs ss behind)
    ∙ (sym (kinds-++ (of_list (list s)) (of_list (lists ss)))
    ∙ ap plain_kinds (sym (entries_by_id-++ NoFunction (list s) (lists ss)))))))

-- they have the sources' notices
pub notices-read : (ids : Ids NoFunction) (trees : List (Resource (Bor Text))) (sources : List Text) → map entries_in trees ≡ map tree sources → notices ids (trees_by_id trees) ≡ notices ids (entries_by_id (lists sources))
notices-read ids trees sources same = notices-alike ids ids (trees_by_id trees) (of_list (lists sources)) (λ x. refl) (trees-kinds trees sources same)
