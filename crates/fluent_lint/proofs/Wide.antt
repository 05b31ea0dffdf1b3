-- The ids of a tree, and then those of all trees beside it.
use Rattle.std.proofs.Common.{◌≡◌, ◌∙◌, ℕ, ◌+◌, ◌<◌, false, if◌then◌else◌, List, [], ◌∷◌, ◌++◌, Option, Some, None, length, take, get_or, map, refl, sym, ap, append-nil}
use Rattle.std.proofs.lemmas.List.{take_more}
use Rattle.std.proofs.lemmas.List.Concat.{flat_map-append}
use denote.Ref.{Bor}
use Rattle.fluent_ast.specs.Borrowed.{entries_of}
use Rattle.fluent_ast.specs.declared.Resource.{Resource}
use Rattle.fluent_grammar.specs.Tree as t
use Rattle.fluent_grammar.specs.Words.{Text}
use Rattle.fluent_meaning.proofs.InTurn.{with_ids-++}
use Rattle.fluent_meaning.specs.Ids.{Ids, Meaning, entries_by_id, with_ids}
use Rattle.fluent_lint.specs.FileTiles.{files_of, files_view}
use Rattle.fluent_lint.specs.Known.{trees_by_id}
use Rattle.fluent_lint.specs.Own.{wide_ids_of, wide_of_tree}
use Rattle.fluent_lint.specs.Reading.{bare_tree, sources_of}
use Rattle.fluent_lint.specs.Shown.{all_by_id, any_refers_out}
use Rattle.fluent_lint.specs.declared.tiles.FileTiles.{FileTiles}

-- the entries of one more tree were added
pub one_wide : (first : Ids (Unit {0})) (trees : List (Resource (Bor Text))) (i : ℕ) (tree : Resource (Bor Text)) → i < length trees → tree ≡ get_or trees i tree →
    (ids : Ids (Unit {0})) → ids ≡ with_ids false first (trees_by_id (take i trees)) →
    with_ids false ids (entries_by_id (entries_of tree)) ≡ with_ids false first (trees_by_id (take (i + 1) trees))
one_wide first trees i tree inside is ids before =
    let of_tree : Resource (Bor Text) → List (Text × Meaning (Unit {0})) = λ r. entries_by_id (entries_of r) in
    let old = trees_by_id (take i trees) in
    let more : trees_by_id (take (i + 1) trees) ≡ old ++ of_tree tree =
    ap trees_by_id (take_more trees i tree inside ∙ ap (λ r. take i trees ++ r ∷ []) (sym is))
    ∙ flat_map-append of_tree (take i trees) (tree ∷ [])
    ∙ ap (λ l. old ++ l) (append-nil (of_tree tree)) in
    ap (λ x. with_ids false x (of_tree tree)) before
    ∙ sym (with_ids-++ false first old (of_tree tree))
    ∙ ap (with_ids false first) (sym more)

-- trees that are those of files
same_by_id : (trees : List (Resource (Bor Text))) (tiled : List FileTiles) → map entries_of trees ≡ map bare_tree (sources_of (files_of tiled)) →
    trees_by_id trees ≡ all_by_id (files_view (files_of tiled))
same_by_id [] [] same = refl
same_by_id [] (t ∷ ts) same = absurd cc
same_by_id (x ∷ xs) [] same = absurd cc
same_by_id (x ∷ xs) (t ∷ ts) same =
    let here : entries_of x ≡ bare_tree t.file.source.now = cc in
    let others : map entries_of xs ≡ map bare_tree (sources_of (files_of ts)) = cc in
    ap (λ es. entries_by_id es ++ trees_by_id xs) here
    ∙ ap (λ l. entries_by_id (bare_tree t.file.source.now) ++ l) (same_by_id xs ts others)

abbrev wide_by : List t.Entry → List (Text × Meaning (Unit {0})) → Option (Ids (Unit {0}))
wide_by es all =
    let own = with_ids false [] (entries_by_id es) in
    if any_refers_out own es then Some (with_ids false own all) else None

each_wide : (all : List (Text × Meaning (Unit {0}))) (trees : List (Resource (Bor Text))) (tiled : List FileTiles) →
    map entries_of trees ≡ map bare_tree (sources_of (files_of tiled)) →
    map (λ tree. wide_by (entries_of tree) all) trees ≡ map (λ (t : FileTiles). wide_by (bare_tree t.file.source.now) all) tiled
each_wide all [] [] same = refl
each_wide all [] (t ∷ ts) same = absurd cc
each_wide all (x ∷ xs) [] same = absurd cc
each_wide all (x ∷ xs) (t ∷ ts) same =
    let here : entries_of x ≡ bare_tree t.file.source.now = cc in
    let others : map entries_of xs ≡ map bare_tree (sources_of (files_of ts)) = cc in
    ap (λ es. wide_by es all ∷ map (λ tree. wide_by (entries_of tree) all) xs) here
    ∙ ap (λ l. wide_by (bare_tree t.file.source.now) all ∷ l) (each_wide all xs ts others)

pub wide_ids_are : (trees : List (Resource (Bor Text))) (tiled : List FileTiles) → map entries_of trees ≡ map bare_tree (sources_of (files_of tiled)) →
    map (wide_of_tree trees) trees ≡ map (wide_ids_of (files_view (files_of tiled))) tiled
wide_ids_are trees tiled same =
    each_wide (trees_by_id trees) trees tiled same
    ∙ ap (λ all. map (λ (t : FileTiles). wide_by (bare_tree t.file.source.now) all) tiled) (same_by_id trees tiled same)
