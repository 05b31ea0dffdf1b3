-- The ids of each file are those of its tree.
use Rattle.std.proofs.Common.{◌≡◌, ◌∙◌, false, List, [], ◌∷◌, map, refl, ap, Bor}
use Rattle.fluent_ast.specs.Borrowed.{entries_of}
use Rattle.fluent_ast.specs.declared.Resource.{Resource}
use Rattle.fluent_grammar.specs.Words.{Text}
use Rattle.fluent_meaning.specs.Ids.{entries_by_id, with_ids}
use Rattle.fluent_lint.specs.FileTiles.{files_of}
use Rattle.fluent_lint.specs.Own.{ids_of_tree, own_ids_of}
use Rattle.fluent_lint.specs.Reading.{bare_tree, sources_of}
use Rattle.fluent_lint.specs.declared.tiles.FileTiles.{FileTiles}

pub own_ids_are : (trees : List (Resource (Bor Text))) (tiled : List FileTiles) → map entries_of trees ≡ map bare_tree (sources_of (files_of tiled)) →
    map ids_of_tree trees ≡ map own_ids_of tiled
own_ids_are [] [] same = refl
own_ids_are [] (t ∷ ts) same = absurd cc
own_ids_are (x ∷ xs) [] same = absurd cc
own_ids_are (x ∷ xs) (t ∷ ts) same =
    let here : entries_of x ≡ bare_tree t.file.source.now = cc in
    let others : map entries_of xs ≡ map bare_tree (sources_of (files_of ts)) = cc in
    ap (λ es. with_ids false [] (entries_by_id es) ∷ map ids_of_tree xs) here
    ∙ ap (λ l. own_ids_of t ∷ l) (own_ids_are xs ts others)
