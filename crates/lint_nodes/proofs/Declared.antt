-- The ids that entries declare, with those of one more entry or tree.
use Rattle.std.proofs.Common.{◌≡◌, ◌∙◌, ℕ, ◌+◌, ◌<◌, List, [], ◌∷◌, ◌++◌, length, map, take, get_or, Some, None, ap, sym, append-nil, Bor}
use Rattle.std.specs.Option.{option_to_list}
use Rattle.std.specs.List.{flat_map}
use Rattle.std.proofs.lemmas.List.{map_more, take_more, append_assoc}
use Rattle.std.proofs.lemmas.List.Concat.{flat_map-append}
use Rattle.fluent_ast.specs.Borrowed.{entry_of, entries_of}
use Rattle.fluent_ast.specs.declared.Entry.{Entry}
use Rattle.fluent_ast.specs.declared.Resource.{Resource}
use Rattle.fluent_grammar.specs.Words.{Text}
use Rattle.fluent_grammar.specs.Tree as t
use Rattle.lint_findings.specs.DuplicateIds.{id_of}
use Rattle.lint_nodes.specs.Catalog.{ids_of_trees}
use Rattle.lint_nodes.specs.Holding.{declared_ids}

module _ (xs : List (Entry (Bor Text))) (i : ℕ) (item : Entry (Bor Text)) (inside : i < length xs) (is : item ≡ get_or xs i item) where
  abbrev pub before : List Text
  before = declared_ids (map entry_of (take i xs))

  one_more : declared_ids (map entry_of (take (i + 1) xs)) ≡ before ++ option_to_list (id_of (entry_of item))
  one_more =
      ap declared_ids (map_more entry_of xs i item inside ∙ ap (λ y. map entry_of (take i xs) ++ entry_of y ∷ []) (sym is))
      ∙ flat_map-append (λ (e : t.Entry). option_to_list (id_of e)) (map entry_of (take i xs)) (entry_of item ∷ [])
      ∙ ap (λ ids. before ++ ids) (append-nil (option_to_list (id_of (entry_of item))))

  -- an entry that declares an id
  pub declares : (seen : List Text) (id : Text) → id_of (entry_of item) ≡ Some id → (seen ++ before) ++ id ∷ [] ≡ seen ++ declared_ids (map entry_of (take (i + 1) xs))
  declares seen id e =
      append_assoc seen before (id ∷ [])
      ∙ ap (λ ids. seen ++ ids) (ap (λ o. before ++ option_to_list o) (sym e) ∙ sym one_more)

  -- an entry that declares none
  pub declares_none : (seen : List Text) → id_of (entry_of item) ≡ None → seen ++ before ≡ seen ++ declared_ids (map entry_of (take (i + 1) xs))
  declares_none seen e =
      ap (λ ids. seen ++ ids) (sym (append-nil before) ∙ ap (λ o. before ++ option_to_list o) (sym e) ∙ sym one_more)

-- with those of one more tree
pub tree_more : (trees : List (Resource (Bor Text))) (i : ℕ) (tree : Resource (Bor Text)) → i < length trees → tree ≡ get_or trees i tree →
    ids_of_trees (take (i + 1) trees) ≡ ids_of_trees (take i trees) ++ declared_ids (entries_of tree)
tree_more trees i tree inside is =
    let ids : Resource (Bor Text) → List Text = λ x. declared_ids (entries_of x) in
    ap (flat_map ids) (take_more trees i tree inside)
    ∙ flat_map-append ids (take i trees) (get_or trees i tree ∷ [])
    ∙ ap (λ more. flat_map ids (take i trees) ++ more) (append-nil (ids (get_or trees i tree)) ∙ ap ids (sym is))
