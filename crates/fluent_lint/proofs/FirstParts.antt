-- The parts of a file that are the first of their id, one after the other.
use Rattle.std.proofs.Common.{◌≡◌, ◌∙◌, ℕ, ◌+◌, ◌<◌, List, [], ◌∷◌, ◌++◌, length, take, get_or, map, refl, sym, ap, append-nil, append_assoc}
use Rattle.fluent_grammar.specs.Words.{Text}
use Rattle.lint_entries.specs.Kept.{Part}
use Rattle.lint_entries.specs.TileView.{tile_view}
use Rattle.lint_entries.specs.declared.tile.Tile.{Tile}
use Rattle.lint_findings.specs.Finding.{Finding}
use Rattle.fluent_lint.specs.Shown.{ids_with, if_first, of_firsts}
use Rattle.fluent_lint.proofs.Loops.{front_mapped}

-- the ids after parts
abbrev pub ids_through : List Text → List Part → List Text
ids_through ids [] = ids
ids_through ids (p ∷ ps) = ids_through (ids_with ids p) ps

ids_more : (ids : List Text) (ps : List Part) (p : Part) → ids_through ids (ps ++ p ∷ []) ≡ ids_with (ids_through ids ps) p
ids_more ids [] p = refl
ids_more ids (q ∷ ps) p = ids_more (ids_with ids q) ps p

module _ (by : Part → List Finding) where
  firsts_more : (ids : List Text) (ps : List Part) (p : Part) → of_firsts by ids (ps ++ p ∷ []) ≡ of_firsts by ids ps ++ if_first by (ids_through ids ps) p
  firsts_more ids [] p = append-nil (if_first by ids p)
  firsts_more ids (q ∷ ps) p =
      let next = ids_with ids q in
      ap (λ fs. if_first by ids q ++ fs) (firsts_more next ps p)
      ∙ sym (append_assoc (if_first by ids q) (of_firsts by next ps) (if_first by (ids_through next ps) p))

module _ (tiles : List Tile) (i : ℕ) (d : Tile) (inside : i < length tiles) (is : d ≡ get_or tiles i d) where
  abbrev so : List Part
  so = map tile_view (take i tiles)

  pub ids_next : ids_with (ids_through [] so) (tile_view d) ≡ ids_through [] (map tile_view (take (i + 1) tiles))
  ids_next = sym (ids_more [] so (tile_view d)) ∙ ap (ids_through []) (sym (front_mapped tiles i d inside is tile_view))

  pub firsts_next : (by : Part → List Finding) (x y z : List Finding) → z ≡ y ++ if_first by (ids_through [] so) (tile_view d)
      → y ≡ x ++ of_firsts by [] so → z ≡ x ++ of_firsts by [] (map tile_view (take (i + 1) tiles))
  firsts_next by x y z step before =
      let here = if_first by (ids_through [] so) (tile_view d) in
      step
      ∙ ap (λ l. l ++ here) before
      ∙ append_assoc x (of_firsts by [] so) here
      ∙ ap (λ l. x ++ l) (sym (firsts_more by [] so (tile_view d)) ∙ ap (of_firsts by []) (sym (front_mapped tiles i d inside is tile_view)))
