-- Laws of normal texts: a cut text without a shape has a canonical tree, normal texts are fixed and keep the list, and what is written
-- tells canonical trees apart.
use Rattle.std.proofs.Common.{◌≡◌, ◌||◌, List, sym, ap, ◌∙◌}
use Rattle.fluent_grammar.specs.Words.{Text}
use Rattle.fluent_grammar.specs.Tree as t
use Rattle.fluent_grammar.specs.Tiling.{tree, list, listed}
use Rattle.fluent_grammar.specs.Tiles.{full}
use Rattle.fluent_grammar.specs.Written.{written}
use Rattle.fluent_grammar.proofs.Cases.{cases}
use Rattle.fluent_grammar.proofs.TilesPieces.{each_text_has_a_tiling}
use Rattle.fluent_tidy_laws.specs.Cut.{cut}
use Rattle.fluent_tidy_laws.proofs.Slices.{damage_is_local}
use Rattle.fluent_tidy_laws.proofs.CutTexts.{cut_texts_are_utf8, cut_texts_have_no_return}
use Rattle.fluent_tidy_laws.specs.Normal.{IsCanonical, IsNormalText}
use Rattle.fluent_tidy_laws.specs.Shapes.{tiles_marked, tree_shaped}
use Rattle.fluent_tidy_laws.specs.NormalLaws.{UnshapedIsCanonical, NoNormalTextMeansShaped, NormalTextsAreFixed, NormalTextsKeepTheList, CanonicalTreesAreToldApart}
use Rattle.fluent_tidy_laws.proofs.ReadTrees.{tiled-well_formed, reading_gives_well_formed}
use Rattle.fluent_tidy_laws.proofs.WrittenTree.{well_formed_trees_are_canonical}

-- ---- from what is well formed

pub unshaped_is_canonical : UnshapedIsCanonical
unshaped_is_canonical source r u unshaped =
    well_formed_trees_are_canonical (tree (cut source)) (reading_gives_well_formed (cut source) (cut_texts_are_utf8 source u) (cut_texts_have_no_return source r) (damage_is_local source).no_errors unshaped)

pub no_normal_text_means_shaped : NoNormalTextMeansShaped
no_normal_text_means_shaped source r u none =
    let tiling = each_text_has_a_tiling full (cut source) in
    cases (tiles_marked tiling.1 || tree_shaped (tree (cut source)))
    (λ h. record { parts = tiling.0; tiling = tiling.1; found = h })
    (λ h. absurd (none (well_formed_trees_are_canonical (tree (cut source)) (tiled-well_formed (cut source) (cut_texts_are_utf8 source u) (cut_texts_have_no_return source r) (damage_is_local source).no_errors tiling.0 tiling.1 h))))

-- ---- of canonical trees alone

canonical-at : {es fs : List t.Entry} → es ≡ fs → IsCanonical fs → IsCanonical es
canonical-at e c = rw e c

-- what is written of a canonical tree is a normal text, of itself
pub written-normal : (es : List t.Entry) → IsCanonical es → IsNormalText (written es) (written es)
written-normal es c =
    let k : tree (cut (written es)) ≡ es = ap tree ((damage_is_local (written es)).clean_stays c.no_junk) ∙ c.read_back in
    record { canonical = canonical-at k c; is = ap written (sym k) }

normal-at : {s u : Text} → s ≡ u → IsNormalText u u → IsNormalText s s
normal-at e n = rw e n

pub normal_texts_are_fixed : NormalTextsAreFixed
normal_texts_are_fixed source text n = normal-at n.is (written-normal (tree (cut source)) n.canonical)

pub normal_texts_keep_the_list : NormalTextsKeepTheList
normal_texts_keep_the_list source text n = ap list n.is ∙ ap listed n.canonical.read_back ∙ (damage_is_local source).same_list

pub canonical_trees_are_told_apart : CanonicalTreesAreToldApart
canonical_trees_are_told_apart one other c d e = sym c.read_back ∙ ap tree e ∙ d.read_back
