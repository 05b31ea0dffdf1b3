-- The slices of the errors stand between characters: what is left of the text after each part is UTF-8.
use Rattle.std.proofs.Common.{◌≡◌, ℕ, ◌+◌, Bool, false, List, [], ◌∷◌, ◌++◌, length, All, sym, ap, ◌∙◌, arith, append_assoc, subst, refl}
use Rattle.std.specs.Str.{IsUtf8, IsCharBoundary}
use Rattle.std.proofs.lemmas.Str.{IsCharBoundary-at_seam}
use Rattle.std.proofs.lemmas.List.{length-append}
use Rattle.std.proofs.lemmas.List.Elements.{All-nil, All-cons}
use Rattle.fluent_grammar.specs.Words.{Text}
use Rattle.fluent_grammar.specs.Tiling.{errors_of}
use Rattle.fluent_grammar.specs.Tiles.{full, Part, blank_block, entry, junk, passed_over, text_of_part, text_of, pieces_of, Tiles}
use Rattle.fluent_grammar.proofs.TilesPieces.{each_text_has_a_tiling, parts_are_the_text, tiling_gives_tree_and_errors}
use Rattle.fluent_tidy_laws.specs.CutLaws.{StandsBetweenCharacters, SlicesStandBetweenCharacters}
use Rattle.fluent_tidy_laws.proofs.CutTexts.{text-append, tiles-at, behind-utf8}
use Rattle.fluent_tidy_laws.proofs.Slices.{junk-slice}

boundary : {s : Text} (before behind : List Part) (at : ℕ) → Tiles full (before ++ behind) s → IsUtf8 s → length (text_of before) ≡ at → IsCharBoundary s at
boundary {s} before behind at d u e =
    let w : s ≡ text_of before ++ text_of behind = sym (parts_are_the_text full s (before ++ behind) d) ∙ text-append before behind in
    subst (IsCharBoundary s) e (IsCharBoundary-at_seam s (text_of before) (text_of behind) w (behind-utf8 before behind d u))

further : {s : Text} (before : List Part) (p : Part) (ps : List Part) → Tiles full (before ++ p ∷ ps) s → Tiles full ((before ++ p ∷ []) ++ ps) s
further before p ps d = tiles-at (sym (append_assoc before (p ∷ []) ps)) d

longer : (before : List Part) (p : Part) (at : ℕ) → length (text_of before) ≡ at → length (text_of (before ++ p ∷ [])) ≡ at + length (text_of_part p)
longer before p at e = omega (arith, ap length (text-append before (p ∷ [])), length-append (text_of before) (text_of (p ∷ [])), length-append (text_of_part p) [], e)

between : {s : Text} (before behind : List Part) (at : ℕ) (apart : Bool) → Tiles full (before ++ behind) s → IsUtf8 s → length (text_of before) ≡ at →
    All (StandsBetweenCharacters s) (errors_of (pieces_of full at apart behind))
between before [] at apart d u e = All-nil _
between before (blank_block t ∷ ps) at apart d u e = between (before ++ blank_block t ∷ []) ps _ _ (further before (blank_block t) ps d) u (longer before (blank_block t) at e)
between before (entry t x ∷ ps) at apart d u e = between (before ++ entry t x ∷ []) ps _ _ (further before (entry t x) ps d) u (longer before (entry t x) at e)
between before (passed_over t ∷ ps) at apart d u e = between (before ++ passed_over t ∷ []) ps _ _ (further before (passed_over t) ps d) u (longer before (passed_over t) at e)
between {s} before (junk t kind place ∷ ps) at apart d u e =
    let slice = junk-slice at t kind place in
    let on = further before (junk t kind place) ps d in
    let off = longer before (junk t kind place) at e in
    All-cons (StandsBetweenCharacters s) _ _
    (record {
      start = subst (IsCharBoundary s) (sym slice.0) (boundary before (junk t kind place ∷ ps) at d u e);
      end = subst (IsCharBoundary s) (sym slice.1) (boundary (before ++ junk t kind place ∷ []) ps (at + length t) on u off);
    })
    (between (before ++ junk t kind place ∷ []) ps (at + length t) false on u off)

pub slices_stand_between_characters : SlicesStandBetweenCharacters
slices_stand_between_characters s u =
    let t = each_text_has_a_tiling full s in
    subst (All (StandsBetweenCharacters s)) (tiling_gives_tree_and_errors full s t.0 t.1).1 (between [] t.0 0 false t.1 u refl)
