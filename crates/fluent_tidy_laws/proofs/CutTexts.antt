-- The cut text of UTF-8 is UTF-8, and that of a text without carriage returns has none.
use Rattle.std.proofs.Common.{◌≡◌, ◌≤◌, [], ◌∷◌, ◌++◌, List, length, refl, sym, ap, ◌∙◌, arith, append_assoc, inl, inr, subst}
use Rattle.std.specs.Str.{IsUtf8}
use Rattle.std.proofs.lemmas.Str.{IsUtf8-append, IsUtf8-nil, IsUtf8-take, IsCharBoundary-from_drop}
use Rattle.std.proofs.lemmas.List.{length-append}
use Rattle.std.proofs.Math.Seq.{take-append_seam, drop-append_seam}
use Rattle.fluent_grammar.specs.Words.{Text, line_feed}
use Rattle.fluent_grammar.specs.Recovery.{IsColumnZero}
use Rattle.fluent_grammar.specs.Tiles.{full, Part, blank_block, entry, junk, passed_over, text_of_part, text_of, Tiles}
use Rattle.fluent_grammar.proofs.TilesPieces.{each_text_has_a_tiling, parts_are_the_text}
use Rattle.fluent_grammar.proofs.TilesColumns.{parts_begin_at_column_zero}
use Rattle.fluent_tidy_laws.specs.Cut.{kept}
use Rattle.fluent_tidy_laws.specs.Joined.{HasNoReturn}
use Rattle.fluent_tidy_laws.specs.CutLaws.{CutTextsAreUtf8, CutTextsHaveNoReturn}
use Rattle.fluent_tidy_laws.proofs.TextParts.{empty_or, utf8-behind, no_return-left, no_return-right, no_return-append}
use Rattle.fluent_tidy_laws.proofs.Slices.{cut_keeps_parts}

-- ---- carriage returns

kept-no_return : (parts : List Part) → HasNoReturn (text_of parts) → HasNoReturn (kept parts)
kept-no_return [] h = refl
kept-no_return (blank_block s ∷ ps) h = no_return-append s (kept ps) (no_return-left s (text_of ps) h) (kept-no_return ps (no_return-right s (text_of ps) h))
kept-no_return (entry s e ∷ ps) h = no_return-append s (kept ps) (no_return-left s (text_of ps) h) (kept-no_return ps (no_return-right s (text_of ps) h))
kept-no_return (junk s k p ∷ ps) h = kept-no_return ps (no_return-right s (text_of ps) h)
kept-no_return (passed_over s ∷ ps) h = no_return-append s (kept ps) (no_return-left s (text_of ps) h) (kept-no_return ps (no_return-right s (text_of ps) h))

pub cut_texts_have_no_return : CutTextsHaveNoReturn
cut_texts_have_no_return s n =
    let t = each_text_has_a_tiling full s in
    subst HasNoReturn (sym (cut_keeps_parts s t.0 t.1)) (kept-no_return t.0 (subst HasNoReturn (sym (parts_are_the_text full s t.0 t.1)) n))

-- ---- UTF-8: each part begins at column 0

pub text-append : (a b : List Part) → text_of (a ++ b) ≡ text_of a ++ text_of b
text-append [] b = refl
text-append (p ∷ ps) b = ap (λ z. text_of_part p ++ z) (text-append ps b) ∙ sym (append_assoc (text_of_part p) (text_of ps) (text_of b))

column-utf8 : (a b : Text) → IsColumnZero a → IsUtf8 (a ++ b) → IsUtf8 b
column-utf8 a b (inl e) u = rw e at u
column-utf8 a b (inr l) u = utf8-behind l.0 line_feed b (subst IsUtf8 (ap (λ z. z ++ b) l.1 ∙ append_assoc l.0 (line_feed ∷ []) b) u) (omega arith)

pub tiles-at : {ps qs : List Part} {s : Text} → ps ≡ qs → Tiles full ps s → Tiles full qs s
tiles-at e d = rw e at d

pub behind-utf8 : {s : Text} (before behind : List Part) → Tiles full (before ++ behind) s → IsUtf8 s → IsUtf8 (text_of behind)
behind-utf8 before [] d u = IsUtf8-nil
behind-utf8 {s} before (p ∷ ps) d u =
    elim (empty_or (text_of_part p)) [
      | inl e ↦ subst IsUtf8 (ap (λ z. z ++ text_of ps) (sym e)) (behind-utf8 (before ++ p ∷ []) ps (tiles-at (sym (append_assoc before (p ∷ []) ps)) d) u)
      | inr some ↦
          let w : s ≡ text_of before ++ text_of (p ∷ ps) = sym (parts_are_the_text full s (before ++ p ∷ ps) d) ∙ text-append before (p ∷ ps) in
          column-utf8 (text_of before) (text_of (p ∷ ps)) (parts_begin_at_column_zero full s before p ps d some) (subst IsUtf8 w u)
    ]

front-utf8 : (a b : Text) → IsUtf8 (a ++ b) → IsUtf8 b → IsUtf8 a
front-utf8 a b u v =
    let l : length a ≤ length (a ++ b) = omega (arith, length-append a b) in
    let k = IsCharBoundary-from_drop (a ++ b) (length a) l (subst IsUtf8 (sym (drop-append_seam a b)) v) in
    subst IsUtf8 (take-append_seam a b) (IsUtf8-take (a ++ b) (length a) u k)

part-utf8 : {s : Text} (before : List Part) (p : Part) (ps : List Part) → Tiles full (before ++ p ∷ ps) s → IsUtf8 s → IsUtf8 (text_of_part p)
part-utf8 before p ps d u =
    front-utf8 (text_of_part p) (text_of ps) (behind-utf8 before (p ∷ ps) d u) (behind-utf8 (before ++ p ∷ []) ps (tiles-at (sym (append_assoc before (p ∷ []) ps)) d) u)

kept-utf8 : {s : Text} (before behind : List Part) → Tiles full (before ++ behind) s → IsUtf8 s → IsUtf8 (kept behind)
kept-utf8 before [] d u = IsUtf8-nil
kept-utf8 before (blank_block x ∷ ps) d u = IsUtf8-append x (kept ps) (part-utf8 before (blank_block x) ps d u) (kept-utf8 (before ++ blank_block x ∷ []) ps (tiles-at (sym (append_assoc before (blank_block x ∷ []) ps)) d) u)
kept-utf8 before (entry x e ∷ ps) d u = IsUtf8-append x (kept ps) (part-utf8 before (entry x e) ps d u) (kept-utf8 (before ++ entry x e ∷ []) ps (tiles-at (sym (append_assoc before (entry x e ∷ []) ps)) d) u)
kept-utf8 before (junk x k q ∷ ps) d u = kept-utf8 (before ++ junk x k q ∷ []) ps (tiles-at (sym (append_assoc before (junk x k q ∷ []) ps)) d) u
kept-utf8 before (passed_over x ∷ ps) d u = IsUtf8-append x (kept ps) (part-utf8 before (passed_over x) ps d u) (kept-utf8 (before ++ passed_over x ∷ []) ps (tiles-at (sym (append_assoc before (passed_over x ∷ []) ps)) d) u)

pub cut_texts_are_utf8 : CutTextsAreUtf8
cut_texts_are_utf8 s u =
    let t = each_text_has_a_tiling full s in
    subst IsUtf8 (sym (cut_keeps_parts s t.0 t.1)) (kept-utf8 [] t.0 t.1 u)
