-- What the slices of the errors leave is what the tiling keeps; so the cut text has no errors, and the list of the source.
use Rattle.std.proofs.Common.{◌≡◌, ℕ, ◌+◌, ◌-◌, Bool, true, false, cond, List, [], ◌∷◌, ◌++◌, length, refl, sym, ap, ◌∙◌, arith, append_assoc}
use Rattle.std.proofs.lemmas.List.{length-append}
use Rattle.std.proofs.Math.Seq.{take-append_seam, drop-append_seam}
use Rattle.fluent_grammar.specs.Words.{Text}
use Rattle.fluent_grammar.specs.Refusal.{Kind}
use Rattle.fluent_grammar.specs.Tiling.{ParserError, is_field_kind, errors, errors_of, list}
use Rattle.fluent_grammar.specs.Tiles.{full, Part, blank_block, entry, junk, passed_over, text_of, pieces_of, error_of_junk}
use Rattle.fluent_grammar.proofs.TilesPieces.{each_text_has_a_tiling, parts_are_the_text, tiling_gives_tree_and_errors}
use Rattle.fluent_tidy_laws.specs.Cut.{without_slices, cut, kept}
use Rattle.fluent_tidy_laws.specs.CutLaws.{DamageIsLocal, CutKeepsParts}
use Rattle.fluent_tidy_laws.proofs.Clean.{clean-list, clean-errors, list-tiled}
use Rattle.fluent_tidy_laws.proofs.Cutting.{tiles-cut}

-- where the error of junk says that it stands
chosen-slice : (at : ℕ) (t : Text) (b : Bool) (x y : ParserError) → (x.slice_start ≡ at) × (x.slice_end ≡ at + length t) → (y.slice_start ≡ at) × (y.slice_end ≡ at + length t) →
    ((cond b x y).slice_start ≡ at) × ((cond b x y).slice_end ≡ at + length t)
chosen-slice at t true x y p q = p
chosen-slice at t false x y p q = q

pub junk-slice : (at : ℕ) (t : Text) (kind : Kind) (place : ℕ) → ((error_of_junk at t kind place).slice_start ≡ at) × ((error_of_junk at t kind place).slice_end ≡ at + length t)
junk-slice at t kind place = chosen-slice at t (is_field_kind kind) _ _ (refl, refl) (refl, refl)

-- one slice, after what is kept
slice-cut : (from at : ℕ) (pre t rest : Text) (error : ParserError) (others : List ParserError) → from + length pre ≡ at → error.slice_start ≡ at → error.slice_end ≡ at + length t →
    without_slices from (error ∷ others) (pre ++ (t ++ rest)) ≡ pre ++ without_slices (at + length t) others rest
slice-cut from at pre t rest error others h start end =
    let a : error.slice_start - from ≡ length pre = omega (arith, start, h) in
    let b : error.slice_end - from ≡ length (pre ++ t) = omega (arith, end, h, length-append pre t) in
    rw (a, b, end, take-append_seam pre (t ++ rest), ← append_assoc pre t rest, drop-append_seam (pre ++ t) rest) refl

more-kept : (t : Text) (parts : List Part) (from at : ℕ) (apart : Bool) (pre : Text) → from + length pre ≡ at →
    ((pre : Text) → from + length pre ≡ at + length t → without_slices from (errors_of (pieces_of full (at + length t) apart parts)) (pre ++ text_of parts) ≡ pre ++ kept parts) →
    without_slices from (errors_of (pieces_of full (at + length t) apart parts)) (pre ++ (t ++ text_of parts)) ≡ pre ++ (t ++ kept parts)
more-kept t parts from at apart pre h left =
    ap (without_slices from (errors_of (pieces_of full (at + length t) apart parts))) (sym (append_assoc pre t (text_of parts)))
    ∙ left (pre ++ t) (omega (arith, h, length-append pre t)) ∙ append_assoc pre t (kept parts)

slices-kept : (parts : List Part) (from at : ℕ) (apart : Bool) (pre : Text) → from + length pre ≡ at →
    without_slices from (errors_of (pieces_of full at apart parts)) (pre ++ text_of parts) ≡ pre ++ kept parts
slices-kept [] from at apart pre h = refl
slices-kept (blank_block t ∷ parts) from at apart pre h = more-kept t parts from at _ pre h (λ pre k. slices-kept parts from (at + length t) _ pre k)
slices-kept (entry t e ∷ parts) from at apart pre h = more-kept t parts from at _ pre h (λ pre k. slices-kept parts from (at + length t) _ pre k)
slices-kept (passed_over t ∷ parts) from at apart pre h = more-kept t parts from at _ pre h (λ pre k. slices-kept parts from (at + length t) _ pre k)
slices-kept (junk t kind place ∷ parts) from at apart pre h =
    let d = junk-slice at t kind place in
    slice-cut from at pre t (text_of parts) (error_of_junk at t kind place) _ h d.0 d.1
    ∙ ap (λ z. pre ++ z) (slices-kept parts (at + length t) (at + length t) false [] (omega arith))

pub cut_keeps_parts : CutKeepsParts
cut_keeps_parts s parts d =
    let e : errors s ≡ errors_of (pieces_of full 0 false parts) = sym (tiling_gives_tree_and_errors full s parts d).1 in
    let w : text_of parts ≡ s = parts_are_the_text full s parts d in
    ap (λ es. without_slices 0 es s) e ∙ ap (without_slices 0 (errors_of (pieces_of full 0 false parts))) (sym w) ∙ slices-kept parts 0 0 false [] refl

pub damage_is_local : DamageIsLocal
damage_is_local s =
    let t = each_text_has_a_tiling full s in
    let k : cut s ≡ kept t.0 = cut_keeps_parts s t.0 t.1 in
    let c = tiles-cut t.1 in
    record {
      no_errors = ap errors k ∙ clean-errors c;
      same_list = ap list k ∙ clean-list c ∙ sym (list-tiled s t.0 t.1);
      clean_stays = λ e. ap (λ es. without_slices 0 es s) e;
    }
