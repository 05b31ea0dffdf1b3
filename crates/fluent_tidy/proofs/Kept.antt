-- What is left to do while a source is cut: the slices of the errors that are to come.
use Rattle.std.proofs.Common.{◌≡◌, ℕ, zero, suc, ◌+◌, ◌-◌, ◌<◌, ◌≤◌, List, [], ◌∷◌, ◌++◌, length, drop, take, map, get_or, slice_range, Option, Some, None, option_map, All, refl, sym, ap, ◌∙◌, arith, append_assoc, subst, Result, Ok, Err}
use Rattle.std.specs.Prelude.{if◌then◌else◌, is_ok, OnOk}
use Rattle.std.specs.Str.{IsUtf8, IsCharBoundary}
use Rattle.std.specs.declared.ops.Range.{Range}
use Rattle.std.proofs.lemmas.Str.{IsCharBoundary-start}
use Rattle.std.proofs.lemmas.List.{drop-drop}
use Rattle.std.proofs.lemmas.List.Elements.{All-head, All-tail}
use Rattle.std.proofs.Math.Seq.{drop-cons}
use Rattle.fluent_grammar.specs.Words.{Text}
use Rattle.fluent_grammar.specs.Tiling.{ParserError, errors}
use Rattle.fluent_grammar.specs.TilingLaws.{Ascend}
use Rattle.fluent_grammar.specs.Tiles.{full}
use Rattle.fluent_grammar.proofs.TilesErrors.{slices_ascend}
use Rattle.fluent_parsed.specs.ErrorView.{Span, span, error_view, error_told}
use Rattle.fluent_parsed.specs.declared.errors.ParserError.{ParserError as Found}
use Rattle.fluent_tidy_laws.specs.Cut.{without_slices, cut}
use Rattle.fluent_tidy_laws.specs.CutLaws.{StandsBetweenCharacters}
use Rattle.fluent_tidy_laws.proofs.Between.{slices_stand_between_characters}

-- what was written, with what these errors leave of the source from here on, is the cut text after what was there before
pub record Left (before source now : Text) (end : ℕ) (es : List ParserError) : Type 0 where
  pub holds : now ++ without_slices end es (drop end source) ≡ before ++ cut source
  pub ascend : Ascend end es (length source)
  pub boundary : IsCharBoundary source end
  pub between : All (StandsBetweenCharacters source) es

-- the errors from this place on tell of those
pub record Cutting (before source : Text) (found : List Found) (now : Text) (end place : ℕ) : Type 0 where
  pub es : List ParserError
  pub left : Left before source now end es
  pub told : map error_view (drop place found) ≡ map error_told es

pub cutting_begins : (before source : Text) (found : List Found) → IsUtf8 source → map error_view found ≡ map error_told (errors source) → Cutting before source found before 0 0
cutting_begins before source found u e = record {
  es = errors source;
  left = record { holds = refl; ascend = slices_ascend full source; boundary = IsCharBoundary-start source u; between = slices_stand_between_characters source u };
  told = e;
}

pub cutting_boundary : {before source now : Text} {found : List Found} {end place : ℕ} → Cutting before source found now end place → IsCharBoundary source end
cutting_boundary c = c.left.boundary

-- at the end
no_more : (es : List ParserError) → [] ≡ map error_told es → es ≡ []
no_more [] e = refl
no_more (x ∷ xs) e = absurd cc

over : (n : ℕ) (found : List Found) → length found ≤ n → drop n found ≡ []
over zero [] h = refl
over (suc n) [] h = refl
over zero (x ∷ xs) h = absurd (omega (arith, h))
over (suc n) (x ∷ xs) h = over n xs (omega (arith, h))

pub cutting_ends : (before source : Text) (found : List Found) (now : Text) (end place : ℕ) → Cutting before source found now end place → length found ≤ place → now ++ drop end source ≡ before ++ cut source
cutting_ends before source found now end place c h =
    let e : c.es ≡ [] = no_more c.es (ap (map error_view) (sym (over place found h)) ∙ c.told) in
    sym (ap (λ es. now ++ without_slices end es (drop end source)) e) ∙ c.left.holds

-- the next error
record Next (x : Found) (xs : List Found) (es : List ParserError) : Type 0 where
  error : ParserError
  others : List ParserError
  is : es ≡ error ∷ others
  same : error_view x ≡ error_told error
  more : map error_view xs ≡ map error_told others

next_error : (x : Found) (xs : List Found) (es : List ParserError) → map error_view (x ∷ xs) ≡ map error_told es → Next x xs es
next_error x xs [] h = absurd cc
next_error x xs (e ∷ es) h = record { error = e; others = es; is = refl; same = cc; more = cc }

some_span : (a b : Span) → Some a ≡ Some b → a ≡ b
some_span a b e = cc

sliced : (o : Option (Range ℕ)) (r : Range ℕ) (s : Span) → option_map span o ≡ Some s → o ≡ Some r → (r.start ≡ s.start) × (r.end ≡ s.end)
sliced None r s e h = absurd cc
sliced (Some x) r s e h =
    let w : span r ≡ s = some_span (span r) s (sym (ap (option_map span) h) ∙ e) in
    (ap (λ z. z.start) w, ap (λ z. z.end) w)

-- what is known of the slice that comes next
pub record Slice (before source : Text) (found : List Found) (now : Text) (end place : ℕ) (slice : Range ℕ) : Type 0 where
  pub ordered : end ≤ slice.start
  pub start : IsCharBoundary source end
  pub stop : IsCharBoundary source slice.start
  pub on : (next : Text) → next ≡ now ++ slice_range source end slice.start → Cutting before source found next slice.end (place + 1)

cut_off : (now next : Text) (source : Text) (end start stop : ℕ) (es : List ParserError) → end ≤ start → start < stop → next ≡ now ++ slice_range source end start →
    next ++ without_slices stop es (drop stop source) ≡ now ++ (take (start - end) (drop end source) ++ without_slices stop es (drop (stop - end) (drop end source)))
cut_off now next source end start stop es h k e =
    let d : drop (stop - end) (drop end source) ≡ drop stop source = drop-drop (stop - end) end source ∙ ap (λ n. drop n source) (omega (arith, h, k)) in
    rw (e, d, append_assoc now (take (start - end) (drop end source)) (without_slices stop es (drop stop source))) refl

pub next_slice : (before source : Text) (found : List Found) (now : Text) (end place : ℕ) (x : Found) (slice : Range ℕ) → Cutting before source found now end place → place < length found →
    x ≡ get_or found place x → x.slice ≡ Some slice → Slice before source found now end place slice
next_slice before source found now end place x slice c lt is some =
    let d : drop place found ≡ x ∷ drop (suc place) found = drop-cons found place x lt ∙ ap (λ z. z ∷ drop (suc place) found) (sym is) in
    let n = next_error x (drop (suc place) found) c.es (ap (map error_view) (sym d) ∙ c.told) in
    let s = sliced x.slice slice (record { start = n.error.slice_start; end = n.error.slice_end }) (ap (λ z. z.slice) n.same) some in
    let left : Left before source now end (n.error ∷ n.others) = subst (Left before source now end) n.is c.left in
    let ascend = left.ascend in
    let one : place + 1 ≡ suc place = omega arith in
    let known = All-head (StandsBetweenCharacters source) n.error n.others left.between in
    record {
      ordered = omega (arith, ascend.0, s.0);
      start = left.boundary;
      stop = subst (IsCharBoundary source) (sym s.0) known.start;
      on = λ next e. record {
        es = n.others;
        left = record {
          holds = rw (s.1) (cut_off now next source end n.error.slice_start n.error.slice_end n.others ascend.0 ascend.1 (e ∙ ap (λ z. now ++ slice_range source end z) s.0) ∙ left.holds);
          ascend = subst (λ z. Ascend z n.others (length source)) (sym s.1) ascend.2;
          boundary = subst (IsCharBoundary source) (sym s.1) known.end;
          between = All-tail (StandsBetweenCharacters source) n.error n.others left.between;
        };
        told = ap (λ i. map error_view (drop i found)) one ∙ n.more;
      };
    }

-- each error has a slice
pub never_none : (before source : Text) (found : List Found) (now : Text) (end place : ℕ) (x : Found) → Cutting before source found now end place → place < length found →
    x ≡ get_or found place x → x.slice ≡ None → ⊥
never_none before source found now end place x c lt is none =
    let d : drop place found ≡ x ∷ drop (suc place) found = drop-cons found place x lt ∙ ap (λ z. z ∷ drop (suc place) found) (sym is) in
    let n = next_error x (drop (suc place) found) c.es (ap (map error_view) (sym d) ∙ c.told) in
    let w : option_map span x.slice ≡ Some (record { start = n.error.slice_start; end = n.error.slice_end }) = ap (λ z. z.slice) n.same in
    absurd (no (subst (λ o. option_map span o ≡ Some (record { start = n.error.slice_start; end = n.error.slice_end })) none w))
  where
    no : {s : Span} → None ≡ Some s → ⊥
    no e = absurd cc

-- what a push gives
pub pushed : {T E : Type 0} (r : Result T E) (new old more whole : Text) → new ≡ (if is_ok r then old ++ more else old) → old ++ more ≡ whole → OnOk r (new ≡ whole)
pushed (Ok x) new old more whole e h = e ∙ h
pushed (Err x) new old more whole e h = tt
