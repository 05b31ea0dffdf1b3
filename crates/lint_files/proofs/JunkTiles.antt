-- The findings of the refusals at the starts of junk are those of the junk tiles.
use Rattle.std.proofs.Common.{◌≡◌, ◌∙◌, ℕ, zero, suc, ◌+◌, ◌-◌, Bool, true, false, cond, List, [], ◌∷◌, length, drop, map, Option, Some, None, refl, sym, ap, arith}
use Rattle.std.specs.Prelude.{◌==◌, if◌then◌else◌, option_map, All, codes}
use Rattle.std.specs.List.{cons_option}
use Rattle.std.specs.Str.{IsUtf8, IsCharBoundary}
use Rattle.std.proofs.lemmas.List.Elements.{All-map, All-same, All-weaker}
use Rattle.std.specs.Option.{option_or}
use Rattle.std.proofs.lemmas.List.{length-append, drop-drop}
use Rattle.std.proofs.Math.Seq.{drop-append_seam}
use Rattle.fluent_grammar.specs.Words.{Text, skip_blank_block}
use Rattle.fluent_grammar.specs.Refusal as r
use Rattle.fluent_grammar.specs.Refusal.{Refusal, Reading, got, refused}
use Rattle.fluent_grammar.specs.Tree as t
use Rattle.fluent_grammar.specs.Ends.{EndsIn}
use Rattle.fluent_grammar.specs.Reading.{entry_at, attribute_at}
use Rattle.fluent_grammar.specs.Tiling.{ParserError, behind_junk, error_of, errors, is_field_kind}
use Rattle.fluent_grammar.proofs.Within.{end-same, end-blank_block, entry-fair}
use Rattle.fluent_grammar.proofs.TilesJunk.{resume-end, place-end}
use Rattle.fluent_parsed.specs.ErrorView.{error_told, told}
use Rattle.fluent_parser.specs.Refusals.{RefusalView, refusal_of, attribute_refusal, first_refusal, refusal_told, refusal_from, refusals_from}
use Rattle.fluent_tidy_laws.specs.CutLaws.{StandsBetweenCharacters}
use Rattle.fluent_tidy_laws.proofs.Between.{slices_stand_between_characters}
use Rattle.lint_findings.specs.Finding.{Finding, error}
use Rattle.lint_findings.specs.Tiles.{Tile, entry_tile, junk_tile, tiles, and_tiles, tiles_from}
use Rattle.lint_findings.specs.Hints as hints
use Rattle.lint_findings.specs.SyntaxErrors.{begins_attribute, name_at_front, sentence_of, attribute_refusal as told_refusal, reported_refusal}
use Rattle.lint_findings.specs.SyntaxFindings.{begins_marked, mark_finding, syntax_finding, syntax_findings}
use Rattle.lint_findings.specs.PlaceLaws.{tile_errors}
use Rattle.lint_findings.proofs.TilesAreTheList.{tiles_have_the_errors}
use Rattle.lint_files.specs.Kinds.{kind_of}
use Rattle.lint_files.specs.SourceFindings.{starts_of, finding_of}

-- ---- where tiles are

-- each tile has the source from its offset on, and is what is read there
abbrev AreAt : Text → List Tile → Type 0
AreAt source [] = Unit {0}
AreAt source (entry_tile at s e ∷ ts) = AreAt source ts
AreAt source (junk_tile at s refusal ∷ ts) = (s ≡ drop at source) × (entry_at s ≡ refused refusal) × AreAt source ts

-- an end of what is left at an offset is what is left at a later one
later : (source s u : Text) (at : ℕ) → s ≡ drop at source → EndsIn u s → u ≡ drop (at + (length s - length u)) source
later source s u at e h =
    let n = length h.front in
    let count : length s - length u ≡ n = omega (arith, ap length h.whole, length-append h.front u) in
    let cut : drop n s ≡ u = ap (drop n) h.whole ∙ drop-append_seam h.front u in
    sym cut ∙ ap (drop n) e ∙ drop-drop n at source ∙ ap (λ (k : ℕ). drop k source) (omega (arith, count))

module _ (source : Text) (left : ℕ → Text → List Tile) (go : (at : ℕ) (s : Text) → s ≡ drop at source → AreAt source (left at s)) where
  read : (at : ℕ) (s : Text) (x : Reading t.Entry) → entry_at s ≡ x → s ≡ drop at source → AreAt source (and_tiles left at s x)
  read at s (got e rest) h k = go _ rest (later source s rest at k (rw h at (entry-fair (end-same s))).parts)
  read at s (refused refusal) h k =
      let rest = behind_junk s refusal.at in
      (k, h, go _ rest (later source s rest at k (resume-end _ _ (place-end s refusal h))))

branch : (source : Text) (b : Bool) (ts : List Tile) → AreAt source ts → AreAt source (if b then [] else ts)
branch source true ts h = tt
branch source false ts h = h

are_at : (source : Text) (n at : ℕ) (s : Text) → s ≡ drop at source → AreAt source (tiles_from n at s)
unfolding tiles_from
are_at source zero at s e = tt
are_at source (suc n) at s e =
    let u = skip_blank_block s in
    branch source (length u == 0) _ (read source (tiles_from n) (λ p v h. are_at source n p v h) (at + (length s - length u)) u (entry_at u) refl (later source s u at e (end-blank_block (end-same s))))

-- ---- one junk

pub kind_of_told : (k : r.Kind) → kind_of (told k) ≡ k
kind_of_told (r.expected_token c) = refl
kind_of_told r.expected_letter = refl
kind_of_told r.expected_digit = refl
kind_of_told r.expected_line_end = refl
kind_of_told (r.expected_message_field id) = refl
kind_of_told (r.expected_term_field id) = refl
kind_of_told r.forbidden_callee = refl
kind_of_told r.missing_value = refl
kind_of_told r.multiple_default_variants = refl
kind_of_told r.missing_default_variant = refl
kind_of_told r.message_reference_as_selector = refl
kind_of_told r.term_reference_as_selector = refl
kind_of_told r.expected_simple_expression_as_selector = refl
kind_of_told r.term_attribute_as_placeable = refl
kind_of_told r.unterminated_string_literal = refl
kind_of_told (r.unknown_escape_sequence s) = refl
kind_of_told (r.invalid_unicode_escape_sequence s) = refl
kind_of_told r.positional_argument_follows_named = refl
kind_of_told (r.duplicated_named_argument s) = refl
kind_of_told r.unbalanced_closing_brace = refl
kind_of_told r.expected_inline_expression = refl
kind_of_told r.expected_literal = refl

-- the refusal that is reported is the first one
first_of : (b : Bool) (a : Reading t.Attribute) (refusal : Refusal) →
    option_or (cond b (refusal_of a) None) (Some refusal) ≡ Some (cond b (told_refusal refusal a) refusal)
first_of true (got a rest) refusal = refl
first_of true (refused inner) refusal = refl
first_of false a refusal = refl

first_reported : (s : Text) (refusal : Refusal) → entry_at s ≡ refused refusal → first_refusal s ≡ Some (reported_refusal s refusal)
first_reported s refusal e =
    ap (λ (x : Reading t.Entry). option_or (attribute_refusal s) (refusal_of x)) e ∙ first_of (begins_attribute s) (attribute_at s) refusal

-- the finding of a kind of refusal in junk, where this text is
abbrev finding_with : ℕ → Text → Text → Text → r.Kind → Finding
finding_with at s junk here kind =
    if begins_marked at junk then mark_finding
    else record {
      offset = if is_field_kind kind then at else at + (length s - length here);
      code = codes "syntax";
      severity = error;
      entry = name_at_front junk;
      text = sentence_of junk here kind;
      hint = hints.first_hint (hints.hints junk here kind);
    }

finding_same : (source : Text) (at : ℕ) (s : Text) (refusal : Refusal) → s ≡ drop at source →
    finding_of source (refusal_told at s refusal) ≡ finding_with at s s refusal.at refusal.kind
finding_same source at s refusal e =
    ap (λ (junk : Text). finding_with at s junk refusal.at (kind_of (told refusal.kind))) (sym e) ∙ ap (finding_with at s s refusal.at) (kind_of_told refusal.kind)

refusal_same : (source : Text) (at : ℕ) (s : Text) (refusal : Refusal) → s ≡ drop at source → entry_at s ≡ refused refusal →
    refusal_from source at ≡ Some (refusal_told at s (reported_refusal s refusal))
refusal_same source at s refusal e h =
    ap (λ (u : Text). option_map (refusal_told at u) (first_refusal u)) (sym e) ∙ ap (option_map (refusal_told at s)) (first_reported s refusal h)

start_of : (at : ℕ) (s : Text) (refusal : Refusal) → (error_of at s refusal).slice_start ≡ at
start_of at s refusal = by_kind (is_field_kind refusal.kind) _ _ refl refl
  where
    by_kind : (b : Bool) (x y : ParserError) → x.slice_start ≡ at → y.slice_start ≡ at → (if b then x else y).slice_start ≡ at
    by_kind true x y p q = p
    by_kind false x y p q = q

-- ---- all junk

abbrev starts : List ParserError → List ℕ
starts es = map (λ (e : ParserError). e.slice_start) es

found : (source : Text) (ts : List Tile) → AreAt source ts → map (finding_of source) (refusals_from source (starts (tile_errors ts))) ≡ syntax_findings ts
found source [] h = refl
found source (entry_tile at s e ∷ ts) h = found source ts h
found source (junk_tile at s refusal ∷ ts) h =
    let others = refusals_from source (starts (tile_errors ts)) in
    ap (λ (p : ℕ). map (finding_of source) (cons_option (refusal_from source p) others)) (start_of at s refusal)
    ∙ ap (λ (o : Option RefusalView). map (finding_of source) (cons_option o others)) (refusal_same source at s refusal h.0 h.1)
    ∙ ap (λ (f : Finding). f ∷ map (finding_of source) others) (finding_same source at s (reported_refusal s refusal) h.0)
    ∙ ap (λ (fs : List Finding). syntax_finding at s refusal ∷ fs) (found source ts h.2)

starts_told : (es : List ParserError) → starts_of (map error_told es) ≡ starts es
starts_told [] = refl
starts_told (e ∷ es) = ap (λ (l : List ℕ). e.slice_start ∷ l) (starts_told es)

-- The findings of the refusals at the starts of the errors of a source are the syntax findings of the source.
pub junk_is_found : (source : Text) → map (finding_of source) (refusals_from source (starts_of (map error_told (errors source)))) ≡ syntax_findings (tiles source)
junk_is_found source =
    ap (λ (l : List ℕ). map (finding_of source) (refusals_from source l)) (starts_told (errors source) ∙ ap starts (sym (tiles_have_the_errors source)))
    ∙ found source (tiles source) (are_at source (suc (length source)) 0 source refl)

-- They are between characters.
pub starts_are_between : (source : Text) → IsUtf8 source → All (IsCharBoundary source) (starts_of (map error_told (errors source)))
starts_are_between source u = All-same (IsCharBoundary source) _ _ (starts_told (errors source))
    (All-map (IsCharBoundary source) (λ (e : ParserError). e.slice_start) (errors source)
    (All-weaker (StandsBetweenCharacters source) (λ (e : ParserError). IsCharBoundary source e.slice_start) (λ e h. h.start) (errors source) (slices_stand_between_characters source u)))
