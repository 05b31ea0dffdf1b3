-- The parts of a source, and the errors of junk.
use Rattle.std.proofs.Common.{◌≡◌, ℕ, ◌+◌, ◌-◌, ◌<◌, Bool, true, false, cond, List, [], ◌∷◌, ◌++◌, length, drop, map, refl, sym, ap, ◌∙◌, arith, subst, Some}
use Rattle.std.specs.Str.{IsUtf8}
use Rattle.std.proofs.lemmas.List.{length-append}
use Rattle.fluent_grammar.specs.Words.{Text}
use Rattle.fluent_grammar.specs.Refusal.{Kind, Refusal, Reading, got, refused}
use Rattle.fluent_grammar.specs.Refusal as r
use Rattle.fluent_grammar.specs.Tree as t
use Rattle.fluent_grammar.specs.Ends.{EndsIn}
use Rattle.fluent_grammar.specs.Reading.{entry_at}
use Rattle.fluent_grammar.specs.Tiling.{Piece, errors_of, is_field_kind, error_of, behind_junk}
use Rattle.fluent_grammar.proofs.Within.{end-le, end-cons}
use Rattle.fluent_grammar.proofs.TilesJunk.{junk-end}
use Rattle.fluent_grammar.proofs.LawsOfDepth.{entry-took}
use Rattle.fluent_parsed.specs.ErrorView.{KindView, told, ErrorView, error_told, kind_view}
use Rattle.fluent_parser.specs.Places.{shows_entry, shown_span, error_by}
use Rattle.fluent_tokens.specs.Counted.{Cuts}
use Rattle.fluent_parser.specs.Reads.{Refuses}
use Rattle.fluent_parser.specs.Parts.{piece_of, behind_piece}
use Rattle.fluent_parsed.specs.declared.errors.ErrorKind.{ErrorKind}
use Rattle.fluent_tokens.proofs.Counted.{place_of_tail}

same_kinds : (k : Kind) → shows_entry (told k) ≡ is_field_kind k
same_kinds (r.expected_token c) = refl
same_kinds r.expected_letter = refl
same_kinds r.expected_digit = refl
same_kinds r.expected_line_end = refl
same_kinds (r.expected_message_field id) = refl
same_kinds (r.expected_term_field id) = refl
same_kinds r.forbidden_callee = refl
same_kinds r.missing_value = refl
same_kinds r.multiple_default_variants = refl
same_kinds r.missing_default_variant = refl
same_kinds r.message_reference_as_selector = refl
same_kinds r.term_reference_as_selector = refl
same_kinds r.expected_simple_expression_as_selector = refl
same_kinds r.term_attribute_as_placeable = refl
same_kinds r.unterminated_string_literal = refl
same_kinds (r.unknown_escape_sequence s) = refl
same_kinds (r.invalid_unicode_escape_sequence s) = refl
same_kinds r.positional_argument_follows_named = refl
same_kinds (r.duplicated_named_argument s) = refl
same_kinds r.unbalanced_closing_brace = refl
same_kinds r.expected_inline_expression = refl
same_kinds r.expected_literal = refl

error_same_by : (b : Bool) (k : Kind) (at p end : ℕ) →
    (let v : ErrorView = record { pos = shown_span b at p; slice = Some (record { start = at; end = end }); kind = told k } in v)
    ≡ error_told (cond b (record { kind = k; pos_start = at; pos_end = p; slice_start = at; slice_end = end }) (record { kind = k; pos_start = p; pos_end = p + 1; slice_start = at; slice_end = end }))
error_same_by true k at p end = refl
error_same_by false k at p end = refl

-- the error of a refused entry
pub error_same : (at : ℕ) (s : Text) (fault : Refusal) (kind : KindView) (p end : ℕ) → kind ≡ told fault.kind → p ≡ at + (length s - length fault.at) → end ≡ at + (length s - length (behind_junk s fault.at))
    → error_by kind at p end ≡ error_told (error_of at s fault)
error_same at s fault kind p end e f g =
    rw (e, f, g) (ap (λ (b : Bool). (let v : ErrorView = record { pos = shown_span b at (at + (length s - length fault.at)); slice = Some (record { start = at; end = at + (length s - length (behind_junk s fault.at)) }); kind = told fault.kind } in v)) (same_kinds fault.kind)
    ∙ error_same_by (is_field_kind fault.kind) fault.kind at (at + (length s - length fault.at)) (at + (length s - length (behind_junk s fault.at))))

-- what a refusal that was told of is
pub record IsRefused (kind : ErrorKind) (rest : Text) (x : Reading t.Entry) : Type 0 where
  pub fault : Refusal
  pub read : x ≡ refused fault
  pub told_kind : kind_view kind ≡ told fault.kind
  pub place : rest ≡ fault.at

pub refused_is : (kind : ErrorKind) (rest : Text) (x : Reading t.Entry) → Refuses kind rest x → IsRefused kind rest x
refused_is kind rest (got a u) h = absurd h
refused_is kind rest (refused fault) h = record { fault = fault; read = refl; told_kind = h.0; place = h.1 }

drop_front : (a b : Text) → drop (length a) (a ++ b) ≡ b
drop_front [] b = refl
drop_front (x ∷ xs) b = drop_front xs b

tail_is : (b s : Text) → EndsIn b s → b ≡ drop (length s - length b) s
tail_is b s e =
    let n : length s - length b ≡ length e.front = omega (arith, ap length e.whole, length-append e.front b) in
    sym (ap (λ (k : ℕ). drop k s) n ∙ ap (drop (length e.front)) e.whole ∙ drop_front e.front b)

junk_ends : (s : Text) (fault : Refusal) → 0 < length s → entry_at s ≡ refused fault → EndsIn (behind_junk s fault.at) (drop 1 s)
junk_ends [] fault h e = absurd (omega arith)
junk_ends (c ∷ cs) fault h e = junk-end c cs fault e

junk_within : (s : Text) (fault : Refusal) → 0 < length s → entry_at s ≡ refused fault → EndsIn (behind_junk s fault.at) s
junk_within [] fault h e = absurd (omega arith)
junk_within (c ∷ cs) fault h e = end-cons c (junk-end c cs fault e)

drop_one_less : (s : Text) → 0 < length s → length (drop 1 s) < length s
drop_one_less [] h = absurd (omega arith)
drop_one_less (c ∷ cs) h = omega arith

-- junk may be cut out of the source
pub junk_cuts : (s behind : Text) (kind : ErrorKind) (rest : Text) → Refuses kind rest (entry_at s) → 0 < length s → behind ≡ behind_junk s rest → IsUtf8 behind → Cuts s (length s - length behind)
junk_cuts s behind kind rest h some e u =
    let f = refused_is kind rest (entry_at s) h in
    let same : behind ≡ behind_junk s f.fault.at = e ∙ ap (behind_junk s) f.place in
    let ends : EndsIn behind s = subst (λ (z : Text). EndsIn z s) (sym same) (junk_within s f.fault some f.read) in
    record { within = omega arith; boundary = λ v. place_of_tail s behind (tail_is behind s ends) u }

-- junk isn't empty
pub junk_less : (s behind : Text) (kind : ErrorKind) (rest : Text) → Refuses kind rest (entry_at s) → 0 < length s → behind ≡ behind_junk s rest → length behind < length s
junk_less s behind kind rest h some e =
    let f = refused_is kind rest (entry_at s) h in
    let same : behind ≡ behind_junk s f.fault.at = e ∙ ap (behind_junk s) f.place in
    omega (arith, ap length same, end-le (junk_ends s f.fault some f.read), drop_one_less s some)

pub junk_rest : (s behind : Text) (kind : ErrorKind) (rest : Text) → Refuses kind rest (entry_at s) → 0 < length s → behind ≡ behind_junk s rest → drop (length s - length behind) s ≡ behind_piece s (entry_at s)
junk_rest s behind kind rest h some e =
    let f = refused_is kind rest (entry_at s) h in
    let same : behind ≡ behind_junk s f.fault.at = e ∙ ap (behind_junk s) f.place in
    let ends : EndsIn behind s = subst (λ (z : Text). EndsIn z s) (sym same) (junk_within s f.fault some f.read) in
    sym (tail_is behind s ends) ∙ same ∙ ap (behind_piece s) (sym f.read)

pub junk_behind : (s behind : Text) (kind : ErrorKind) (rest : Text) → Refuses kind rest (entry_at s) → behind ≡ behind_junk s rest → behind_piece s (entry_at s) ≡ behind
junk_behind s behind kind rest h e =
    let f = refused_is kind rest (entry_at s) h in
    ap (behind_piece s) f.read ∙ sym (e ∙ ap (behind_junk s) f.place)

-- an entry isn't empty
pub entry_less : (s : Text) (e : t.Entry) (rest : Text) → entry_at s ≡ got e rest → length rest < length s
entry_less s e rest read = rw read at (entry-took s)

-- what the error of junk tells
pub junk_told : (at : ℕ) (apart : Bool) (s behind : Text) (kind : ErrorKind) (rest : Text) (error : ErrorView) (p end : ℕ) (ps : List Piece) → Refuses kind rest (entry_at s) → behind ≡ behind_junk s rest
    → error ≡ error_by (kind_view kind) at p end → p ≡ at + (length s - length rest) → end ≡ at + (length s - length behind)
    → error ∷ map error_told (errors_of ps) ≡ map error_told (errors_of (piece_of at apart s (entry_at s) ∷ ps))
junk_told at apart s behind kind rest error p end ps h e f g k =
    let q = refused_is kind rest (entry_at s) h in
    let same : behind ≡ behind_junk s q.fault.at = e ∙ ap (behind_junk s) q.place in
    let place : p ≡ at + (length s - length q.fault.at) = g ∙ ap (λ (z : Text). at + (length s - length z)) q.place in
    let last : end ≡ at + (length s - length (behind_junk s q.fault.at)) = k ∙ ap (λ (z : Text). at + (length s - length z)) same in
    ap (λ (told_of : ErrorView). told_of ∷ map error_told (errors_of ps)) (f ∙ error_same at s q.fault (kind_view kind) p end q.told_kind place last)
    ∙ ap (λ (x : Reading t.Entry). map error_told (errors_of (piece_of at apart s x ∷ ps))) (sym q.read)
