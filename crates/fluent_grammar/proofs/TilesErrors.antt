-- Errors and junk: as many, in one order, each where the other is.
use Rattle.std.proofs.Common.{◌≡◌, ℕ, ◌+◌, ◌-◌, ◌<◌, ◌≤◌, Bool, true, false, cond, List, [], ◌∷◌, ◌++◌, length, drop, map, Option, Some, None, refl, sym, ap, ◌∙◌, append_assoc, arith, inl, inr}
use Rattle.std.specs.Prelude.{◌==◌, All, ◌⊎◌}
use Rattle.std.proofs.lemmas.List.{length-append, drop_at}
use Rattle.std.proofs.lemmas.List.Elements.{All-cons}
use Rattle.std.proofs.Math.Seq.{take-append_seam, drop-append-add}
use Rattle.fluent_grammar.specs.Words.{Text}
use Rattle.fluent_grammar.specs.Refusal.{Kind, Refusal, Reading, got, refused, refuse, mapped, ◌>>=◌}
use Rattle.fluent_grammar.specs.Refusal as r
use Rattle.fluent_grammar.specs.Tree as t
use Rattle.fluent_grammar.specs.Ends.{Told}
use Rattle.fluent_grammar.specs.Reading as g
use Rattle.fluent_grammar.specs.Reading.{entry_at}
use Rattle.fluent_grammar.specs.Tiling as p
use Rattle.fluent_grammar.specs.Tiling.{ParserError, is_field_kind, entries_of, errors_of, waiting, left_alone, attached}
use Rattle.fluent_grammar.specs.Tiles.{Mode, Part, blank_block, entry, junk, passed_over, Tiles, blank_first, TilesItems, source_ends, an_entry, some_junk, a_line, text_of, error_of_junk, pieces_of}
use Rattle.fluent_grammar.specs.TilingLaws.{junk_of, sliced, Ascend, StartsInSlice, JunkIsSliced, SlicesAscend, PlacesStartInSlices, ErrorsAreTrue}
use Rattle.fluent_grammar.proofs.Within.{entry-fair, end-same, end-le}
use Rattle.fluent_grammar.proofs.TilesJunk.{junk-end, place-end, resume-end}
use Rattle.fluent_grammar.proofs.Agreement.{entries_agree}
use Rattle.fluent_grammar.proofs.Tiles.{junk-rest}
use Rattle.fluent_grammar.proofs.TilesPieces.{tiles-text, each_text_has_a_tiling, tiling_gives_tree_and_errors}

-- no entry that is read is junk
abbrev pub is_junk : t.Entry → Bool
is_junk (t.junk content) = true
is_junk _ = false

abbrev ProperParts : Reading t.Entry → Type 0
ProperParts (got e rest) = is_junk e ≡ false
ProperParts (refused fault) = Unit {0}

record Proper (x : Reading t.Entry) : Type 0 where
  pub parts : ProperParts x

proper-bind : {A : Type 0} (x : Reading A) (f : A × Text → Reading t.Entry) → ((a : A) (rest : Text) → Proper (f (a, rest))) → Proper (x >>= f)
proper-bind (got a rest) f q = q a rest
proper-bind (refused fault) f q = record { parts = tt }

proper-if : (b : Bool) (x y : Reading t.Entry) → Proper x → Proper y → Proper (cond b x y)
proper-if true x y p q = p
proper-if false x y p q = q

message_of-proper : (id : Text) (value : Option t.Elements) (attributes : List t.Attribute) (s : Text) → Proper (g.message_of id value attributes s)
message_of-proper id None [] s = record { parts = tt }
message_of-proper id None (a ∷ more) s = record { parts = refl }
message_of-proper id (Some v) attributes s = record { parts = refl }

term_of-proper : (id : Text) (value : Option t.Elements) (attributes : List t.Attribute) (s : Text) → Proper (g.term_of id value attributes s)
term_of-proper id None attributes s = record { parts = tt }
term_of-proper id (Some v) attributes s = record { parts = refl }

comment_of-proper : (level : ℕ) (lines : List Text) → is_junk (g.comment_of level lines) ≡ false
comment_of-proper level lines = by_level (level == 1) (level == 2)
  where
    by_level : (a b : Bool) → is_junk (cond a (t.comment lines) (cond b (t.group_comment lines) (t.resource_comment lines))) ≡ false
    by_level true b = refl
    by_level false true = refl
    by_level false false = refl

proper-got : (e : t.Entry) (rest : Text) → is_junk e ≡ false → Proper (got e rest)
proper-got e rest h = record { parts = h }

message-proper : (s : Text) → Proper (g.message_at s)
unfolding g.message_at
message-proper s = search (proper-bind, message_of-proper)

term-proper : (s : Text) → Proper (g.term_entry_at s)
unfolding g.term_entry_at
term-proper s = search (proper-bind, term_of-proper)

comment-proper : (s : Text) → Proper (g.comment_at s)
unfolding g.comment_at
comment-proper s = search (proper-bind, proper-got, comment_of-proper)

entry-proper : (s : Text) → Proper (entry_at s)
unfolding entry_at
entry-proper s = search (proper-if, comment-proper, term-proper, message-proper)

-- what holds of the parts of a tiling: junk isn't empty, its place lies in it, and what is told there is so
pub record SoundJunk (content : Text) (kind : Kind) (place : ℕ) (rest : Text) : Type 0 where
  pub some : 0 < length content
  pub inside : place ≤ length content
  pub told : Told kind (drop place (content ++ rest))

abbrev pub Sound : List Part → Type 0
Sound [] = Unit {0}
Sound (blank_block text ∷ parts) = Sound parts
Sound (entry text e ∷ parts) = (is_junk e ≡ false) × Sound parts
Sound (junk text kind place ∷ parts) = SoundJunk text kind place (text_of parts) × Sound parts
Sound (passed_over text ∷ parts) = Sound parts

junk-sound : (s front rest : Text) (fault : Refusal) (place : ℕ) → (s ≡ [] → ⊥) → entry_at s ≡ refused fault → p.behind_junk s fault.at ≡ rest → s ≡ front ++ rest →
    place + length fault.at ≡ length s → SoundJunk front fault.kind place rest
junk-sound [] front rest fault place some read b w at = absurd (some refl)
junk-sound (c ∷ cs) front rest fault place some read b w at =
    let behind = rw b at (junk-end c cs fault read) in
    let fits : length rest ≤ length fault.at = rw b at (end-le (resume-end (p.at_column_zero (c ∷ cs) fault.at) fault.at (end-same fault.at))) in
    let whole = place-end (c ∷ cs) fault read in
    let there : drop place (c ∷ cs) ≡ fault.at = ap (drop place) whole.whole ∙ drop_at whole.front fault.at place (omega (arith, ap length whole.whole, length-append whole.front fault.at, at)) in
    record {
      some = omega (arith, end-le behind, ap length w, length-append front rest);
      inside = omega (arith, fits, ap length w, length-append front rest, at);
      told = rw (← w, there) (rw read at (entry-fair (end-same (c ∷ cs)))).parts.1;
    }

mutual
  tiles-sound : (mode : Mode) {ps : List Part} {s : Text} → Tiles mode ps s → Sound ps
  tiles-sound mode (blank_first b d) = items-sound mode d

  items-sound : (mode : Mode) {ps : List Part} {s : Text} → TilesItems mode ps s → Sound ps
  items-sound mode source_ends = tt
  items-sound mode (an_entry {text} {rest} {e} p spelled w d) = ((rw ((entries_agree text e rest).1 spelled) at (entry-proper text)).parts, tiles-sound mode d)
  items-sound mode (some_junk {text} {front} {rest} {fault} {place} p some read at ends w d) =
      (rw (tiles-text mode d) (junk-sound text front rest fault place some read (junk-rest text fault rest read ends) w at), tiles-sound mode d)
  items-sound mode (a_line p l d) = tiles-sound mode d

-- what the error of junk says
record Describes (at : ℕ) (text : Text) (kind : Kind) (place : ℕ) (error : ParserError) : Type 0 where
  pub told : error.kind ≡ kind
  pub start : error.slice_start ≡ at
  pub end : error.slice_end ≡ at + length text
  pub starts : ((error.pos_start ≡ at) × (is_field_kind kind ≡ true)) ⊎ (error.pos_start ≡ at + place)

error-described : (at : ℕ) (text : Text) (kind : Kind) (place : ℕ) → Describes at text kind place (error_of_junk at text kind place)
error-described at text kind place = by_kind (is_field_kind kind) refl
  where
    by_kind : (b : Bool) → is_field_kind kind ≡ b → Describes at text kind place
        (cond b (record { kind = kind; pos_start = at; pos_end = at + place; slice_start = at; slice_end = at + length text })
        (record { kind = kind; pos_start = at + place; pos_end = at + place + 1; slice_start = at; slice_end = at + length text }))
    by_kind true e = record { told = refl; start = refl; end = refl; starts = inl (refl, e) }
    by_kind false e = record { told = refl; start = refl; end = refl; starts = inr refl }

errors-ascend : (mode : Mode) (from at end : ℕ) (apart : Bool) (ps : List Part) → Sound ps → from ≤ at → at + length (text_of ps) ≡ end → Ascend from (errors_of (pieces_of mode at apart ps)) end
errors-ascend mode from at end apart [] sound h e = omega (arith, h, e)
errors-ascend mode from at end apart (blank_block text ∷ ps) sound h e = errors-ascend mode from (at + length text) end _ ps sound (omega arith) (omega (arith, e, length-append text (text_of ps)))
errors-ascend mode from at end apart (entry text x ∷ ps) sound h e = errors-ascend mode from (at + length text) end _ ps sound.1 (omega arith) (omega (arith, e, length-append text (text_of ps)))
errors-ascend mode from at end apart (passed_over text ∷ ps) sound h e = errors-ascend mode from (at + length text) end _ ps sound (omega arith) (omega (arith, e, length-append text (text_of ps)))
errors-ascend mode from at end apart (junk text kind place ∷ ps) sound h e =
    let d = error-described at text kind place in (
      omega (arith, d.start, h),
      omega (arith, d.start, d.end, sound.0.some),
      errors-ascend mode (error_of_junk at text kind place).slice_end (at + length text) end false ps sound.1 (omega (arith, d.end)) (omega (arith, e, length-append text (text_of ps))),
    )

all-none : {X : Type 0} (P : X → Type 0) → All P []
all-none P k d h = absurd (omega arith)

errors-start : (mode : Mode) (at : ℕ) (apart : Bool) (ps : List Part) → Sound ps → All StartsInSlice (errors_of (pieces_of mode at apart ps))
errors-start mode at apart [] sound = all-none _
errors-start mode at apart (blank_block text ∷ ps) sound = errors-start mode _ _ ps sound
errors-start mode at apart (entry text x ∷ ps) sound = errors-start mode _ _ ps sound.1
errors-start mode at apart (passed_over text ∷ ps) sound = errors-start mode _ _ ps sound
errors-start mode at apart (junk text kind place ∷ ps) sound =
    let d = error-described at text kind place in
    All-cons StartsInSlice _ _
    (elim d.starts [ inl q ↦ (omega (arith, d.start, q.0), omega (arith, d.end, q.0)) | inr q ↦ (omega (arith, d.start, q), omega (arith, d.end, q, sound.0.inside)) ])
    (errors-start mode (at + length text) false ps sound.1)

field-told : (kind : Kind) (at : Text) → is_field_kind kind ≡ true → Told kind at
field-told (r.expected_message_field id) at e = tt
field-told (r.expected_term_field id) at e = tt
field-told _ at e = absurd cc

errors-told : (mode : Mode) (source before : Text) (at : ℕ) (apart : Bool) (ps : List Part) → Sound ps → length before ≡ at → source ≡ before ++ text_of ps →
    All (λ error. Told error.kind (drop error.pos_start source)) (errors_of (pieces_of mode at apart ps))
errors-told mode source before at apart [] sound h e = all-none _
errors-told mode source before at apart (blank_block text ∷ ps) sound h e = errors-told mode source (before ++ text) _ _ ps sound (omega (arith, length-append before text, h)) (e ∙ sym (append_assoc before text (text_of ps)))
errors-told mode source before at apart (entry text x ∷ ps) sound h e = errors-told mode source (before ++ text) _ _ ps sound.1 (omega (arith, length-append before text, h)) (e ∙ sym (append_assoc before text (text_of ps)))
errors-told mode source before at apart (passed_over text ∷ ps) sound h e = errors-told mode source (before ++ text) _ _ ps sound (omega (arith, length-append before text, h)) (e ∙ sym (append_assoc before text (text_of ps)))
errors-told mode source before at apart (junk text kind place ∷ ps) sound h e =
    let d = error-described at text kind place in
    All-cons (λ error. Told error.kind (drop error.pos_start source)) _ _
    (rw d.told (elim d.starts [
      | inl q ↦ field-told kind _ q.1
      | inr q ↦ let there : drop (at + place) source ≡ drop place (text ++ text_of ps) = ap (drop (at + place)) e ∙ ap (λ n. drop (n + place) (before ++ (text ++ text_of ps))) (sym h) ∙ drop-append-add before (text ++ text_of ps) place in
          rw (q, there) sound.0.told
    ]))
    (errors-told mode source (before ++ text) _ false ps sound.1 (omega (arith, length-append before text, h)) (e ∙ sym (append_assoc before text (text_of ps))))

-- the texts of junk
junk_texts : List Part → List Text
junk_texts [] = []
junk_texts (blank_block text ∷ ps) = junk_texts ps
junk_texts (entry text e ∷ ps) = junk_texts ps
junk_texts (junk text kind place ∷ ps) = text ∷ junk_texts ps
junk_texts (passed_over text ∷ ps) = junk_texts ps

errors-sliced : (mode : Mode) (source before : Text) (at : ℕ) (apart : Bool) (ps : List Part) → length before ≡ at → source ≡ before ++ text_of ps →
    junk_texts ps ≡ map (sliced source) (errors_of (pieces_of mode at apart ps))
unfolding junk_texts
errors-sliced mode source before at apart [] h e = refl
errors-sliced mode source before at apart (blank_block text ∷ ps) h e = errors-sliced mode source (before ++ text) _ _ ps (omega (arith, length-append before text, h)) (e ∙ sym (append_assoc before text (text_of ps)))
errors-sliced mode source before at apart (entry text x ∷ ps) h e = errors-sliced mode source (before ++ text) _ _ ps (omega (arith, length-append before text, h)) (e ∙ sym (append_assoc before text (text_of ps)))
errors-sliced mode source before at apart (passed_over text ∷ ps) h e = errors-sliced mode source (before ++ text) _ _ ps (omega (arith, length-append before text, h)) (e ∙ sym (append_assoc before text (text_of ps)))
errors-sliced mode source before at apart (junk text kind place ∷ ps) h e =
    let d = error-described at text kind place in
    let n : (error_of_junk at text kind place).slice_end - (error_of_junk at text kind place).slice_start ≡ length text = omega (arith, d.start, d.end) in
    let there : drop (error_of_junk at text kind place).slice_start source ≡ text ++ text_of ps = ap (drop _) e ∙ drop_at before (text ++ text_of ps) _ (h ∙ sym d.start) in
    let here : sliced source (error_of_junk at text kind place) ≡ text = rw (n, there) (take-append_seam text (text_of ps)) in
    rw here (ap (λ z. text ∷ z) (errors-sliced mode source (before ++ text) _ false ps (omega (arith, length-append before text, h)) (e ∙ sym (append_assoc before text (text_of ps)))))

junk-waiting : (held : Option (List Text)) (es : List t.Entry) → junk_of (waiting held ++ es) ≡ junk_of es
junk-waiting None es = refl
junk-waiting (Some lines) es = refl

junk-left : (held : Option (List Text)) (apart : Bool) (es : List t.Entry) → junk_of (left_alone held apart ++ es) ≡ junk_of es
junk-left held true es = junk-waiting held es
junk-left held false es = refl

junk-entries : (mode : Mode) (held : Option (List Text)) (at : ℕ) (apart : Bool) (ps : List Part) → Sound ps → junk_of (entries_of held (pieces_of mode at apart ps)) ≡ junk_texts ps
unfolding junk_texts
junk-entries mode None at apart [] sound = refl
junk-entries mode (Some lines) at apart [] sound = refl
junk-entries mode held at apart (blank_block text ∷ ps) sound = junk-entries mode held _ _ ps sound
junk-entries mode held at apart (passed_over text ∷ ps) sound = junk-entries mode held _ _ ps sound
junk-entries mode held at apart (junk text kind place ∷ ps) sound = junk-waiting held _ ∙ ap (λ z. text ∷ z) (junk-entries mode None _ _ ps sound.1)
junk-entries mode held at apart (entry text (t.message m) ∷ ps) sound = junk-left held apart _ ∙ junk-entries mode None _ _ ps sound.1
junk-entries mode held at apart (entry text (t.term m) ∷ ps) sound = junk-left held apart _ ∙ junk-entries mode None _ _ ps sound.1
junk-entries mode held at apart (entry text (t.comment lines) ∷ ps) sound = junk-waiting held _ ∙ junk-entries mode (Some lines) _ _ ps sound.1
junk-entries mode held at apart (entry text (t.group_comment lines) ∷ ps) sound = junk-waiting held _ ∙ junk-entries mode None _ _ ps sound.1
junk-entries mode held at apart (entry text (t.resource_comment lines) ∷ ps) sound = junk-waiting held _ ∙ junk-entries mode None _ _ ps sound.1
junk-entries mode held at apart (entry text (t.junk s) ∷ ps) sound = absurd cc

pub junk_is_sliced : JunkIsSliced
junk_is_sliced mode source =
    let d = each_text_has_a_tiling mode source in
    let same = tiling_gives_tree_and_errors mode source d.0 d.1 in
    rw (← same.0, ← same.1) (junk-entries mode None 0 false d.0 (tiles-sound mode d.1) ∙ errors-sliced mode source [] 0 false d.0 refl (sym (tiles-text mode d.1)))

pub slices_ascend : SlicesAscend
slices_ascend mode source =
    let d = each_text_has_a_tiling mode source in
    rw (← (tiling_gives_tree_and_errors mode source d.0 d.1).1) (errors-ascend mode 0 0 (length source) false d.0 (tiles-sound mode d.1) (omega arith) (omega (arith, ap length (tiles-text mode d.1))))

pub places_start_in_slices : PlacesStartInSlices
places_start_in_slices mode source =
    let d = each_text_has_a_tiling mode source in
    rw (← (tiling_gives_tree_and_errors mode source d.0 d.1).1) (errors-start mode 0 false d.0 (tiles-sound mode d.1))

pub errors_are_true : ErrorsAreTrue
errors_are_true mode source =
    let d = each_text_has_a_tiling mode source in
    rw (← (tiling_gives_tree_and_errors mode source d.0 d.1).1) (errors-told mode source [] 0 false d.0 (tiles-sound mode d.1) refl (sym (tiles-text mode d.1)))
