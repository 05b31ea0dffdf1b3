-- Depth is always enough: a text is read alike by readers of any more levels than it has bytes.
use Rattle.std.proofs.Common.{◌≡◌, ℕ, zero, suc, ◌<◌, ◌≤◌, Bool, true, false, cond, List, [], ◌∷◌, length, drop, Option, Some, None, refl, sym, ap, ◌∙◌, arith}
use Rattle.std.specs.Prelude.{◌==◌}
use Rattle.fluent_grammar.specs.Words.{Text, skip_spaces, begins_with, begins_crlf, open_brace}
use Rattle.fluent_grammar.specs.Refusal.{Kind, Reading, got, refused, mapped, ◌>>=◌}
use Rattle.fluent_grammar.specs.Tree as t
use Rattle.fluent_grammar.specs.Lines.{Piece}
use Rattle.fluent_grammar.specs.Ends.{EndsIn}
use Rattle.fluent_grammar.specs.Reading as g
use Rattle.fluent_grammar.specs.Reading.{Readers, readers, no_readers, step, selector_fault}
use Rattle.fluent_grammar.specs.Levels.{levels}
use Rattle.fluent_grammar.specs.TilingLaws.{LevelsAreEnough, BottomIsNeverAsked, PatternsNeverAskTheBottom, PatternsNeedNoMoreLevels}
use Rattle.fluent_grammar.proofs.Within.{FairReaders, readers-fair, MaybeEnd, ends, end-same, end-trans, end-drop, end-blank, end-drop_one, end-spaces, end-separator, end-blank_block, end-le, line_end-end, identifier-fair, accessor-fair, literal-fair, key-fair, pattern-fair, select_or_inline-fair}
use Rattle.fluent_grammar.proofs.Taken.{Leaves, leaves-fair, identifier-leaves, inline-leaves, placeable-leaves, text_run-leaves}

-- two readings are the same
pub record Alike {A : Type 0} (x y : Reading A) : Type 0 where
  pub same : x ≡ y

pub alike-refl : {A : Type 0} (x : Reading A) → Alike x x
alike-refl x = record { same = refl }

pub alike-if : {A : Type 0} (b : Bool) {x y x' y' : Reading A} → (b ≡ true → Alike x x') → (b ≡ false → Alike y y') → Alike (cond b x y) (cond b x' y')
alike-if true p q = p refl
alike-if false p q = q refl

pub alike-mapped : {A B : Type 0} (f : A → B) {x x' : Reading A} → Alike x x' → Alike (mapped f x) (mapped f x')
alike-mapped f p = record { same = ap (mapped f) p.same }

pub alike-bind : {A B : Type 0} (x x' : Reading A) (f f' : A × Text → Reading B) (w : Text) → Alike x x' → Leaves x w → ((a : A) (rest : Text) → EndsIn rest w → Alike (f (a, rest)) (f' (a, rest))) → Alike (x >>= f) (x' >>= f')
alike-bind (got a rest) x' f f' w p l q = record { same = (q a rest l.parts).same ∙ ap (λ z. z >>= f') p.same }
alike-bind (refused fault) x' f f' w p l q = record { same = ap (λ z. z >>= f') p.same }

-- two readers that read the ends of a text alike
pub record Agree (w : Text) (a b : Readers) : Type 0 where
  pub inline : {s : Text} → EndsIn s w → Alike (a.inline s) (b.inline s)
  pub arguments : (names : List Text) {s : Text} → EndsIn s w → Alike (a.arguments names s) (b.arguments names s)
  pub variants : (marked : Bool) {s : Text} → EndsIn s w → Alike (a.variants marked s) (b.variants marked s)
  pub line : {s : Text} → EndsIn s w → Alike (a.line s) (b.line s)
  pub pieces : {s : Text} → EndsIn s w → Alike (a.pieces s) (b.pieces s)

module _ (a b : Readers) (w : Text) (agree : Agree w a b) (fair : FairReaders a) where
  pub then-alike : {A B : Type 0} (x x' : Reading A) (f f' : A × Text → Reading B) → Alike x x' → Leaves x w → ((c : A) (rest : Text) → EndsIn rest w → Alike (f (c, rest)) (f' (c, rest))) → Alike (x >>= f) (x' >>= f')
  then-alike x x' f f' p l q = alike-bind x x' f f' w p l q

  ruleset alikes = (alike-refl, alike-if, alike-mapped, then-alike, ends)

  pub variants_after-alike : (e : t.Inline) {s : Text} (o : Option Text) → EndsIn s w → MaybeEnd o s → Alike (g.variants_after a e s o) (g.variants_after b e s o)
  unfolding g.variants_after
  variants_after-alike e None h k = alike-refl _
  variants_after-alike e (Some rest) h k = alike-mapped _ (agree.variants false (end-blank (end-trans k h)))

  pub select-alike : (e : t.Inline) (o : Option Kind) {s : Text} → EndsIn s w → Alike (g.select_at a e o s) (g.select_at b e o s)
  unfolding g.select_at
  select-alike e None {s} h = variants_after-alike e _ (end-spaces (end-drop 2 h)) (line_end-end (skip_spaces (drop 2 s)))
  select-alike e (Some kind) h = alike-refl _

  pub select_or_inline-alike : (e : t.Inline) {s : Text} → EndsIn s w → Alike (g.select_or_inline_at a e s) (g.select_or_inline_at b e s)
  unfolding g.select_or_inline_at
  select_or_inline-alike e h = search (alikes, select-alike) depth 9

  pub closing-alike : (e : t.Expression) (s : Text) → Alike (g.closing_at a e s) (g.closing_at b e s)
  unfolding g.closing_at
  closing-alike e s = alike-refl _

  pub placeable-alike : (s : Text) → EndsIn (drop 1 s) w → Alike (g.placeable_at a s) (g.placeable_at b s)
  unfolding g.placeable_at
  placeable-alike s h = search (alikes, agree.inline, leaves-fair, fair.inline, select_or_inline-alike, select_or_inline-fair a fair, closing-alike) depth 12

  pub term_arguments-alike : (id : Text) (attr : Option Text) {s : Text} → EndsIn s w → Alike (g.term_arguments_at a id attr s) (g.term_arguments_at b id attr s)
  unfolding g.term_arguments_at
  term_arguments-alike id attr h = search (alikes, agree.arguments) depth 9

  pub term-alike : {s : Text} → EndsIn s w → Alike (g.term_at a s) (g.term_at b s)
  unfolding g.term_at
  term-alike h = search (alikes, leaves-fair, identifier-fair, accessor-fair, term_arguments-alike) depth 12

  pub function-alike : (id : Text) (args : t.Arguments) (s : Text) → Alike (g.function_of a id args s) (g.function_of b id args s)
  unfolding g.function_of
  function-alike id args s = alike-refl _

  pub called-alike : (id : Text) {s : Text} → EndsIn s w → Alike (g.called_at a id s) (g.called_at b id s)
  unfolding g.called_at
  called-alike id h = search (alikes, agree.arguments, leaves-fair, fair.arguments, function-alike) depth 12

  pub named-alike : (s : Text) → EndsIn (drop 1 s) w → Alike (g.named_at a s) (g.named_at b s)
  unfolding g.named_at
  named-alike s h = search (alikes, identifier-leaves, called-alike) depth 12

  pub inline-alike : (s : Text) → EndsIn (drop 1 s) w → Alike (g.inline_at a s) (g.inline_at b s)
  unfolding g.inline_at
  inline-alike s h = search (alikes, term-alike, named-alike, placeable-alike) depth 12

  pub positional-alike : (names : List Text) (e : t.Inline) {s : Text} → EndsIn s w → Alike (g.positional_at a names e s) (g.positional_at b names e s)
  unfolding g.positional_at
  positional-alike [] e h = alike-mapped _ (agree.arguments [] (end-separator h))
  positional-alike (name ∷ names) e h = alike-refl _

  pub named_value-alike : (names : List Text) (name : Text) {s : Text} → EndsIn s w → Alike (g.named_value_at a names name s) (g.named_value_at b names name s)
  unfolding g.named_value_at
  named_value-alike names name h = search (alikes, leaves-fair, literal-fair, agree.arguments) depth 12

  pub argument-alike : (names : List Text) (e : t.Inline) (o : Option Text) {s : Text} → EndsIn s w → Alike (g.argument_at a names e o s) (g.argument_at b names e o s)
  unfolding g.argument_at
  argument-alike names e (Some name) h = search (alikes, named_value-alike, positional-alike) depth 9
  argument-alike names e None h = positional-alike names e h

  pub arguments-alike : (names : List Text) (s : Text) → EndsIn (drop 1 s) w → Alike (g.arguments_at a names s) (g.arguments_at b names s)
  unfolding g.arguments_at
  arguments-alike names s h = search (alikes, inline-alike, inline-leaves a fair, argument-alike) depth 12

  pub after_text-alike : (z : Bool) {s : Text} → EndsIn s w → Alike (g.after_text_at a z s) (g.after_text_at b z s)
  unfolding g.after_text_at
  after_text-alike true h = agree.line h
  after_text-alike false h = agree.pieces h

  pub placeable_piece-alike : (z : Bool) (s : Text) → EndsIn (drop 1 s) w → Alike (g.placeable_piece_at a z s) (g.placeable_piece_at b z s)
  unfolding g.placeable_piece_at
  placeable_piece-alike z s h = search (alikes, placeable-alike, placeable-leaves a fair, agree.pieces) depth 12

  pub text_piece-alike : (piece : Text → Piece) (s : Text) → (length s == 0) ≡ false → begins_with open_brace s ≡ false → begins_crlf s ≡ false → EndsIn (drop 1 s) w → Alike (g.text_piece_at a piece s) (g.text_piece_at b piece s)
  unfolding g.text_piece_at
  text_piece-alike piece s some brace crlf h = search (alikes, text_run-leaves, after_text-alike) depth 12

  drop_two-end : (s : Text) → EndsIn (drop 1 s) w → EndsIn (drop 2 s) w
  drop_two-end [] h = h
  drop_two-end (c ∷ cs) h = end-drop 1 h

  pub pieces-alike : (s : Text) → EndsIn (drop 1 s) w → Alike (g.pieces_at a s) (g.pieces_at b s)
  unfolding g.pieces_at
  pieces-alike s h = search (alikes, placeable_piece-alike, text_piece-alike, agree.line, drop_two-end) depth 12

  drop_one_more-end : (n : ℕ) (s : Text) → EndsIn (drop 1 s) w → EndsIn (drop 1 (drop n s)) w
  drop_one_more-end zero s h = h
  drop_one_more-end (suc n) [] h = h
  drop_one_more-end (suc n) (c ∷ cs) h = end-drop 1 (end-drop n h)

  pub line-alike : (s : Text) → EndsIn (drop 1 s) w → Alike (g.line_at a s) (g.line_at b s)
  unfolding g.line_at
  line-alike s h = search (alikes, placeable_piece-alike, text_piece-alike, pieces-alike, drop_one_more-end) depth 12

  pub first_pieces-alike : {s : Text} (o : Option Text) → EndsIn s w → MaybeEnd o s → Alike (g.first_pieces_at a s o) (g.first_pieces_at b s o)
  unfolding g.first_pieces_at
  first_pieces-alike {s} None h k = pieces-alike s (end-drop 1 h)
  first_pieces-alike (Some rest) h k = line-alike _ (end-drop 1 (end-blank_block (end-trans k h)))

  pub first_pieces-inside : (s whole : Text) (o : Option Text) → EndsIn s whole → MaybeEnd o s → EndsIn (drop 1 whole) w → Alike (g.first_pieces_at a s o) (g.first_pieces_at b s o)
  unfolding g.first_pieces_at
  first_pieces-inside s whole None h k l = pieces-alike s (end-trans (end-drop_one h) l)
  first_pieces-inside s whole (Some rest) h k l = line-alike _ (end-trans (end-drop_one (end-blank_block (end-trans k h))) l)

  pub pattern-inside : (s : Text) → EndsIn (drop 1 s) w → Alike (g.pattern_at a s) (g.pattern_at b s)
  unfolding g.pattern_at
  pattern-inside s h = alike-mapped _ (first_pieces-inside (skip_spaces s) s _ (end-spaces (end-same s)) (line_end-end (skip_spaces s)) h)

  pub pattern-alike : {s : Text} → EndsIn s w → Alike (g.pattern_at a s) (g.pattern_at b s)
  unfolding g.pattern_at
  pattern-alike {s} h = alike-mapped _ (first_pieces-alike _ (end-spaces h) (line_end-end (skip_spaces s)))

  pub variants_behind-alike : (default : Bool) (key : t.VariantKey) (marked : Bool) (value : t.Elements) {s : Text} → EndsIn s w → Alike (g.variants_behind a default key marked value s) (g.variants_behind b default key marked value s)
  unfolding g.variants_behind
  variants_behind-alike default key marked t.no_elements h = alike-refl _
  variants_behind-alike default key marked (t.text x es) h = alike-mapped _ (agree.variants marked (end-blank h))
  variants_behind-alike default key marked (t.placeable x es) h = alike-mapped _ (agree.variants marked (end-blank h))

  pub variant_value-alike : (default : Bool) (key : t.VariantKey) (marked : Bool) {s : Text} → EndsIn s w → Alike (g.variant_value_at a default key marked s) (g.variant_value_at b default key marked s)
  unfolding g.variant_value_at
  variant_value-alike default key marked h = search (alikes, pattern-alike, leaves-fair, pattern-fair a fair, variants_behind-alike) depth 12

  pub variant-alike : (default marked : Bool) (s : Text) → EndsIn (drop 1 s) w → Alike (g.variant_at a default marked s) (g.variant_at b default marked s)
  unfolding g.variant_at
  variant-alike default marked s h = search (alikes, leaves-fair, key-fair, variant_value-alike) depth 12

  pub variant_or_end-alike : (default marked : Bool) (s : Text) → EndsIn (drop 1 s) w → Alike (g.variant_or_end_at a default marked s) (g.variant_or_end_at b default marked s)
  unfolding g.variant_or_end_at
  variant_or_end-alike default marked s h = search (alikes, variant-alike) depth 9

  pub variants-alike : (marked : Bool) (s : Text) → EndsIn (drop 1 s) w → Alike (g.variants_at a marked s) (g.variants_at b marked s)
  unfolding g.variants_at
  variants-alike marked s h = search (alikes, variant_or_end-alike) depth 9

-- one level more reads texts of one byte more alike
module _ (a b : Readers) (fair : FairReaders a) (k : ℕ) (shorter : (s : Text) → length s < k → Agree s a b) where
  pub inline-step : (s : Text) → length s ≤ k → Alike (g.inline_at a s) (g.inline_at b s)
  unfolding g.inline_at
  inline-step [] h = alike-refl _
  inline-step (c ∷ cs) h = inline-alike a b cs (shorter cs (omega arith)) fair (c ∷ cs) (end-same cs)

  pub arguments-step : (names : List Text) (s : Text) → length s ≤ k → Alike (g.arguments_at a names s) (g.arguments_at b names s)
  unfolding g.arguments_at
  arguments-step names [] h = alike-refl _
  arguments-step names (c ∷ cs) h = arguments-alike a b cs (shorter cs (omega arith)) fair names (c ∷ cs) (end-same cs)

  pub variants-step : (marked : Bool) (s : Text) → length s ≤ k → Alike (g.variants_at a marked s) (g.variants_at b marked s)
  unfolding g.variants_at g.variant_or_end_at
  variants-step marked [] h = alike-refl _
  variants-step marked (c ∷ cs) h = variants-alike a b cs (shorter cs (omega arith)) fair marked (c ∷ cs) (end-same cs)

  pub line-step : (s : Text) → length s ≤ k → Alike (g.line_at a s) (g.line_at b s)
  unfolding g.line_at
  line-step [] h = alike-refl _
  line-step (c ∷ cs) h = line-alike a b cs (shorter cs (omega arith)) fair (c ∷ cs) (end-same cs)

  pub pattern-step : (s : Text) → length s ≤ k → Alike (g.pattern_at a s) (g.pattern_at b s)
  unfolding g.pattern_at g.first_pieces_at g.pieces_at
  pattern-step [] h = alike-refl _
  pattern-step (c ∷ cs) h = pattern-inside a b cs (shorter cs (omega arith)) fair (c ∷ cs) (end-same cs)

  pub pieces-step : (s : Text) → length s ≤ k → Alike (g.pieces_at a s) (g.pieces_at b s)
  unfolding g.pieces_at
  pieces-step [] h = alike-refl _
  pieces-step (c ∷ cs) h = pieces-alike a b cs (shorter cs (omega arith)) fair (c ∷ cs) (end-same cs)

  end-within : {s w : Text} → EndsIn s w → length w ≤ k → length s ≤ k
  end-within e h = omega (arith, end-le e, h)

  pub agree-step : (w : Text) → length w ≤ k → Agree w (step a) (step b)
  agree-step w h = record {
    inline = λ {s} e. inline-step s (end-within e h);
    arguments = λ names {s} e. arguments-step names s (end-within e h);
    variants = λ marked {s} e. variants-step marked s (end-within e h);
    line = λ {s} e. line-step s (end-within e h);
    pieces = λ {s} e. pieces-step s (end-within e h);
  }

pub agree : (k m n : ℕ) (bottom : Readers) (w : Text) → length w < k → k ≤ m → k ≤ n → Agree w (readers m) (levels bottom n)
agree zero m n bottom w h p q = absurd (omega arith)
agree (suc k) zero n bottom w h p q = absurd (omega arith)
agree (suc k) (suc m) zero bottom w h p q = absurd (omega arith)
agree (suc k) (suc m) (suc n) bottom w h p q =
    agree-step (readers m) (levels bottom n) (readers-fair m) k (λ s l. agree k m n bottom s l (omega arith) (omega arith)) w (omega arith)

pub bottom_is_never_asked : BottomIsNeverAsked
bottom_is_never_asked bottom m n s p q =
    let h = agree (suc (length s)) m n bottom s (omega arith) p q in
    record {
      inline = (h.inline (end-same s)).same;
      arguments = λ names. (h.arguments names (end-same s)).same;
      variants = λ marked. (h.variants marked (end-same s)).same;
      line = (h.line (end-same s)).same;
      pieces = (h.pieces (end-same s)).same;
    }

pub levels_are_enough : LevelsAreEnough
levels_are_enough m n s p q =
    let h = bottom_is_never_asked no_readers m n s p q in
    let k = bottom_is_never_asked no_readers n n s q q in
    record {
      inline = h.inline ∙ sym k.inline;
      arguments = λ names. h.arguments names ∙ sym (k.arguments names);
      variants = λ marked. h.variants marked ∙ sym (k.variants marked);
      line = h.line ∙ sym k.line;
      pieces = h.pieces ∙ sym k.pieces;
    }

pub patterns_never_ask_the_bottom : PatternsNeverAskTheBottom
patterns_never_ask_the_bottom bottom m n s p q = (pattern-step (readers m) (levels bottom n) (readers-fair m) (length s) (λ u l. agree (length s) m n bottom u l p q) s (omega arith)).same

pub patterns_need_no_more_levels : PatternsNeedNoMoreLevels
patterns_need_no_more_levels m n s p q = patterns_never_ask_the_bottom no_readers m n s p q ∙ sym (patterns_never_ask_the_bottom no_readers n n s q q)
