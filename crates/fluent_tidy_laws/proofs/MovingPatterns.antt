-- What is spelled is spelled by the same front before another rest: a placeable before any, a pattern before any at which a
-- pattern is over.
use Rattle.std.proofs.Common.{◌≡◌, ℕ, Bool, true, false, List, [], ◌∷◌, drop, Option, None, refl, sym, ap, ◌∙◌, arith}
use Rattle.std.specs.Prelude.{◌==◌, ◌≢◌}
use Rattle.fluent_grammar.specs.Words.{Text, line_feed, carriage_return, hyphen, greater, quote, dollar, colon, asterisk, open_paren, close_paren, open_bracket, close_bracket, open_brace, close_brace, begins_with, begins_crlf, begins_arrow, spaces, skip_spaces, skip_blank_block, after_line_end}
use Rattle.fluent_grammar.specs.Tree as t
use Rattle.fluent_grammar.specs.Lines.{Piece, placed, at_line_start, ends_line, pattern_ends}
use Rattle.fluent_grammar.specs.Lexical.{SpellsText, SpellsAccessor, SpellsLiteral, SpellsKey}
use Rattle.fluent_grammar.specs.Spelling.{BeginsText, SpellsInline, a_string_literal, a_number_literal, a_variable_reference, a_term_reference, a_message_reference, a_function_reference, a_placeable, SpellsMaybeArguments, no_call, a_call, SpellsArguments, no_more, positional, named, SpellsPlaceable, in_braces, SpellsExpression, an_inline, a_select, SpellsVariants, all_read, lone_mark, a_variant, the_default, SpellsVariant, keyed, SpellsPattern, on_the_line, on_the_next, SpellsPieces, nothing_left, crlf_piece, text_piece, placeable_piece, SpellsLine, only_spaces_left, pattern_over, line_of_text, line_of_placeable, line_of_crlf, SpellsBehindText, next_line, same_line}
use Rattle.fluent_grammar.proofs.Got.{same}
use Rattle.fluent_grammar.proofs.Blanks.{block-at}
use Rattle.fluent_tidy_laws.proofs.Alike.{Alike, last, more, alike-then, alike-begins, alike-some, alike-crlf, alike-arrow, alike-no_end, back-spaces, back-blank, back-byte, back-separator}
use Rattle.fluent_tidy_laws.proofs.MovingWords.{name-moves, number-moves, string-moves, accessor-moves, key-moves, literal-moves, back-line_end, positional-moves, text-moves, Same, here, there, same-feed, text-ended, begins_text-moves, pattern_ends-moves, Over, over_end, over_here, alike-over, block-onto, end-onto, same-no_end}

-- ---- what a pattern leaves is a place where patterns are over

mutual
  pub pieces-over : {ps : List Piece} {s rest : Text} → SpellsPieces ps s rest → Over rest
  pieces-over nothing_left = over_end
  pieces-over (crlf_piece c d) = line-over d
  pieces-over (text_piece b x d) = behind_text-over d
  pieces-over (placeable_piece e d) = pieces-over d

  pub line-over : {ps : List Piece} {s rest : Text} → SpellsLine ps s rest → Over rest
  line-over (only_spaces_left h) = over_end
  line-over (pattern_over h k) = over_here h k
  line-over (line_of_text h b x d) = behind_text-over d
  line-over (line_of_placeable h e d) = pieces-over d
  line-over (line_of_crlf h c d) = pieces-over d

  pub behind_text-over : {ends : Bool} {ps : List Piece} {s rest : Text} → SpellsBehindText ends ps s rest → Over rest
  behind_text-over (next_line d) = line-over d
  behind_text-over (same_line d) = pieces-over d

pub pattern-over : {value : t.Elements} {s rest : Text} → SpellsPattern value s rest → Over rest
pattern-over (on_the_line n d e) = pieces-over d
pattern-over (on_the_next n d e) = line-over d

pub over-line : {s : Text} → Over s → SpellsLine [] s s
over-line over_end = only_spaces_left refl
over-line (over_here n e) = pattern_over n e

-- ---- what is alike, by an equation

pub alike-at : {a : ℕ} {x x' s s' u : Text} → s ≡ u → Alike a x x' u s' → Alike a x x' s s'
alike-at e h = rw e h

pub block-none : (u : Text) → after_line_end (skip_spaces (skip_blank_block u)) ≡ None
block-none u = (block-at u).1.longest

pub crlf-text : (s : Text) → begins_crlf s ≡ true → s ≡ carriage_return ∷ line_feed ∷ drop 2 s
crlf-text [] h = absurd cc
crlf-text (c ∷ []) h = absurd (grind arith)
crlf-text (c ∷ d ∷ ds) h =
    let p : (c == carriage_return) ≡ true = grind arith in
    let q : (d == line_feed) ≡ true = grind arith in
    rw (same c carriage_return p, same d line_feed q) refl

-- a line that begins alike
pub line-placeable : {e : t.Expression} {ps : List Piece} {s' u' rest' : Text} (s : Text) → spaces s' ≡ spaces s → pattern_ends s' ≡ false → SpellsPlaceable e (skip_spaces s') u' →
    SpellsPieces ps u' rest' → SpellsLine (placed (spaces s == 0) e ∷ ps) s' rest'
line-placeable s k h e d = rw (← k) (line_of_placeable h e d)

pub line-text : {piece : Text} {ps : List Piece} {s' u' rest' : Text} (s : Text) → spaces s' ≡ spaces s → pattern_ends s' ≡ false → BeginsText (skip_spaces s') → SpellsText piece (skip_spaces s') u' →
    SpellsBehindText (ends_line piece) ps u' rest' → SpellsLine (at_line_start (spaces s) piece ∷ ps) s' rest'
line-text s k h b x d = rw (← k) (line_of_text h b x d)

pub placeable-at : {e : t.Expression} {s s' u : Text} → s ≡ s' → SpellsPlaceable e s' u → SpellsPlaceable e s u
placeable-at h d = rw h d

pub text-at : {piece s s' u : Text} → s ≡ s' → SpellsText piece s' u → SpellsText piece s u
text-at h d = rw h d

pub begins-at : {s s' : Text} → s ≡ s' → BeginsText s' → BeginsText s
begins-at h d = rw h d

pub pieces-at : {ps : List Piece} {s s' u : Text} → s ≡ s' → SpellsPieces ps s' u → SpellsPieces ps s u
pieces-at h d = rw h d

pub line-at : {ps : List Piece} {s s' u : Text} → s ≡ s' → SpellsLine ps s' u → SpellsLine ps s u
line-at h d = rw h d

arguments-at : {names : List Text} {a : t.Arguments} {s s' u : Text} → s ≡ s' → SpellsArguments names a s' u → SpellsArguments names a s u
arguments-at h d = rw h d

expression-at : {e : t.Expression} {s s' u u' : Text} → s ≡ s' → u ≡ u' → SpellsExpression e s' u' → SpellsExpression e s u
expression-at h k d = rw (h, k) d

expression-ends : {e : t.Expression} {s u u' : Text} → u ≡ u' → SpellsExpression e s u → SpellsExpression e s u'
expression-ends k d = rw (← k) d

maybe-at : {c : t.MaybeArguments} {s s' u : Text} → s ≡ s' → SpellsMaybeArguments c s' u → SpellsMaybeArguments c s u
maybe-at h d = rw h d

accessor-at : {a : Option Text} {s s' u : Text} → s ≡ s' → SpellsAccessor a s' u → SpellsAccessor a s u
accessor-at h d = rw h d

literal-at : {e : t.Inline} {s s' u : Text} → s ≡ s' → SpellsLiteral e s' u → SpellsLiteral e s u
literal-at h d = rw h d

key-at : {key : t.VariantKey} {s s' u : Text} → s ≡ s' → SpellsKey key s' u → SpellsKey key s u
key-at h d = rw h d

pub alike-end : {a : ℕ} {x x' s s' u : Text} → s' ≡ u → Alike a x x' s u → Alike a x x' s s'
alike-end e h = rw e h

variants-at : {marked : Bool} {vs : t.Variants} {s s' u : Text} → s ≡ s' → SpellsVariants marked vs s' u → SpellsVariants marked vs s u
variants-at h d = rw h d

mutual
  -- a placeable, before any rest
  pub placeable-moves : {e : t.Expression} {s rest : Text} → SpellsPlaceable e s rest → (rest' : Text) →
      (s' : Text) × Alike close_brace rest rest' s s' × SpellsPlaceable e s' rest'
  placeable-moves (in_braces {u = u} {v = v} b d c) rest' =
      let v' = back-blank v refl (alike-at c last) in
      let x = expression-moves d _ _ v'.0 v'.1 in
      let u' = back-blank u refl x.1 in
      (open_brace ∷ u'.0, alike-at b (more open_brace u'.1), in_braces refl (expression-at u'.2 refl x.2) v'.2)

  -- within braces: before a rest that is alike up to the brace
  pub inline-moves : {e : t.Inline} {s rest : Text} → SpellsInline e s rest → (x x' rest' : Text) → Alike close_brace x x' rest rest' →
      (s' : Text) × Alike close_brace x x' s s' × SpellsInline e s' rest'
  inline-moves (a_string_literal b d) x x' rest' h = let g = string-moves d refl h in (quote ∷ g.0, alike-at b (more quote g.1), a_string_literal refl g.2)
  inline-moves (a_number_literal d) x x' rest' h = let g = number-moves d h in (g.0, g.1, a_number_literal g.2)
  inline-moves (a_variable_reference b d) x x' rest' h = let g = name-moves d h in (dollar ∷ g.0, alike-at b (more dollar g.1), a_variable_reference refl g.2)
  inline-moves (a_term_reference {w = w} b d a c) x x' rest' h =
      let c' = maybe-moves c x x' rest' h in
      let w' = back-blank w refl c'.1 in
      let a' = accessor-moves a w'.1 in
      let d' = name-moves d a'.1 in
      (hyphen ∷ d'.0, alike-at b (more hyphen d'.1), a_term_reference refl d'.2 a'.2 (maybe-at w'.2 c'.2))
  inline-moves (a_message_reference {u = u} d o a) x x' rest' h =
      let a' = accessor-moves a h in
      let u' = back-blank u refl a'.1 in
      let d' = name-moves d u'.1 in
      (d'.0, d'.1, a_message_reference d'.2 (ap (begins_with open_paren) u'.2 ∙ sym (alike-begins (λ y. y == open_paren) a'.1) ∙ o) (accessor-at u'.2 a'.2))
  inline-moves (a_function_reference {u = u} {v = v} d c p a) x x' rest' h =
      let a' = arguments-moves a x x' rest' h in
      let v' = back-blank v refl a'.1 in
      let u' = back-byte open_paren u refl p v'.1 in
      let d' = name-moves d u'.1 in
      (d'.0, d'.1, a_function_reference d'.2 c u'.2 (arguments-at v'.2 a'.2))
  inline-moves (a_placeable d) x x' rest' h = let d' = placeable-moves d rest' in (d'.0, alike-then d'.1 h, a_placeable d'.2)

  maybe-moves : {c : t.MaybeArguments} {s rest : Text} → SpellsMaybeArguments c s rest → (x x' rest' : Text) → Alike close_brace x x' rest rest' →
      (s' : Text) × Alike close_brace x x' s s' × SpellsMaybeArguments c s' rest'
  maybe-moves (no_call n) x x' rest' h = (rest', h, no_call (sym (alike-begins (λ y. y == open_paren) h) ∙ n))
  maybe-moves (a_call {u = u} p a) x x' rest' h =
      let a' = arguments-moves a x x' rest' h in
      let u' = back-blank u refl a'.1 in
      (open_paren ∷ u'.0, alike-at p (more open_paren u'.1), a_call refl (arguments-at u'.2 a'.2))

  arguments-moves : {names : List Text} {a : t.Arguments} {s rest : Text} → SpellsArguments names a s rest → (x x' rest' : Text) → Alike close_brace x x' rest rest' →
      (s' : Text) × Alike close_brace x x' s s' × SpellsArguments names a s' rest'
  arguments-moves (no_more p) x x' rest' h = (close_paren ∷ rest', alike-at p (more close_paren h), no_more refl)
  arguments-moves (positional {u = u} {e = e} d p m) x x' rest' h =
      let m' = arguments-moves m x x' rest' h in
      let u' = back-separator u refl m'.1 in
      let d' = inline-moves d x x' u'.0 u'.1 in
      (d'.0, d'.1, positional d'.2 (positional-moves e u u'.0 p (alike-begins (λ y. y == colon) u'.1)) (arguments-at u'.2 m'.2))
  arguments-moves (named {u = u} {v = v} {w = w} d c f l m) x x' rest' h =
      let m' = arguments-moves m x x' rest' h in
      let w' = back-separator w refl m'.1 in
      let l' = literal-moves l refl w'.1 in
      let v' = back-blank v refl l'.1 in
      let u' = back-byte colon u refl c v'.1 in
      let d' = name-moves d u'.1 in
      (d'.0, d'.1, named d'.2 u'.2 f (literal-at v'.2 l'.2) (arguments-at w'.2 m'.2))

  expression-moves : {e : t.Expression} {s rest : Text} → SpellsExpression e s rest → (x x' rest' : Text) → Alike close_brace x x' rest rest' →
      (s' : Text) × Alike close_brace x x' s s' × SpellsExpression e s' rest'
  expression-moves (an_inline {u = u} d a m) x x' rest' h =
      let u' = back-blank u refl h in
      let d' = inline-moves d x x' u'.0 u'.1 in
      (d'.0, d'.1, expression-ends u'.2 (an_inline d'.2 (ap begins_arrow u'.2 ∙ sym (alike-arrow refl h) ∙ a) m))
  expression-moves (a_select {u = u} {v = v} {w = w} d a m n vs) x x' rest' h =
      let vs' = variants-moves vs x x' rest' h in
      let w' = back-blank w refl vs'.1 in
      let n' = back-line_end (skip_spaces v) w n w'.1 in
      let v' = back-spaces v n'.1 in
      let u' = back-blank u refl (alike-at a (more hyphen (more greater v'.1))) in
      let d' = inline-moves d x x' u'.0 u'.1 in
      (d'.0, d'.1, a_select d'.2 u'.2 m (ap after_line_end v'.2 ∙ n'.2) (variants-at w'.2 vs'.2))

  variants-moves : {marked : Bool} {vs : t.Variants} {s rest : Text} → SpellsVariants marked vs s rest → (x x' rest' : Text) → Alike close_brace x x' rest rest' →
      (s' : Text) × Alike close_brace x x' s s' × SpellsVariants marked vs s' rest'
  variants-moves (all_read a b) x x' rest' h =
      (rest', h, all_read (sym (alike-begins (λ y. y == asterisk) h) ∙ a) (sym (alike-begins (λ y. y == open_bracket) h) ∙ b))
  variants-moves (lone_mark a b) x x' rest' h =
      (asterisk ∷ rest', alike-at a (more asterisk h), lone_mark refl (sym (alike-begins (λ y. y == open_bracket) h) ∙ b))
  variants-moves (a_variant {u = u} d m) x x' rest' h =
      let m' = variants-moves m x x' rest' h in
      let u' = back-blank u refl m'.1 in
      let d' = variant-moves d x x' u'.0 u'.1 in
      (d'.0, d'.1, a_variant d'.2 (variants-at u'.2 m'.2))
  variants-moves (the_default {v = v} a d m) x x' rest' h =
      let m' = variants-moves m x x' rest' h in
      let v' = back-blank v refl m'.1 in
      let d' = variant-moves d x x' v'.0 v'.1 in
      (asterisk ∷ d'.0, alike-at a (more asterisk d'.1), the_default refl d'.2 (variants-at v'.2 m'.2))

  variant-moves : {key : t.VariantKey} {value : t.Elements} {s rest : Text} → SpellsVariant key value s rest → (x x' rest' : Text) → Alike close_brace x x' rest rest' →
      (s' : Text) × Alike close_brace x x' s s' × SpellsVariant key value s' rest'
  variant-moves (keyed {u = u} {v = v} b k c p n) x x' rest' h =
      let p' = pattern-moves p rest' (alike-some h) (alike-over refl h (pattern-over p)) in
      let v' = back-byte close_bracket v refl c (alike-then p'.1 h) in
      let k' = key-moves k v'.1 in
      let u' = back-blank u refl k'.1 in
      (open_bracket ∷ u'.0, alike-at b (more open_bracket u'.1), keyed refl (key-at u'.2 k'.2) v'.2 p'.2 n)

  -- a pattern, before any rest where patterns are over
  pub pattern-moves : {value : t.Elements} {s rest : Text} → SpellsPattern value s rest → (rest' : Text) → rest ≢ [] → Over rest' →
      (s' : Text) × Alike line_feed rest rest' s s' × SpellsPattern value s' rest'
  pattern-moves (on_the_line {s = s} n d e) rest' some over =
      let d' = pieces-moves d rest' some over in
      let s' = back-spaces s d'.1 in
      (s'.0, s'.1, on_the_line (ap after_line_end s'.2 ∙ alike-no_end refl d'.1 n) (pieces-at s'.2 d'.2) e)
  pattern-moves (on_the_next {s = s} {u = u} n d e) rest' some over =
      let d' = line-moves d rest' some over in
      let u' = block-onto u d'.1 (same-no_end over d'.1 (block-none u)) in
      let n' = end-onto (skip_spaces s) u n u'.1 in
      let s' = back-spaces s n'.1 in
      (s'.0, s'.1, on_the_next (ap after_line_end s'.2 ∙ n'.2) (line-at u'.2 d'.2) e)

  pub pieces-moves : {ps : List Piece} {s rest : Text} → SpellsPieces ps s rest → (rest' : Text) → rest ≢ [] → Over rest' →
      (s' : Text) × Alike line_feed rest rest' s s' × SpellsPieces ps s' rest'
  pieces-moves nothing_left rest' some over = absurd (some refl)
  pieces-moves (crlf_piece {s = s} c d) rest' some over =
      let d' = line-moves d rest' some over in
      (carriage_return ∷ line_feed ∷ d'.0, alike-at (crlf-text s c) (more carriage_return (same-feed d'.1)), crlf_piece refl d'.2)
  pieces-moves (text_piece b x d) rest' some over =
      let d' = behind_text-moves d x rest' some over refl in
      (d'.0, d'.1, text_piece (begins_text-moves refl d'.1 b) d'.3 d'.4)
  pieces-moves (placeable_piece e d) rest' some over =
      let d' = pieces-moves d rest' some over in
      let e' = placeable-moves e d'.0 in
      (e'.0, alike-then e'.1 d'.1, placeable_piece e'.2 d'.2)

  pub line-moves : {ps : List Piece} {s rest : Text} → SpellsLine ps s rest → (rest' : Text) → rest ≢ [] → Over rest' →
      (s' : Text) × Same rest rest' s s' × SpellsLine ps s' rest'
  line-moves (only_spaces_left h) rest' some over = absurd (some refl)
  line-moves (pattern_over h k) rest' some over = (rest', here, over-line over)
  line-moves (line_of_text {s = s} h b x d) rest' some over =
      let d' = behind_text-moves d x rest' some over refl in
      let s' = back-spaces s d'.1 in
      let b' = begins_text-moves refl d'.1 b in
      (s'.0, there s'.1, line-text s s'.3 (pattern_ends-moves s s'.0 s'.3 s'.1 (alike-end s'.2 d'.1) ∙ h) (begins-at s'.2 b') (text-at s'.2 d'.3) d'.4)
  line-moves (line_of_placeable {s = s} h e d) rest' some over =
      let d' = pieces-moves d rest' some over in
      let e' = placeable-moves e d'.0 in
      let s' = back-spaces s (alike-then e'.1 d'.1) in
      (s'.0, there s'.1, line-placeable s s'.3 (pattern_ends-moves s s'.0 s'.3 s'.1 (alike-end s'.2 (alike-then e'.1 d'.1)) ∙ h) (placeable-at s'.2 e'.2) d'.2)
  line-moves (line_of_crlf {s = s} h c d) rest' some over =
      let d' = pieces-moves d rest' some over in
      let s' = back-spaces s d'.1 in
      (s'.0, there s'.1, line_of_crlf (pattern_ends-moves s s'.0 s'.3 s'.1 (alike-end s'.2 d'.1) ∙ h) (ap begins_crlf s'.2 ∙ sym (alike-crlf refl d'.1) ∙ c) (pieces-at s'.2 d'.2))

  -- with the text before it
  behind_text-moves : {ends : Bool} {ps : List Piece} {u rest : Text} → SpellsBehindText ends ps u rest → {piece s : Text} → SpellsText piece s u → (rest' : Text) → rest ≢ [] → Over rest' →
      ends_line piece ≡ ends → (s' : Text) × Alike line_feed rest rest' s s' × (u' : Text) × SpellsText piece s' u' × SpellsBehindText ends ps u' rest'
  behind_text-moves (next_line d) x rest' some over e =
      let d' = line-moves d rest' some over in
      let x' = text-ended x e d'.1 in
      (x'.0, x'.1, d'.0, x'.2, next_line d'.2)
  behind_text-moves (same_line d) x rest' some over e =
      let d' = pieces-moves d rest' some over in
      let x' = text-moves x refl d'.1 in
      (x'.0, x'.1, d'.0, x'.2, same_line d'.2)
