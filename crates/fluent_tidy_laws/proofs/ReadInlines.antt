-- What is read without a shape is well formed: expressions and patterns.
use Rattle.std.proofs.Common.{◌≡◌, suc, Bool, true, false, cond, not, ◌||◌, List, [], ◌∷◌, length, Option, Some, None, refl, sym, ap, ◌∙◌, arith}
use Rattle.std.specs.Prelude.{◌==◌, ◌≢◌}
use Rattle.std.specs.Str.{IsUtf8}
use Rattle.fluent_grammar.specs.Words.{Text, space, close_bracket, open_brace, close_brace, begins_with, spaces, skip_spaces, after_line_end}
use Rattle.fluent_grammar.specs.Tree as t
use Rattle.fluent_grammar.specs.Refusal.{Reading, got}
use Rattle.fluent_grammar.specs.Ends.{EndsIn}
use Rattle.fluent_grammar.specs.Lines.{Piece, ends_line}
use Rattle.fluent_grammar.specs.Lexical.{SpellsName, SpellsAccessor, no_accessor, an_accessor, SpellsKey, SpellsLiteral}
use Rattle.fluent_grammar.specs.Reading.{readers}
use Rattle.fluent_grammar.specs.Spelling.{BeginsText, SpellsInline, a_string_literal, a_number_literal, a_variable_reference, a_term_reference, a_message_reference, a_function_reference, a_placeable, SpellsMaybeArguments, no_call, a_call, SpellsArguments, no_more, positional, named, SpellsPlaceable, in_braces, SpellsExpression, an_inline, a_select, SpellsVariants, all_read, lone_mark, a_variant, the_default, SpellsVariant, keyed, SpellsPattern, on_the_line, on_the_next, SpellsPieces, nothing_left, crlf_piece, text_piece, placeable_piece, SpellsLine, only_spaces_left, pattern_over, line_of_text, line_of_placeable, line_of_crlf, SpellsBehindText, next_line, same_line}
use Rattle.fluent_grammar.proofs.Cases.{or-left, or-right}
use Rattle.fluent_grammar.proofs.Words.{key_complete, literal_complete}
use Rattle.fluent_grammar.proofs.Complete.{inline_complete, variants_complete, pattern_complete}
use Rattle.fluent_grammar.proofs.Within.{end-same, end-trans, end-cons, end-tail, end-blank, end-spaces, end-separator, end-blank_block, MaybeEnd, line_end-end, Fair, key-fair, literal-fair, readers-fair, inline-fair, variants-fair, read_pattern-fair}
use Rattle.fluent_grammar.proofs.Blanks.{block-at}
use Rattle.fluent_tidy_laws.specs.Shapes.{inline_marked, maybe_marked, arguments_marked, placeable_marked, expression_marked, variants_marked, variant_marked, pattern_marked, pieces_marked, line_marked, behind_text_marked, inline_shaped, maybe_shaped, arguments_shaped, inlines_shaped, nameds_shaped, expression_shaped, variants_shaped, pattern_shaped}
use Rattle.fluent_tidy_laws.specs.WellFormed.{WellFormedInline, WellFormedMaybe, WellFormedArguments, WellFormedInlines, WellFormedNameds, WellFormedExpression, WellFormedVariants, WellFormedPattern, IsKey, default_count}
use Rattle.fluent_tidy_laws.proofs.ReadWords.{name-well_formed, number-well_formed, accessor-well_formed, key-well_formed, raw-well_formed, literal-well_formed, Sound, sound-end, sound-behind, sound-no_return, no-crlf, Stop, at_feed, at_brace, at_end, text-read, spaces-utf8, block-utf8, after_line_end-utf8, spaces-over, text-shown, start-read}
use Rattle.fluent_tidy_laws.proofs.ReadLines.{Lined}
use Rattle.fluent_tidy_laws.proofs.ReadPatterns.{Shows, pattern-well_formed}

-- ---- what is left is an end of the text

pub got-end : {A : Type 0} {x : Reading A} {a : A} {rest s : Text} → x ≡ got a rest → Fair x s → EndsIn rest s
got-end e f = let g = rw e at f in g.parts

pub name-end : {name s rest : Text} → SpellsName name s rest → EndsIn rest s
name-end {name} d = record { front = name; whole = d.run.split }

accessor-end : {attribute : Option Text} {s rest : Text} → SpellsAccessor attribute s rest → EndsIn rest s
accessor-end (no_accessor n) = end-same _
accessor-end (an_accessor d) = end-cons _ (name-end d)

key-end : {key : t.VariantKey} {s rest : Text} → SpellsKey key s rest → EndsIn rest s
key-end {s = s} d = got-end (key_complete d) (key-fair (end-same s))

literal-end : {e : t.Inline} {s rest : Text} → SpellsLiteral e s rest → EndsIn rest s
literal-end {s = s} d = got-end (literal_complete d) (literal-fair (end-same s))

inline-end : {e : t.Inline} {s rest : Text} → SpellsInline e s rest → EndsIn rest s
inline-end {s = s} d = got-end (inline_complete d (length s) (omega arith)) (inline-fair (readers (length s)) (readers-fair (length s)) (end-same s))

variants-end : {marked : Bool} {vs : t.Variants} {s rest : Text} → SpellsVariants marked vs s rest → EndsIn rest s
variants-end {marked} {s = s} d = got-end (variants_complete d (length s) (omega arith)) (variants-fair (readers (length s)) (readers-fair (length s)) marked (end-same s))

pub pattern-end : {value : t.Elements} {s rest : Text} → SpellsPattern value s rest → EndsIn rest s
pattern-end {s = s} d = got-end (pattern_complete d (length s) (omega arith)) (read_pattern-fair (length s) (end-same s))

-- an end that is known by an equation
pub end-is : {s u v : Text} → u ≡ v → EndsIn u s → EndsIn v s
end-is e d = rw (← e) d

after-end : (s u : Text) → after_line_end s ≡ Some u → EndsIn u s
after-end s u e = by (after_line_end s) e (line_end-end s)
  where
    by : (o : Option Text) → o ≡ Some u → MaybeEnd o s → EndsIn u s
    by None e d = absurd cc
    by (Some w) e d = let k : w ≡ u = cc in end-is k d

variant-end : {key : t.VariantKey} {value : t.Elements} {s rest : Text} → SpellsVariant key value s rest → EndsIn rest s
variant-end (keyed {s} {u} {v} b k c p h) =
    let w = end-tail (end-is c (end-blank (end-trans (key-end k) (end-blank (end-tail (end-is b (end-same s))))))) in
    end-trans (pattern-end p) w

expression-end : {e : t.Expression} {s rest : Text} → SpellsExpression e s rest → EndsIn rest s
expression-end (an_inline d a m) = end-blank (inline-end d)
expression-end (a_select {v = v} {w = w} d a m n vs) =
    end-trans (variants-end vs) (end-blank (end-trans (after-end (skip_spaces v) w n) (end-spaces (end-tail (end-tail (end-is a (end-blank (inline-end d))))))))

-- up to and with its closing brace
brace-end : {e : t.Expression} {s rest : Text} → SpellsPlaceable e s rest → EndsIn (close_brace ∷ rest) s
brace-end (in_braces {s} b d c) = end-is c (end-blank (end-trans (expression-end d) (end-blank (end-tail (end-is b (end-same s))))))

placeable-end : {e : t.Expression} {s rest : Text} → SpellsPlaceable e s rest → EndsIn rest s
placeable-end d = end-tail (brace-end d)

placeable-utf8 : {e : t.Expression} {s rest : Text} → SpellsPlaceable e s rest → Sound s → IsUtf8 rest
placeable-utf8 {rest = rest} d s = sound-behind close_brace rest (sound-end (brace-end d) s) (omega arith)

-- ---- what is looked for

abbrev ArgumentsFormed : List Text → t.Arguments → Type 0
ArgumentsFormed names (t.arguments ps ns) = WellFormedInlines ps × WellFormedNameds ns names

of-arguments : (a : t.Arguments) → ArgumentsFormed [] a → WellFormedArguments a
of-arguments (t.arguments ps ns) h = h

-- nothing but a placeable may follow
Stopped : Text → Type 0
Stopped s = (begins_with open_brace s ≡ false) → s ≡ []

stopped : {x u : Text} → Stop x u → ends_line x ≡ false → Stopped u
unfolding Stopped
stopped (at_feed e) h = absurd (let k : true ≡ false = sym e ∙ h in cc)
stopped (at_brace u e) h = λ k. absurd cc
stopped (at_end e) h = λ k. refl

not-behind : (behind : Bool) (s : Text) → (behind ≡ true → Stopped s) → BeginsText s → behind ≡ false
unfolding Stopped
not-behind true s h b = absurd (b.not_end (h refl b.no_brace))
not-behind false s h b = refl

not-true : (b : Bool) → (b ≡ true) → b ≡ false → ⊥
not-true b h k = let m : true ≡ false = sym h ∙ k in absurd cc

-- ---- the first piece

pieces-shows : {ps : List Piece} {s rest : Text} → SpellsPieces ps s rest → Sound s → IsUtf8 s → begins_with space s ≡ false → after_line_end s ≡ None → Shows ps
pieces-shows nothing_left sound u h k = tt
pieces-shows (crlf_piece {s = s} c d) sound u h k = absurd (not-true _ c (no-crlf s (sound-no_return sound)))
pieces-shows (text_piece b x d) sound u h k = text-shown (text-read x b sound u) h k
pieces-shows (placeable_piece e d) sound u h k = tt

line-shows : {ps : List Piece} {s rest : Text} → SpellsLine ps s rest → Sound s → IsUtf8 s → after_line_end (skip_spaces s) ≡ None → Shows ps
line-shows (only_spaces_left h) sound u k = tt
line-shows (pattern_over h n) sound u k = tt
line-shows (line_of_text {s = s} h b x d) sound u k = (text-shown (text-read x b (sound-end (end-spaces (end-same s)) sound) (spaces-utf8 s u)) (spaces-over s) k).0
line-shows (line_of_placeable h e d) sound u k = tt
line-shows (line_of_crlf {s = s} h c d) sound u k = absurd (not-true _ c (no-crlf (skip_spaces s) (sound-no_return (sound-end (end-spaces (end-same s)) sound))))

-- ---- by mutual induction on the derivation

positional-more : (a b c : Bool) → ((a || b) || c) ≡ false → (b || c) ≡ false
positional-more true b c h = absurd cc
positional-more false b c h = h

named-more : (a b c : Bool) → (a || (b || c)) ≡ false → (a || c) ≡ false
named-more true b c h = absurd cc
named-more false b c h = or-right b c h

mutual
  pub inline-well_formed : {e : t.Inline} {s rest : Text} (d : SpellsInline e s rest) → Sound s → inline_marked d ≡ false → inline_shaped e ≡ false → WellFormedInline e
  inline-well_formed (a_string_literal b d) sound m h = raw-well_formed d
  inline-well_formed (a_number_literal d) sound m h = number-well_formed d
  inline-well_formed (a_variable_reference b d) sound m h = name-well_formed d
  inline-well_formed (a_term_reference {s = s} b d a c) sound m h =
      (name-well_formed d, accessor-well_formed a, maybe-well_formed c (sound-end (end-blank (end-trans (accessor-end a) (end-trans (name-end d) (end-tail (end-is b (end-same s)))))) sound) m h)
  inline-well_formed (a_message_reference d o a) sound m h = (name-well_formed d, accessor-well_formed a)
  inline-well_formed (a_function_reference {arguments = args} d c p a) sound m h =
      (name-well_formed d, c, of-arguments args (arguments-well_formed a (sound-end (end-blank (end-tail (end-is p (end-blank (name-end d))))) sound) m h))
  inline-well_formed (a_placeable d) sound m h = placeable-well_formed d sound m h

  maybe-well_formed : {c : t.MaybeArguments} {s rest : Text} (d : SpellsMaybeArguments c s rest) → Sound s → maybe_marked d ≡ false → maybe_shaped c ≡ false → WellFormedMaybe c
  maybe-well_formed (no_call n) sound m h = tt
  maybe-well_formed (a_call {s = s} {arguments = args} p a) sound m h = of-arguments args (arguments-well_formed a (sound-end (end-blank (end-tail (end-is p (end-same s)))) sound) m h)

  arguments-well_formed : {names : List Text} {a : t.Arguments} {s rest : Text} (d : SpellsArguments names a s rest) → Sound s → arguments_marked d ≡ false → arguments_shaped a ≡ false → ArgumentsFormed names a
  arguments-well_formed (no_more p) sound m h = (tt, tt)
  arguments-well_formed (positional {e = e} {ps = ps} {ns = ns} d p more) sound m h =
      let r = arguments-well_formed more (sound-end (end-separator (inline-end d)) sound) (or-right _ _ m) (positional-more (inline_shaped e) (inlines_shaped ps) (nameds_shaped ns) h) in
      ((inline-well_formed d sound (or-left _ _ m) (or-left _ _ (or-left _ _ h)), r.0), r.1)
  arguments-well_formed (named {e = e} {ps = ps} {ns = ns} d c f x more) sound m h =
      let r = arguments-well_formed more (sound-end (end-separator (end-trans (literal-end x) (end-blank (end-tail (end-is c (end-blank (name-end d))))))) sound) m (named-more (inlines_shaped ps) (inline_shaped e) (nameds_shaped ns) h) in
      (r.0, (name-well_formed d, f, literal-well_formed x, r.1))

  placeable-well_formed : {e : t.Expression} {s rest : Text} (d : SpellsPlaceable e s rest) → Sound s → placeable_marked d ≡ false → expression_shaped e ≡ false → WellFormedExpression e
  placeable-well_formed (in_braces {s = s} b d c) sound m h = expression-well_formed d (sound-end (end-blank (end-tail (end-is b (end-same s)))) sound) m h

  expression-well_formed : {e : t.Expression} {s rest : Text} (d : SpellsExpression e s rest) → Sound s → expression_marked d ≡ false → expression_shaped e ≡ false → WellFormedExpression e
  expression-well_formed (an_inline d a n) sound m h = (inline-well_formed d sound m h, n)
  expression-well_formed (a_select {v = v} {w = w} d a n l vs) sound m h =
      let r = variants-well_formed vs (sound-end (end-blank (end-trans (after-end (skip_spaces v) w l) (end-spaces (end-tail (end-tail (end-is a (end-blank (inline-end d)))))))) sound) (or-right _ _ m) (or-right _ _ h) in
      (inline-well_formed d sound (or-left _ _ m) (or-left _ _ h), n, r.0, r.1)

  variants-well_formed : {marked : Bool} {vs : t.Variants} {s rest : Text} (d : SpellsVariants marked vs s rest) → Sound s → variants_marked d ≡ false → variants_shaped vs ≡ false →
      WellFormedVariants vs × (default_count vs ≡ cond marked 0 1)
  variants-well_formed (all_read a b) sound m h = (tt, refl)
  variants-well_formed (lone_mark a b) sound m h = absurd cc
  variants-well_formed (a_variant d more) sound m h =
      let r = variants-well_formed more (sound-end (end-blank (variant-end d)) sound) (or-right _ _ m) (or-right _ _ h) in
      let v = variant-well_formed d sound (or-left _ _ m) (or-left _ _ h) in
      ((v.0, v.1, r.0), r.1)
  variants-well_formed (the_default {s = s} a d more) sound m h =
      let u = sound-end (end-tail (end-is a (end-same s))) sound in
      let r = variants-well_formed more (sound-end (end-blank (variant-end d)) u) (or-right _ _ m) (or-right _ _ h) in
      let v = variant-well_formed d u (or-left _ _ m) (or-left _ _ h) in
      ((v.0, v.1, r.0), ap suc r.1)

  variant-well_formed : {key : t.VariantKey} {value : t.Elements} {s rest : Text} (d : SpellsVariant key value s rest) → Sound s → variant_marked d ≡ false → pattern_shaped value ≡ false →
      IsKey key × WellFormedPattern value
  variant-well_formed (keyed {s = s} {w = w} b k c p n) sound m h =
      let close = sound-end (end-is c (end-blank (end-trans (key-end k) (end-blank (end-tail (end-is b (end-same s))))))) sound in
      (key-well_formed k, value-well_formed p (sound-end (end-cons close_bracket (end-same w)) close) (sound-behind close_bracket w close (omega arith)) m n h)

  -- a pattern
  pub value-well_formed : {value : t.Elements} {s rest : Text} (d : SpellsPattern value s rest) → Sound s → IsUtf8 s → pattern_marked d ≡ false → value ≢ t.no_elements → pattern_shaped value ≡ false → WellFormedPattern value
  value-well_formed (on_the_line {s = s} {ps = ps} {value = value} n d e) sound u m some h =
      let z = sound-end (end-spaces (end-same s)) sound in
      let k = spaces-utf8 s u in
      pattern-well_formed false ps value e (pieces-lined d z k m false (λ b. absurd cc)) (pieces-shows d z k (spaces-over s) n) some h
  value-well_formed (on_the_next {s = s} {u = v} {ps = ps} {value = value} n d e) sound u m some h =
      let z = sound-end (end-blank_block (end-trans (after-end (skip_spaces s) v n) (end-spaces (end-same s)))) sound in
      let k = block-utf8 v (after_line_end-utf8 (skip_spaces s) v n (spaces-utf8 s u)) in
      pattern-well_formed true ps value e (line-lined d z k m) (line-shows d z k (block-at v).1.longest) some h

  pieces-lined : {ps : List Piece} {s rest : Text} (d : SpellsPieces ps s rest) → Sound s → IsUtf8 s → pieces_marked d ≡ false → (behind : Bool) → (behind ≡ true → Stopped s) → Lined behind false ps
  pieces-lined nothing_left sound u m behind f = tt
  pieces-lined (crlf_piece {s = s} c d) sound u m behind f = absurd (not-true _ c (no-crlf s (sound-no_return sound)))
  pieces-lined (text_piece {piece = x} {s = s} b y d) sound u m behind f =
      let r = text-read y b sound u in
      (not-behind behind s f b, refl, r.part, behind_text-lined d (sound-end (record { front = x; whole = r.split }) sound) r.rest m (λ h. stopped r.stop h))
  pieces-lined (placeable_piece e d) sound u m behind f =
      (refl, (λ h. placeable-well_formed e sound (or-left _ _ m) h), pieces-lined d (sound-end (placeable-end e) sound) (placeable-utf8 e sound) (or-right _ _ m) false (λ b. absurd cc))

  line-lined : {ps : List Piece} {s rest : Text} (d : SpellsLine ps s rest) → Sound s → IsUtf8 s → line_marked d ≡ false → Lined false true ps
  line-lined (only_spaces_left h) sound u m = tt
  line-lined (pattern_over h k) sound u m = tt
  line-lined (line_of_text {piece = x} {s = s} h b y d) sound u m =
      let z = sound-end (end-spaces (end-same s)) sound in
      let r = text-read y b z (spaces-utf8 s u) in
      (refl, refl, start-read s r h, behind_text-lined d (sound-end (record { front = x; whole = r.split }) z) r.rest m (λ k. stopped r.stop k))
  line-lined (line_of_placeable {s = s} h e d) sound u m =
      let z = sound-end (end-spaces (end-same s)) sound in
      let k = or-right (spaces s == 0) _ m in
      (or-left _ _ m, (λ n. placeable-well_formed e z (or-left _ _ k) n), pieces-lined d (sound-end (placeable-end e) z) (placeable-utf8 e z) (or-right _ _ k) false (λ b. absurd cc))
  line-lined (line_of_crlf {s = s} h c d) sound u m = absurd (not-true _ c (no-crlf (skip_spaces s) (sound-no_return (sound-end (end-spaces (end-same s)) sound))))

  behind_text-lined : {ends : Bool} {ps : List Piece} {s rest : Text} (d : SpellsBehindText ends ps s rest) → Sound s → IsUtf8 s → behind_text_marked d ≡ false → (ends ≡ false → Stopped s) → Lined (not ends) ends ps
  behind_text-lined (next_line d) sound u m f = line-lined d sound u m
  behind_text-lined (same_line d) sound u m f = pieces-lined d sound u m true (λ b. f refl)
