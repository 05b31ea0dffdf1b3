-- No place of a text takes more than all its braces and parentheses weigh.
use Rattle.std.proofs.Common.{◌≡◌, ℕ, suc, ◌+◌, ◌<◌, ◌≤◌, Bool, true, false, ◌||◌, List, [], ◌∷◌, ◌++◌, length, drop, sym, ap, subst, arith, Option, Some, None}
use Rattle.fluent_grammar.specs.Words.{Text, begins_with, open_brace, open_paren, skip_blank, skip_spaces, skip_separator, skip_blank_block, after_line_end}
use Rattle.fluent_grammar.specs.Ends.{EndsIn}
use Rattle.fluent_grammar.specs.Refusal.{Reading, got}
use Rattle.fluent_grammar.specs.Tree as t
use Rattle.fluent_grammar.specs.Reading as g
use Rattle.fluent_grammar.proofs.Within.{Fair, FairReaders, fairs, fair-got, fair-refuse, fair-bind, fair-mapped, end-same, end-drop, end-blank, end-spaces, end-separator, end-blank_block, MaybeEnd, line_end-end, identifier-fair, accessor-fair, key-fair, literal-fair, text_run-fair, placeable-fair, pattern-fair, readers-fair}
use Rattle.fluent_text.specs.declared.stack.reading.TheConstants.{PLACEABLE, CALL, SELECT}
use Rattle.fluent_parser.specs.Reads.{whole, byte_at, key_in_brackets_at, argument_value_at}
use Rattle.fluent_parser.specs.Steps.{placeable_by, pattern_by, present, argument_by, positional_by, named_or_positional_by, names_with, variant_by, default_mark_at, first_place, indent_at, text_step, piece_behind, piece_by, kept_piece_by}
use Rattle.fluent_tokens.proofs.Scanned.{test_of}
use Rattle.fluent_parser.proofs.Steps.{placeable_is}
use Rattle.fluent_parser.specs.Weights.{byte_weight, weight}
use Rattle.fluent_parser.specs.Nesting.{TakesInline, in_braces, in_call, in_term, TakesPlaceable, placeable_opens, in_expression, in_select, TakesCall, call_opens, in_arguments, TakesArguments, this_argument, later_argument, TakesSelect, select_opens, in_variants, TakesVariants, this_variant, later_variant, TakesVariant, in_value, TakesPattern, after_blank, TakesLines, in_pieces, TakesPieces, this_piece, later_piece, TakesSource, in_pattern}
use Rattle.fluent_parser.specs.Depth.{NestsPast}

-- an end of a text weighs no more
weight-append : (front rest : Text) → weight rest ≤ weight (front ++ rest)
weight-append [] rest = omega arith
weight-append (c ∷ cs) rest = omega (arith, weight-append cs rest)

weight-end : {u s : Text} → EndsIn u s → weight u ≤ weight s
weight-end {u} {s} e = subst (λ (z : Text). weight u ≤ weight z) (sym e.whole) (weight-append e.front u)

weight-drop : (n : ℕ) (s : Text) → weight (drop n s) ≤ weight s
weight-drop n s = weight-end (end-drop n (end-same s))

brace-weighs : (s : Text) → begins_with open_brace s ≡ true → PLACEABLE + SELECT + weight (drop 1 s) ≤ weight s
brace-weighs [] h = absurd cc
brace-weighs (c ∷ cs) h = subst (λ (z : ℕ). PLACEABLE + SELECT + weight cs ≤ byte_weight z + weight cs) (sym (test_of c open_brace h)) (omega arith)

paren-weighs : (s : Text) → begins_with open_paren s ≡ true → CALL + weight (drop 1 s) ≤ weight s
paren-weighs [] h = absurd cc
paren-weighs (c ∷ cs) h = subst (λ (z : ℕ). CALL + weight cs ≤ byte_weight z + weight cs) (sym (test_of c open_paren h)) (omega arith)

-- what is read ends in the text that it begins
got-end : {A : Type 0} (x : Reading A) (a : A) (u s : Text) → x ≡ got a u → Fair x s → EndsIn u s
got-end {A = A} x a u s e fair = let q : Fair (got a u) s = subst (λ (y : Reading A). Fair y s) e fair in q.parts

got-weighs : {A : Type 0} (x : Reading A) (a : A) (u s : Text) → x ≡ got a u → Fair x s → weight u ≤ weight s
got-weighs x a u s e fair = weight-end (got-end x a u s e fair)

whole-fair : FairReaders whole
unfolding whole
whole-fair = record {
  inline = λ {s} h. (readers-fair (suc (length s))).inline h;
  arguments = λ names {s} h. (readers-fair (suc (length s))).arguments names h;
  variants = λ marked {s} h. (readers-fair (suc (length s))).variants marked h;
  line = λ {s} h. (readers-fair (suc (length s))).line h;
  pieces = λ {s} h. (readers-fair (suc (length s))).pieces h;
}

byte-fair : (byte : ℕ) {s w : Text} → EndsIn s w → Fair (byte_at byte s) w
byte-fair byte h = search fairs depth 9

key_in_brackets-fair : {s w : Text} → EndsIn s w → Fair (key_in_brackets_at s) w
key_in_brackets-fair h = search (fairs, key-fair, byte-fair) depth 12

mark-fair : (marked : Bool) {s w : Text} → EndsIn s w → Fair (default_mark_at marked s) w
mark-fair marked h = search fairs depth 12

present-fair : (o : Option t.Elements) {s w : Text} → EndsIn s w → Fair (present o s) w
present-fair None h = fair-refuse _ h tt
present-fair (Some es) h = fair-got _ h

pattern_by-fair : {s w : Text} → EndsIn s w → Fair (pattern_by s) w
pattern_by-fair {s} h = fair-mapped _ _ _ (pattern-fair whole whole-fair h)

variant_by-fair : (default : Bool) {s w : Text} → EndsIn s w → Fair (variant_by default s) w
unfolding variant_by
variant_by-fair default h = search (fairs, key_in_brackets-fair, pattern_by-fair, present-fair) depth 14

positional_by-fair : (names : List Text) (e : t.Inline) {s w : Text} → EndsIn s w → Fair (positional_by names e s) w
positional_by-fair [] e h = fair-got _ h
positional_by-fair (name ∷ names) e h = fair-refuse _ h tt

value-fair : (names : List Text) (name : Text) {s w : Text} → EndsIn s w → Fair (argument_value_at names name s) w
value-fair names name h = search (fairs, literal-fair) depth 9

named_by-fair : (names : List Text) (e : t.Inline) (o : Option Text) {s w : Text} → EndsIn s w → Fair (named_or_positional_by names e o s) w
named_by-fair names e None h = positional_by-fair names e h
named_by-fair names e (Some name) h = search (fairs, positional_by-fair, value-fair) depth 9

argument_by-fair : (names : List Text) {s w : Text} → EndsIn s w → Fair (argument_by names s) w
unfolding argument_by
argument_by-fair names {s} {w} h = fair-bind (whole.inline s) _ w (whole-fair.inline h) (λ e rest k. named_by-fair names e (g.name_of_argument e) k)

placeable_by-fair : {s w : Text} → EndsIn s w → Fair (placeable_by s) w
placeable_by-fair {s} {w} h = subst (λ (x : Reading t.Expression). Fair x w) (placeable_is s) (placeable-fair whole whole-fair h)

text_step-fair : (line : Bool) (indent : ℕ) {s w : Text} → EndsIn s w → Fair (text_step line indent s) w
text_step-fair line indent h = search (fairs, text_run-fair) depth 9

piece_behind-fair : (line : Bool) (indent : ℕ) {s w : Text} → EndsIn s w → Fair (piece_behind line indent s) w
piece_behind-fair line indent h = search (fairs, placeable_by-fair, text_step-fair) depth 14

piece_by-fair : (line : Bool) {s w : Text} → EndsIn s w → Fair (piece_by line s) w
unfolding piece_by
piece_by-fair line h = search (fairs, piece_behind-fair) depth 9

kept-fair : (line : Bool) {s w : Text} → EndsIn s w → Fair (kept_piece_by line s) w
unfolding kept_piece_by
kept-fair line h = search (fairs, piece_by-fair) depth 9

first-weighs : (o : Option Text) (line : Bool) (s u : Text) → MaybeEnd o s → (line, u) ≡ first_place s o → weight u ≤ weight s
first-weighs None line s u m e = let same : u ≡ s = ap (λ (p : Bool × Text). p.1) e in omega (arith, ap weight same)
first-weighs (Some rest) line s u m e = let same : u ≡ skip_blank_block rest = ap (λ (p : Bool × Text). p.1) e in omega (arith, ap weight same, weight-end (end-blank_block m))

line-weighs : (o : Option Text) (s u : Text) → MaybeEnd o s → o ≡ Some u → weight u ≤ weight s
line-weighs None s u m e = absurd cc
line-weighs (Some v) s u m e = let same : v ≡ u = cc in omega (arith, ap weight same, weight-end m)

mutual
  inline-weighs : (s : Text) (n : ℕ) → TakesInline s n → n ≤ weight s
  inline-weighs s n (in_braces x) = placeable-weighs s n x
  inline-weighs s n (in_call {u = u} {id = id} i x) =
      omega (arith, call-weighs (skip_blank u) n x, weight-end (end-blank (end-same u)), got-weighs (g.identifier_at s) id u s i (identifier-fair (end-same s)))
  inline-weighs s n (in_term {u = u} {v = v} {id = id} {attribute = attribute} h i a x) =
      omega (
        arith,
        call-weighs (skip_blank v) n x,
        weight-end (end-blank (end-same v)),
        got-weighs (g.accessor_at u) attribute v u a (accessor-fair (end-same u)),
        got-weighs (g.identifier_at (drop 1 s)) id u s i (identifier-fair (end-drop 1 (end-same s))),
      )

  placeable-weighs : (s : Text) (n : ℕ) → TakesPlaceable s n → n ≤ weight s
  placeable-weighs s n (placeable_opens b) = omega (arith, brace-weighs s b)
  placeable-weighs s n (in_expression {n = m} b x) =
      omega (arith, brace-weighs s b, inline-weighs (skip_blank (drop 1 s)) m x, weight-end (end-blank (end-same (drop 1 s))))
  placeable-weighs s n (in_select {u = u} {e = e} {n = m} b i x) =
      omega (
        arith,
        brace-weighs s b,
        select-weighs (skip_blank u) m x,
        weight-end (end-blank (end-same u)),
        got-weighs (whole.inline (skip_blank (drop 1 s))) e u (drop 1 s) i (whole-fair.inline (end-blank (end-same (drop 1 s)))),
      )

  call-weighs : (s : Text) (n : ℕ) → TakesCall s n → n ≤ weight s
  call-weighs s n (call_opens b) = omega (arith, paren-weighs s b)
  call-weighs s n (in_arguments {n = m} b x) =
      omega (arith, paren-weighs s b, arguments-weigh [] (skip_blank (drop 1 s)) m x, weight-end (end-blank (end-same (drop 1 s))))

  arguments-weigh : (names : List Text) (s : Text) (n : ℕ) → TakesArguments names s n → n ≤ weight s
  arguments-weigh names s n (this_argument x) = inline-weighs s n x
  arguments-weigh names s n (later_argument {u = u} {a = a} r x) =
      omega (arith, arguments-weigh (names_with a names) (skip_separator u) n x, weight-end (end-separator (end-same u)), got-weighs (argument_by names s) a u s r (argument_by-fair names (end-same s)))

  select-weighs : (s : Text) (n : ℕ) → TakesSelect s n → n ≤ SELECT + weight s
  select-weighs s n (select_opens a l) = omega arith
  select-weighs s n (in_variants {u = u} {n = m} a l x) =
      omega (
        arith,
        variants-weigh false (skip_blank u) m x,
        weight-end (end-blank (end-same u)),
        line-weighs (after_line_end (skip_spaces (drop 2 s))) (skip_spaces (drop 2 s)) u (line_end-end (skip_spaces (drop 2 s))) l,
        weight-end (end-spaces (end-drop 2 (end-same s))),
      )

  variants-weigh : (marked : Bool) (s : Text) (n : ℕ) → TakesVariants marked s n → n ≤ weight s
  variants-weigh marked s n (this_variant {default = d} {u = u} m x) =
      omega (arith, variant-weighs u n x, got-weighs (default_mark_at marked s) d u s m (mark-fair marked (end-same s)))
  variants-weigh marked s n (later_variant {default = d} {u = u} {v = v} {one = one} m b r x) =
      omega (
        arith,
        variants-weigh (marked || d) (skip_blank v) n x,
        weight-end (end-blank (end-same v)),
        got-weighs (variant_by d u) one v u r (variant_by-fair d (end-same u)),
        got-weighs (default_mark_at marked s) d u s m (mark-fair marked (end-same s)),
      )

  variant-weighs : (s : Text) (n : ℕ) → TakesVariant s n → n ≤ weight s
  variant-weighs s n (in_value {u = u} {key = key} b k x) =
      omega (arith, pattern-weighs u n x, got-weighs (key_in_brackets_at (drop 1 s)) key u s k (key_in_brackets-fair (end-drop 1 (end-same s))))

  pattern-weighs : (s : Text) (n : ℕ) → TakesPattern s n → n ≤ weight s
  pattern-weighs s n (after_blank x) = omega (arith, lines-weigh (skip_spaces s) n x, weight-end (end-spaces (end-same s)))

  lines-weigh : (s : Text) (n : ℕ) → TakesLines s n → n ≤ weight s
  lines-weigh s n (in_pieces {u = u} {line = line} e x) =
      omega (arith, pieces-weigh line u n x, first-weighs (after_line_end s) line s u (line_end-end s) e)

  pieces-weigh : (line : Bool) (s : Text) (n : ℕ) → TakesPieces line s n → n ≤ weight s
  pieces-weigh line s n (this_piece x) = omega (arith, placeable-weighs (drop (indent_at line s) s) n x, weight-drop (indent_at line s) s)
  pieces-weigh line s n (later_piece {next = next} {u = u} {p = p} r x) =
      omega (arith, pieces-weigh next u n x, got-weighs (kept_piece_by line s) (Some (p, next)) u s r (kept-fair line (end-same s)))

source-weighs : (s : Text) (n : ℕ) → TakesSource s n → n ≤ weight s
source-weighs s n (in_pattern place e x) = omega (arith, pattern-weighs (drop (place + 1) s) n x, weight-drop (place + 1) s)

-- What nests past a budget has braces and parentheses that weigh more.
pub nesting_weighs : (budget : ℕ) (source : Text) → NestsPast budget source → budget < weight source
nesting_weighs budget source past =
    let more = past.past in
    omega (arith, source-weighs source past.bytes past.takes_them)
