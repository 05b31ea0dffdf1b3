-- Each expression and each key is read where it occurs.
use Rattle.std.proofs.Common.{◌≡◌, ℕ, zero, suc, Bool, true, false, if◌then◌else◌, ◌==◌, ◌&&◌, List, [], ◌∷◌, ◌++◌, length, drop, Option, Some, None, is_some, refl}
use Rattle.std.specs.List.{All, list_any}
use Rattle.std.proofs.lemmas.List.Elements.{All-nil, All-cons, All-append}
use Rattle.fluent_grammar.specs.Words.{Text, open_brace, open_bracket, asterisk, colon, close_paren, begins_with, skip_spaces, skip_blank, skip_blank_block, skip_separator, after_line_end, begins_crlf, begins_arrow}
use Rattle.fluent_grammar.specs.Refusal.{Reading, got, refused}
use Rattle.fluent_grammar.specs.Tree as t
use Rattle.fluent_grammar.specs.Ends.{EndsIn}
use Rattle.fluent_grammar.specs.Lines.{pattern_ends, ends_line}
use Rattle.fluent_grammar.specs.Reading.{readers, literal_at, key_at, name_of_argument, text_run}
use Rattle.fluent_grammar.proofs.Within.{Fair, MaybeEnd, end-same, end-trans, end-drop, end-if, end-blank, end-spaces, end-separator, end-blank_block, line_end-end, readers-fair, placeable-fair, read_pattern-fair, literal-fair, key-fair, text_run-fair}
use Rattle.fluent_meaning.specs.Same.{same_key}
use Rattle.lint_findings.specs.Nodes.{Node, expression, select, repeated_key}
use Rattle.lint_findings.specs.Occurrences.{Occurrence, occurrence_at, inline_read, placeable_read, pattern_read, on_rest, on_some, Walkers, walkers, call_occurrences, selector_occurrences, select_occurrences, placeable_occurrences, inline_occurrences, argument_occurrences, arguments_occurrences, first_occurrences, pattern_occurrences, variant_occurrences, key_occurrences, variants_occurrences, text_occurrences, placeable_piece_occurrences, pieces_occurrences, line_occurrences}
use Rattle.lint_findings.specs.PlaceLaws.{IsReadAt, IsReadIn, OccurrencesAreRead}

-- ---- what is left, in a text

pub inline_fair : (s : Text) {whole : Text} → EndsIn s whole → Fair (inline_read s) whole
inline_fair s h = (readers-fair (suc (length s))).inline h

placeable_fair : (s : Text) {whole : Text} → EndsIn s whole → Fair (placeable_read s) whole
placeable_fair s h = placeable-fair (readers (suc (length s))) (readers-fair (suc (length s))) h

pub pattern_fair : (s : Text) {whole : Text} → EndsIn s whole → Fair (pattern_read s) whole
pattern_fair s h = read_pattern-fair (suc (length s)) h

module _ (whole : Text) where
  abbrev Read : List Occurrence → Type 0
  Read os = All (IsReadIn whole) os

  -- what a walk from an end of the text lists is read
  abbrev Walks : (Text → List Occurrence) → Type 0
  Walks walk = (s : Text) → EndsIn s whole → Read (walk s)

  none : Read []
  none = All-nil (IsReadIn whole)

  also : (xs ys : List Occurrence) → Read xs → Read ys → Read (xs ++ ys)
  also xs ys h k = All-append (IsReadIn whole) xs ys h k

  unless : (b : Bool) (xs ys : List Occurrence) → Read xs → Read ys → Read (if b then xs else ys)
  unless true xs ys h k = h
  unless false xs ys h k = k

  rest_read : {A : Type 0} (next : Text → List Occurrence) (r : Reading A) → Fair r whole → Walks next → Read (on_rest next r)
  rest_read next (got a rest) fair h = h rest fair.parts
  rest_read next (refused fault) fair h = none

  some_read : (next : Text → List Occurrence) (s : Text) (o : Option Text) → EndsIn s whole → MaybeEnd o s → Walks next → Read (on_some next o)
  some_read next s None e m h = none
  some_read next s (Some rest) e m h = h rest (end-trans m e)

  -- each of these walkers lists what is read
  record AllRead (w : Walkers) : Type 0 where
    inline : Walks w.inline
    arguments : Walks w.arguments
    variants : (keys : List t.VariantKey) → Walks (w.variants keys)
    line : Walks w.line
    pieces : Walks w.pieces

  also_one : (node : Node) (s : Text) (os : List Occurrence) → EndsIn s whole → IsReadAt s node → Read os → Read (occurrence_at node s ∷ os)
  also_one node s os e h k = All-cons (IsReadIn whole) (occurrence_at node s) os (record { place = e; read = h }) k

  one : (node : Node) (s : Text) → EndsIn s whole → IsReadAt s node → Read (occurrence_at node s ∷ [])
  one node s e h = also_one node s [] e h none

  module _ (w : Walkers) (h : AllRead w) where
    call-read : Walks (call_occurrences w)
    call-read s e = h.arguments _ (end-blank (end-drop 1 (end-blank e)))

    selector-read : (s : Text) (r : Reading t.Expression) → EndsIn s whole → Read (selector_occurrences w s r)
    selector-read s (got (t.select i vs) rest) e = one (select i vs) s e tt
    selector-read s (got (t.inline i) rest) e = none
    selector-read s (refused fault) e = none

    select-read : Walks (select_occurrences w)
    select-read s e =
        let u = skip_spaces (drop 2 s) in
        unless (begins_arrow s) _ [] (some_read (λ rest. w.variants [] (skip_blank rest)) u (after_line_end u) (end-spaces (end-drop 2 e)) (line_end-end u) (λ x k. h.variants [] (skip_blank x) (end-blank k))) none

    placeable-read : Walks (placeable_occurrences w)
    placeable-read s e =
        let u = skip_blank (drop 1 s) in
        let inside : EndsIn u whole = end-blank (end-drop 1 e) in
        also (selector_occurrences w u (placeable_read s)) _ (selector-read u (placeable_read s) inside)
        (also (w.inline u) _ (h.inline u inside) (rest_read (λ rest. select_occurrences w (skip_blank rest)) (inline_read u) (inline_fair u inside) (λ x k. select-read (skip_blank x) (end-blank k))))

    inline-read : (s : Text) (r : Reading t.Inline) → EndsIn s whole → inline_read s ≡ r → Read (inline_occurrences w s r)
    inline-read s (refused fault) e is = none
    inline-read s (got (t.nested x) rest) e is = placeable-read s e
    inline-read s (got (t.function_reference id a) rest) e is =
        also_one (expression (t.function_reference id a)) s _ e (rest, is) (call-read (drop (length id) s) (end-drop (length id) e))
    inline-read s (got (t.term_reference id a (t.with_arguments c)) rest) e is =
        also_one (expression (t.term_reference id a (t.with_arguments c))) s _ e (rest, is) (call-read _ (end-drop _ e))
    inline-read s (got (t.term_reference id a t.no_arguments) rest) e is = one (expression (t.term_reference id a t.no_arguments)) s e (rest, is)
    inline-read s (got (t.message_reference id a) rest) e is = one (expression (t.message_reference id a)) s e (rest, is)
    inline-read s (got (t.variable_reference id) rest) e is = one (expression (t.variable_reference id)) s e (rest, is)
    inline-read s (got (t.string_literal x) rest) e is = one (expression (t.string_literal x)) s e (rest, is)
    inline-read s (got (t.number_literal x) rest) e is = one (expression (t.number_literal x)) s e (rest, is)

    argument-read : (s : Text) (r : Reading t.Inline) → EndsIn s whole → Fair r whole → Read (argument_occurrences w s r)
    argument-read s (refused fault) e fair = none
    argument-read s (got x rest) e fair =
        unless (begins_with colon rest && is_some (name_of_argument x)) _ _
        (rest_read (λ u. w.arguments (skip_separator u)) (literal_at (skip_blank (drop 1 rest))) (literal-fair (end-blank (end-drop 1 fair.parts))) (λ u k. h.arguments (skip_separator u) (end-separator k)))
        (also (w.inline s) _ (h.inline s e) (h.arguments (skip_separator rest) (end-separator fair.parts)))

    arguments-read : Walks (arguments_occurrences w)
    arguments-read s e = unless (begins_with close_paren s) [] _ none (argument-read s (inline_read s) e (inline_fair s e))

    text-read : (r : Reading Text) → Fair r whole → Read (text_occurrences w r)
    text-read (got x rest) fair = unless (ends_line x) (w.line rest) (w.pieces rest) (h.line rest fair.parts) (h.pieces rest fair.parts)
    text-read (refused fault) fair = none

    piece-read : Walks (placeable_piece_occurrences w)
    piece-read s e = also (placeable_occurrences w s) _ (placeable-read s e) (rest_read w.pieces (placeable_read s) (placeable_fair s e) h.pieces)

    pieces-read : Walks (pieces_occurrences w)
    pieces-read s e =
        unless (length s == 0) [] _ none
        (unless (begins_with open_brace s) _ _ (piece-read s e) (unless (begins_crlf s) _ _ (h.line (drop 2 s) (end-drop 2 e)) (text-read (text_run s) (text_run-fair s e))))

    line-read : Walks (line_occurrences w)
    line-read s e =
        let u = skip_spaces s in
        let k : EndsIn u whole = end-spaces e in
        unless (length u == 0) [] _ none
        (unless (pattern_ends s) [] _ none
        (unless (begins_with open_brace u) _ _ (piece-read u k) (unless (begins_crlf u) _ _ (h.line (drop 2 u) (end-drop 2 k)) (text-read (text_run u) (text_run-fair u k)))))

    first-read : (u : Text) (o : Option Text) → EndsIn u whole → MaybeEnd o u → Read (first_occurrences w u o)
    first-read u None e m = h.pieces u e
    first-read u (Some rest) e m = h.line (skip_blank_block rest) (end-blank_block (end-trans m e))

    pattern-read : Walks (pattern_occurrences w)
    pattern-read s e = first-read (skip_spaces s) (after_line_end (skip_spaces s)) (end-spaces e) (line_end-end (skip_spaces s))

    variant-read : (keys : List t.VariantKey) → Walks (variant_occurrences w keys)
    variant-read keys s e =
        also (pattern_occurrences w s) _ (pattern-read s e) (rest_read (λ rest. w.variants keys (skip_blank rest)) (pattern_read s) (pattern_fair s e) (λ u k. h.variants keys (skip_blank u) (end-blank k)))

    key-read : (keys : List t.VariantKey) (s : Text) (r : Reading t.VariantKey) → EndsIn s whole → Fair r whole → key_at s ≡ r → Read (key_occurrences w keys s r)
    key-read keys s (got k rest) e fair is =
        also (if list_any (same_key k) keys then occurrence_at (repeated_key k) s ∷ [] else []) _ (unless (list_any (same_key k) keys) _ [] (one (repeated_key k) s e (rest, is)) none)
        (variant-read (k ∷ keys) (drop 1 (skip_blank rest)) (end-drop 1 (end-blank fair.parts)))
    key-read keys s (refused fault) e fair is = none

    variants-read : (keys : List t.VariantKey) → Walks (variants_occurrences w keys)
    variants-read keys s e =
        let u = if begins_with asterisk s then drop 1 s else s in
        let key = skip_blank (drop 1 u) in
        let inside : EndsIn key whole = end-blank (end-drop 1 (end-if (begins_with asterisk s) (end-drop 1 e) e)) in
        unless (begins_with open_bracket u) _ [] (key-read keys key (key_at key) inside (key-fair inside) refl) none

  all_read : (n : ℕ) → AllRead (walkers n)
  unfolding walkers
  all_read zero = record { inline = λ s e. none; arguments = λ s e. none; variants = λ keys s e. none; line = λ s e. none; pieces = λ s e. none }
  all_read (suc n) = record {
    inline = λ s e. inline-read (walkers n) (all_read n) s (inline_read s) e refl;
    arguments = arguments-read (walkers n) (all_read n);
    variants = variants-read (walkers n) (all_read n);
    line = line-read (walkers n) (all_read n);
    pieces = pieces-read (walkers n) (all_read n);
  }

pub occurrences_are_read : OccurrencesAreRead
occurrences_are_read s = pattern-read s (walkers (suc (length s))) (all_read s (suc (length s))) s (end-same s)
