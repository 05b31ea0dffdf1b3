-- What is written of a pattern in lines is spelled, as the pieces that give its elements back.
use Rattle.std.proofs.Common.{◌≡◌, ℕ, ◌+◌, ◌*◌, ◌<◌, Bool, true, false, not, ◌&&◌, ◌||◌, List, [], ◌∷◌, ◌++◌, length, replicate, refl, sym, ap, ◌∙◌, arith, append_assoc}
use Rattle.std.specs.Prelude.{◌==◌, ◌≢◌}
use Rattle.std.specs.List.{list_all}
use Rattle.fluent_grammar.specs.Words.{Text, line_feed, carriage_return, space, open_brace, close_brace, begins, begins_with, begins_crlf, spaces, skip_spaces}
use Rattle.fluent_grammar.specs.Tree as t
use Rattle.fluent_grammar.specs.Lexical.{is_text_byte, SpellsText, to_line_feed, to_brace, to_crlf, to_end, text_byte}
use Rattle.fluent_grammar.specs.Lines.{Piece, at_line_start, in_line, placed, ends_line, is_blank_text, pattern_ends, ends_behind_spaces}
use Rattle.fluent_grammar.specs.Spelling.{BeginsText, an_inline, a_placeable, SpellsPlaceable, SpellsPieces, text_piece, placeable_piece, SpellsLine, line_of_text, line_of_placeable, SpellsBehindText, next_line, same_line}
use Rattle.fluent_grammar.specs.Written as w
use Rattle.fluent_grammar.specs.Written.{Sign, sign, laid_out, new_line, indent, indent_before, takes_indent, elements_signs, placeable_signs, inline_signs, expression_signs, in_braces, closing_nested}
use Rattle.fluent_grammar.proofs.Cases.{cases, and-left, and-right}
use Rattle.fluent_grammar.proofs.Got.{same, not_end}
use Rattle.fluent_tidy_laws.specs.WellFormed.{is_line, may_start, are_lines}
use Rattle.fluent_tidy_laws.proofs.WrittenSoFar.{Enclosed, WellFormedExpression, WellFormedElements}
use Rattle.fluent_tidy_laws.proofs.MovingWords.{Over, skip_spaces-more, blank-replicate}
use Rattle.fluent_tidy_laws.proofs.MovingPatterns.{over-line}
use Rattle.fluent_tidy_laws.proofs.WrittenInline.{SelectsAreWritten, follows-space_brace, follows-brace, expression-written, placeable-of, placeable-spaced, indent-over, indented-over, indented-spaces}
use Rattle.fluent_tidy_laws.proofs.WrittenPieces.{EndsRight, ends-more, with_feed, behind_text, pieces_for, skip-blank, spaces-none}
use Rattle.fluent_grammar.proofs.Blanks.{skip_spaces-spaced, skip_spaces-other, not-false, both-and}

-- ---- texts

-- bytes of a text, none of which ends it
abbrev is_plain_text : Text → Bool
is_plain_text s = list_all (λ c. is_text_byte c && not (c == carriage_return)) s

no_crlf : (c : ℕ) (s : Text) → not (c == carriage_return) ≡ true → begins_crlf (c ∷ s) ≡ false
no_crlf c s h = let k : (c == carriage_return) ≡ false = grind arith in rw k refl

plain-to-feed : (s x : Text) → is_plain_text s ≡ true → SpellsText (s ++ line_feed ∷ []) (s ++ line_feed ∷ x) x
plain-to-feed [] x h = to_line_feed
plain-to-feed (c ∷ cs) x h =
    let a = and-left (is_text_byte c && not (c == carriage_return)) _ h in
    text_byte (and-left _ _ a) (no_crlf c (cs ++ line_feed ∷ x) (and-right (is_text_byte c) _ a)) (plain-to-feed cs x (and-right (is_text_byte c && not (c == carriage_return)) _ h))

plain-to-brace : (s x : Text) → is_plain_text s ≡ true → SpellsText s (s ++ open_brace ∷ x) (open_brace ∷ x)
plain-to-brace [] x h = to_brace
plain-to-brace (c ∷ cs) x h =
    let a = and-left (is_text_byte c && not (c == carriage_return)) _ h in
    text_byte (and-left _ _ a) (no_crlf c (cs ++ open_brace ∷ x) (and-right (is_text_byte c) _ a)) (plain-to-brace cs x (and-right (is_text_byte c && not (c == carriage_return)) _ h))

or-second : (a b : Bool) → (a || b) ≡ true → a ≡ false → b ≡ true
or-second true b h k = absurd cc
or-second false b h k = h

one-plain : (c : ℕ) → (c == line_feed || (is_text_byte c && not (c == carriage_return))) ≡ true → (c == line_feed) ≡ false → (is_text_byte c && not (c == carriage_return)) ≡ true
one-plain c h k = or-second (c == line_feed) _ h k

plain-of : (s : Text) → is_line s ≡ true → ends_line s ≡ false → is_plain_text s ≡ true
plain-of [] h k = refl
plain-of (c ∷ []) h k = both-and _ _ (one-plain c h k) refl
plain-of (c ∷ d ∷ ds) h k =
    both-and (is_text_byte c && not (c == carriage_return)) _ (and-left (is_text_byte c && not (c == carriage_return)) _ h) (plain-of (d ∷ ds) (and-right (is_text_byte c && not (c == carriage_return)) _ h) k)

line-of : (s : Text) → is_line s ≡ true → ends_line s ≡ true → (p : Text) × (s ≡ p ++ line_feed ∷ []) × (is_plain_text p ≡ true)
line-of [] h k = absurd cc
line-of (c ∷ []) h k = ([], ap (λ z. z ∷ []) (same c line_feed k), refl)
line-of (c ∷ d ∷ ds) h k =
    let m = line-of (d ∷ ds) (and-right (is_text_byte c && not (c == carriage_return)) _ h) k in
    (c ∷ m.0, ap (λ z. c ∷ z) m.1, both-and (is_text_byte c && not (c == carriage_return)) _ (and-left (is_text_byte c && not (c == carriage_return)) _ h) m.2)

ended-text : (s x : Text) → is_line s ≡ true → ends_line s ≡ true → SpellsText s (s ++ x) x
ended-text s x h k =
    let m = line-of s h k in
    text-is m.1 (ap (λ z. z ++ x) m.1 ∙ append_assoc m.0 (line_feed ∷ []) x) (plain-to-feed m.0 x m.2)
  where
    text-is : {a b s u x : Text} → a ≡ b → s ≡ u → SpellsText b u x → SpellsText a s x
    text-is e f d = rw (e, f) d

-- a text without the spaces at its front
text-bare : {piece s u : Text} → SpellsText piece s u → SpellsText (skip_spaces piece) (skip_spaces s) u
text-bare (to_line_feed {rest}) = to_line_feed
text-bare (to_brace {rest}) = to_brace
text-bare (to_crlf {rest} h) = crlf-bare rest h
  where
    crlf-bare : (rest : Text) → begins_crlf rest ≡ true → SpellsText [] (skip_spaces rest) rest
    crlf-bare [] h = absurd cc
    crlf-bare (c ∷ cs) h = let k : (c == space) ≡ false = grind arith in rw (skip_spaces-other c cs k) (to_crlf h)
text-bare to_end = to_end
text-bare (text_byte {c} {piece} {s} h k d) = cases (c == space)
    (λ e. rw (skip_spaces-more c piece e, skip_spaces-more c s e) (text-bare d))
    (λ e. rw (skip_spaces-other c piece e, skip_spaces-other c s e) (text_byte h k d))

ends-bare : (s : Text) → ends_line (skip_spaces s) ≡ ends_line s
ends-bare [] = refl
ends-bare (c ∷ []) = cases (c == space)
    (λ e. let n : (c == line_feed) ≡ false = grind arith in rw (skip_spaces-more c [] e, n) refl)
    (λ e. rw (skip_spaces-other c [] e) refl)
ends-bare (c ∷ d ∷ ds) = cases (c == space)
    (λ e. rw (skip_spaces-more c (d ∷ ds) e) (ends-bare (d ∷ ds)))
    (λ e. rw (skip_spaces-other c (d ∷ ds) e) refl)

-- whether a line ends, as writing tells it
pub written-ends : (before : Bool) (s : Text) → s ≢ [] → w.ends_line before s ≡ ends_line s
written-ends before [] h = absurd (h refl)
written-ends before (c ∷ []) h = refl
written-ends before (c ∷ d ∷ ds) h = written-ends (c == line_feed) (d ∷ ds) (λ e. absurd cc)

-- ---- an indent

-- after at least one space a pattern ends before these bytes alone
goes-on : (n : ℕ) (s : Text) → 0 < n → begins ends_behind_spaces (skip_spaces s) ≡ false → pattern_ends (replicate n space ++ s) ≡ false
goes-on n s h k =
    let z : (spaces (replicate n space ++ s) == 0) ≡ false = let e = indented-spaces n s in grind arith in
    rw (z, skip_spaces-spaced n s) k

-- a brace after an indent and a space
pub spaced-over : (level : ℕ) (s : Text) → begins ends_behind_spaces (skip_spaces s) ≡ true → Over (indent level ++ (space ∷ s))
spaced-over level s h = indented-over (4 * level) (space ∷ s) refl (ap (begins ends_behind_spaces) (skip_spaces-more space s refl) ∙ h)

-- ---- placeables

placeable-is : {e : t.Expression} {s u rest : Text} → s ≡ u → SpellsPlaceable e u rest → SpellsPlaceable e s rest
placeable-is h d = rw h d

nested-enclosed : {e : t.Expression} {s rest : Text} → SpellsPlaceable e s (close_brace ∷ rest) → Enclosed (t.inline (t.nested e)) s rest
nested-enclosed {rest = rest} d = (close_brace ∷ rest, an_inline (a_placeable d) refl refl, refl)

module _ (selects : SelectsAreWritten) where
  braces-written : (i : t.Inline) (level : ℕ) (more : List Sign) → WellFormedExpression (t.inline i) →
      SpellsPlaceable (t.inline i) (laid_out false (in_braces level (inline_signs level i) ++ more)) (laid_out false more)
  braces-written i level more f =
      placeable-is (ap (λ z. open_brace ∷ space ∷ laid_out false z) (append_assoc (inline_signs level i) (sign level (space ∷ close_brace ∷ []) ∷ []) more))
      (placeable-spaced (expression-written selects (t.inline i) level (sign level (space ∷ close_brace ∷ []) ∷ more) (laid_out false more) f (follows-space_brace _) refl
      (blank-replicate (4 * level) (space ∷ close_brace ∷ laid_out false more)) (spaced-over level (close_brace ∷ laid_out false more) refl)))

  nested-written : (e : t.Expression) (level : ℕ) (more : List Sign) → WellFormedExpression e →
      Enclosed e (laid_out false (expression_signs level e ++ sign level (closing_nested e) ∷ more)) (close_brace ∷ laid_out false more)
  nested-written (t.select i vs) level more f =
      expression-written selects (t.select i vs) level (sign level (close_brace ∷ close_brace ∷ []) ∷ more) (close_brace ∷ laid_out false more) f (follows-brace _) refl
      (blank-replicate (4 * level) (close_brace ∷ close_brace ∷ laid_out false more)) (indent-over level (close_brace ∷ close_brace ∷ laid_out false more) refl refl)
  nested-written (t.inline i) level more f =
      expression-written selects (t.inline i) level (sign level (space ∷ close_brace ∷ close_brace ∷ []) ∷ more) (close_brace ∷ laid_out false more) f (follows-space_brace _) refl
      (blank-replicate (4 * level) (space ∷ close_brace ∷ close_brace ∷ laid_out false more)) (spaced-over level (close_brace ∷ close_brace ∷ laid_out false more) refl)

  pub placeable-written : (e : t.Expression) (level : ℕ) (more : List Sign) → WellFormedExpression e →
      SpellsPlaceable e (laid_out false (placeable_signs level e ++ more)) (laid_out false more)
  placeable-written (t.select i vs) level more f =
      placeable-is (ap (λ z. open_brace ∷ space ∷ laid_out false z) (append_assoc (expression_signs level (t.select i vs)) (sign level (close_brace ∷ []) ∷ []) more))
      (placeable-spaced (expression-written selects (t.select i vs) level (sign level (close_brace ∷ []) ∷ more) (laid_out false more) f (follows-brace _) refl
      (blank-replicate (4 * level) (close_brace ∷ laid_out false more)) (indent-over level (close_brace ∷ laid_out false more) refl refl)))
  placeable-written (t.inline (t.nested e)) level more f =
      placeable-is (ap (λ z. open_brace ∷ open_brace ∷ space ∷ laid_out false z) (append_assoc (expression_signs level e) (sign level (closing_nested e) ∷ []) more))
      (placeable-of (nested-enclosed (placeable-spaced (nested-written e level more f.0))))
  placeable-written (t.inline (t.string_literal s)) level more f = braces-written (t.string_literal s) level more f
  placeable-written (t.inline (t.number_literal s)) level more f = braces-written (t.number_literal s) level more f
  placeable-written (t.inline (t.function_reference s a)) level more f = braces-written (t.function_reference s a) level more f
  placeable-written (t.inline (t.message_reference s a)) level more f = braces-written (t.message_reference s a) level more f
  placeable-written (t.inline (t.term_reference s a c)) level more f = braces-written (t.term_reference s a c) level more f
  placeable-written (t.inline (t.variable_reference s)) level more f = braces-written (t.variable_reference s) level more f

  -- at the start of a line it is after the indent
  pub placeable-indent : (e : t.Expression) (level : ℕ) (more : List Sign) → laid_out true (placeable_signs level e ++ more) ≡ indent level ++ laid_out false (placeable_signs level e ++ more)
  placeable-indent (t.select i vs) level more = refl
  placeable-indent (t.inline (t.nested e)) level more = refl
  placeable-indent (t.inline (t.string_literal s)) level more = refl
  placeable-indent (t.inline (t.number_literal s)) level more = refl
  placeable-indent (t.inline (t.function_reference s a)) level more = refl
  placeable-indent (t.inline (t.message_reference s a)) level more = refl
  placeable-indent (t.inline (t.term_reference s a c)) level more = refl
  placeable-indent (t.inline (t.variable_reference s)) level more = refl

  pub placeable-brace : (e : t.Expression) (level : ℕ) (more : List Sign) → (x : Text) × (laid_out false (placeable_signs level e ++ more) ≡ open_brace ∷ x)
  placeable-brace (t.select i vs) level more = (_, refl)
  placeable-brace (t.inline (t.nested e)) level more = (_, refl)
  placeable-brace (t.inline (t.string_literal s)) level more = (_, refl)
  placeable-brace (t.inline (t.number_literal s)) level more = (_, refl)
  placeable-brace (t.inline (t.function_reference s a)) level more = (_, refl)
  placeable-brace (t.inline (t.message_reference s a)) level more = (_, refl)
  placeable-brace (t.inline (t.term_reference s a c)) level more = (_, refl)
  placeable-brace (t.inline (t.variable_reference s)) level more = (_, refl)

-- ---- the text of an element, and what is after it

-- how far a text's spaces go
text-spaces : {piece s u : Text} → SpellsText piece s u → spaces s ≡ spaces piece
text-spaces to_line_feed = refl
text-spaces to_brace = refl
text-spaces (to_crlf {rest} h) = crlf-spaces rest h
  where
    crlf-spaces : (rest : Text) → begins_crlf rest ≡ true → spaces rest ≡ 0
    crlf-spaces [] h = refl
    crlf-spaces (c ∷ cs) h = spaces-none c cs (grind arith)
text-spaces to_end = refl
text-spaces (text_byte {c} {piece} {s} h k d) = rw (text-spaces d) refl

-- more than spaces
pub bare-begins : (p : ℕ → Bool) (s x : Text) → skip_spaces s ≢ [] → begins p (skip_spaces (s ++ x)) ≡ begins p (skip_spaces s)
bare-begins p [] x h = absurd (h refl)
bare-begins p (c ∷ cs) x h = cases (c == space)
    (λ e. rw (skip_spaces-more c cs e, skip_spaces-more c (cs ++ x) e) (bare-begins p cs x (λ k. h (skip_spaces-more c cs e ∙ k))))
    (λ e. rw (skip_spaces-other c cs e, skip_spaces-other c (cs ++ x) e) refl)

bare-some : (s x : Text) → skip_spaces s ≢ [] → skip_spaces (s ++ x) ≢ []
bare-some [] x h k = absurd (h refl)
bare-some (c ∷ cs) x h k = cases (c == space)
    (λ e. bare-some cs x (λ m. h (skip_spaces-more c cs e ∙ m)) (sym (skip_spaces-more c (cs ++ x) e) ∙ k))
    (λ e. let m : c ∷ (cs ++ x) ≡ [] = sym (skip_spaces-other c (cs ++ x) e) ∙ k in absurd cc)

pub line-bare : (s : Text) → is_line s ≡ true → is_line (skip_spaces s) ≡ true
line-bare [] h = refl
line-bare (c ∷ []) h = cases (c == space)
    (λ e. rw (skip_spaces-more c [] e) refl)
    (λ e. rw (skip_spaces-other c [] e) h)
line-bare (c ∷ d ∷ ds) h = cases (c == space)
    (λ e. rw (skip_spaces-more c (d ∷ ds) e) (line-bare (d ∷ ds) (and-right (is_text_byte c && not (c == carriage_return)) _ h)))
    (λ e. rw (skip_spaces-other c (d ∷ ds) e) h)

-- a line begins with neither a brace nor a carriage return
pub line-first : (s : Text) → is_line s ≡ true → (begins_with open_brace s ≡ false) × (begins_with carriage_return s ≡ false)
line-first [] h = (refl, refl)
line-first (c ∷ []) h = (grind arith, grind arith)
line-first (c ∷ d ∷ ds) h = (grind arith, grind arith)

pub no_return-crlf : (s : Text) → begins_with carriage_return s ≡ false → begins_crlf s ≡ false
no_return-crlf s h = rw h refl

-- blank bytes end no pattern
blank-goes_on : (s : Text) → is_blank_text s ≡ true → begins ends_behind_spaces s ≡ false
blank-goes_on [] h = refl
blank-goes_on (c ∷ cs) h = grind arith

-- what may start a line
pub starts : (s : Text) → may_start s ≡ true → (skip_spaces s ≢ []) × (begins ends_behind_spaces (skip_spaces s) ≡ false)
starts s h = cases (is_blank_text s)
    (λ b.
    let e : ends_line s ≡ true = rw b at h in (
      (λ k. let m : ends_line (skip_spaces s) ≡ false = ap ends_line k in let n : ends_line (skip_spaces s) ≡ true = ends-bare s ∙ e in absurd cc),
      blank-goes_on (skip_spaces s) (skip-blank s ∙ b),
    ))
    (λ b.
    let e : not (begins ends_behind_spaces (skip_spaces s)) ≡ true = rw b at h in (
      (λ k. let m : is_blank_text (skip_spaces s) ≡ true = ap is_blank_text k in let n : is_blank_text (skip_spaces s) ≡ false = skip-blank s ∙ b in absurd cc),
      not-false _ e,
    ))

begins-line : (s x : Text) → is_line s ≡ true → skip_spaces s ≢ [] → BeginsText (skip_spaces (s ++ x))
begins-line s x h k =
    let f = line-first (skip_spaces s) (line-bare s h) in record {
      not_end = bare-some s x k;
      no_brace = bare-begins (λ c. c == open_brace) s x k ∙ f.0;
      no_crlf = no_return-crlf (skip_spaces (s ++ x)) (bare-begins (λ c. c == carriage_return) s x k ∙ f.1);
    }

begins-within : (s x : Text) → is_line s ≡ true → s ≢ [] → BeginsText (s ++ x)
begins-within [] x h k = absurd (k refl)
begins-within (c ∷ cs) x h k =
    let f = line-first (c ∷ cs) h in record { not_end = λ e. absurd cc; no_brace = f.0; no_crlf = no_return-crlf (c ∷ (cs ++ x)) f.1 }

-- ---- lines

-- from the start of a line on, or from within one
pub At : Bool → List Piece → Text → Text → Type 0
At true ps s rest = SpellsLine ps s rest
At false ps s rest = SpellsPieces ps s rest

-- a text as it is spelled, with what is after it
TextBehind : Text → List Piece → Text → Text → Type 0
TextBehind piece ps s rest = (u : Text) × SpellsText piece s u × SpellsBehindText (ends_line piece) ps u rest

text-at_start : (n : ℕ) (s x : Text) (piece : Text) (ps : List Piece) (rest : Text) → 0 < n → is_line s ≡ true → may_start s ≡ true → TextBehind piece ps (s ++ x) rest →
    SpellsLine (at_line_start (n + spaces piece) (skip_spaces piece) ∷ ps) (replicate n space ++ (s ++ x)) rest
unfolding TextBehind
text-at_start n s x piece ps rest h l m d =
    let st = starts s m in
    let e : spaces (replicate n space ++ (s ++ x)) ≡ n + spaces piece = indented-spaces n (s ++ x) ∙ ap (λ k. n + k) (text-spaces d.1) in
    let k : skip_spaces (replicate n space ++ (s ++ x)) ≡ skip_spaces (s ++ x) = skip_spaces-spaced n (s ++ x) in
    line-is e (goes-on n (s ++ x) h (bare-begins ends_behind_spaces s x st.0 ∙ st.1)) (begins-is k (begins-line s x l st.0)) (text-is k (text-bare d.1)) (behind-is (ends-bare piece) d.2)
  where
    line-is : {k : ℕ} {piece : Text} {ps : List Piece} {s u rest : Text} → spaces s ≡ k → pattern_ends s ≡ false → BeginsText (skip_spaces s) → SpellsText piece (skip_spaces s) u →
        SpellsBehindText (ends_line piece) ps u rest → SpellsLine (at_line_start k piece ∷ ps) s rest
    line-is e h b x d = rw (← e) (line_of_text h b x d)

    begins-is : {s u : Text} → s ≡ u → BeginsText u → BeginsText s
    begins-is e b = rw e b

    text-is : {piece s u v : Text} → s ≡ u → SpellsText piece u v → SpellsText piece s v
    text-is e b = rw e b

    behind-is : {a b : Bool} {ps : List Piece} {u rest : Text} → a ≡ b → SpellsBehindText b ps u rest → SpellsBehindText a ps u rest
    behind-is e b = rw e b

behind-at : (b : Bool) {ps : List Piece} {u rest : Text} → At b ps u rest → SpellsBehindText b ps u rest
unfolding At
behind-at true d = next_line d
behind-at false d = same_line d

-- a text before what follows, which is a placeable where the text ends no line
text-then : (s y : Text) → is_line s ≡ true → (ends_line s ≡ false → (x : Text) × (y ≡ open_brace ∷ x)) → SpellsText s (s ++ y) y
text-then s y h brace = cases (ends_line s)
    (λ e. ended-text s y h e)
    (λ e. let b = brace e in rw b.1 (plain-to-brace s b.0 (plain-of s h e)))

behind-some : (s y : Text) (ps : List Piece) (rest : Text) → SpellsText s (s ++ y) y → At (ends_line s) ps y rest → TextBehind s ps (s ++ y) rest
unfolding TextBehind
behind-some s y ps rest d h = (y, d, behind-at (ends_line s) h)

feed-ends : (s : Text) → ends_line (s ++ line_feed ∷ []) ≡ true
feed-ends [] = refl
feed-ends (c ∷ []) = refl
feed-ends (c ∷ d ∷ ds) = feed-ends (d ∷ ds)

behind-none : (s rest : Text) → is_line s ≡ true → ends_line s ≡ false → Over rest → TextBehind (s ++ line_feed ∷ []) [] (s ++ line_feed ∷ rest) rest
unfolding TextBehind
behind-none s rest h e over = (rest, plain-to-feed s rest (plain-of s h e), ends-is (feed-ends s) (next_line (over-line over)))
  where
    ends-is : {a b : Bool} {ps : List Piece} {u rest : Text} → a ≡ b → SpellsBehindText b ps u rest → SpellsBehindText a ps u rest
    ends-is e d = rw e d

not-last : (s : Text) (es : t.Elements) → EndsRight (t.text s es) → ends_line s ≡ true → es ≢ t.no_elements
not-last s t.no_elements h e k = let m : ends_line s ≡ false = h.2 in absurd cc
not-last s (t.text x es) h e k = absurd cc
not-last s (t.placeable x es) h e k = absurd cc

feed-alone : (s : Text) → is_line s ≡ true → s ≢ [] → takes_indent s ≡ false → s ≡ line_feed ∷ []
feed-alone [] h k e = absurd (k refl)
feed-alone (c ∷ []) h k e = let m : (c == line_feed) ≡ true = grind arith in ap (λ z. z ∷ []) (same c line_feed m)
feed-alone (c ∷ d ∷ ds) h k e = absurd (grind arith)

feed-takes : (s : Text) (es : t.Elements) → s ≢ [] → takes_indent (with_feed es s) ≡ takes_indent s
feed-takes [] es h = absurd (h refl)
feed-takes (c ∷ cs) t.no_elements h = refl
feed-takes (c ∷ cs) (t.text x es) h = refl
feed-takes (c ∷ cs) (t.placeable x es) h = refl

-- what `are_lines` says of a text
pub record LineParts (behind at : Bool) (s : Text) (es : t.Elements) : Type 0 where
  pub apart : behind ≡ false
  pub line : is_line s ≡ true
  pub some : s ≢ []
  pub may : at ≡ true → may_start s ≡ true
  pub others : are_lines (not (ends_line s)) (ends_line s) es ≡ true

implied : (a b : Bool) → (not a || b) ≡ true → a ≡ true → b ≡ true
implied true b h e = h
implied false b h e = absurd cc

pub line-parts : (behind at : Bool) (s : Text) (es : t.Elements) → are_lines behind at (t.text s es) ≡ true → LineParts behind at s es
line-parts behind at s es h =
    let a = and-left (not behind && (is_line s && (not (length s == 0) && (not at || may_start s)))) _ h in
    let b = and-right (not behind) _ a in
    let c = and-right (is_line s) _ b in
    record {
      apart = not-false behind (and-left (not behind) _ a);
      line = and-left (is_line s) _ b;
      some = not_end s (not-false (length s == 0) (and-left (not (length s == 0)) _ c));
      may = implied at (may_start s) (and-right (not (length s == 0)) _ c);
      others = and-right (not behind && (is_line s && (not (length s == 0) && (not at || may_start s)))) _ h;
    }

at-is : (b : Bool) (ps qs : List Piece) (s u rest : Text) → ps ≡ qs → s ≡ u → At b qs u rest → At b ps s rest
at-is b ps qs s u rest h k d = rw (h, k) d

at-piece : {ps : List Piece} {s rest : Text} → SpellsPieces ps s rest → At false ps s rest
unfolding At
at-piece d = d

at-line : {ps : List Piece} {s rest : Text} → SpellsLine ps s rest → At true ps s rest
unfolding At
at-line d = d

pub from-piece : {ps : List Piece} {s rest : Text} → At false ps s rest → SpellsPieces ps s rest
unfolding At
from-piece d = d

text-pieces : {piece : Text} {ps : List Piece} {s rest : Text} → BeginsText s → TextBehind piece ps s rest → SpellsPieces (in_line piece ∷ ps) s rest
unfolding TextBehind
text-pieces b d = text_piece b d.1 d.2

feed-line : {ps : List Piece} {y rest : Text} → At true ps y rest → SpellsLine (at_line_start 0 (line_feed ∷ []) ∷ ps) (line_feed ∷ y) rest
unfolding At
feed-line d = line_of_text refl (record { not_end = λ e. absurd cc; no_brace = refl; no_crlf = refl }) to_line_feed (next_line d)

placeable-line : {e : t.Expression} {ps : List Piece} {u rest : Text} (n : ℕ) (s : Text) → 0 < n → begins_with open_brace s ≡ true → SpellsPlaceable e s u → SpellsPieces ps u rest →
    SpellsLine (placed false e ∷ ps) (replicate n space ++ s) rest
placeable-line n [] h b d m = absurd cc
placeable-line n (c ∷ cs) h b d m =
    let o : c ∷ cs ≡ open_brace ∷ cs = ap (λ z. z ∷ cs) (same c open_brace b) in
    let k : skip_spaces (replicate n space ++ c ∷ cs) ≡ c ∷ cs = skip_spaces-spaced n (c ∷ cs) ∙ skip_spaces-other c cs (grind arith) in
    let z : (spaces (replicate n space ++ c ∷ cs) == 0) ≡ false = let e = indented-spaces n (c ∷ cs) in grind arith in
    placed-is z (line_of_placeable (goes-on n (c ∷ cs) h (ap (begins ends_behind_spaces) (skip_spaces-other c cs (grind arith)) ∙ ap (begins ends_behind_spaces) o)) (spelled-is k d) m)
  where
    placed-is : {b : Bool} {e : t.Expression} {ps : List Piece} {s rest : Text} → b ≡ false → SpellsLine (placed b e ∷ ps) s rest → SpellsLine (placed false e ∷ ps) s rest
    placed-is h d = rw (← h) d

    spelled-is : {e : t.Expression} {s u rest : Text} → s ≡ u → SpellsPlaceable e u rest → SpellsPlaceable e s rest
    spelled-is h d = rw h d

-- ---- a pattern in lines

module _ (selects : SelectsAreWritten) (level : ℕ) (deep : 0 < 4 * level) (behind : List Sign) (over : Over (laid_out true behind)) where
  -- the signs from some elements on, with the line feed after them
  abbrev signs_from : t.Elements → List Sign
  signs_from es = elements_signs level es ++ new_line ∷ behind

  abbrev left : Text
  left = laid_out true behind

  text-behind : (s : Text) (es : t.Elements) → is_line s ≡ true → EndsRight (t.text s es) → are_lines (not (ends_line s)) (ends_line s) es ≡ true →
      At (ends_line s) (pieces_for (ends_line s) (4 * level) es) (laid_out (ends_line s) (signs_from es)) left →
      TextBehind (with_feed es s) (behind_text es (pieces_for (ends_line s) (4 * level) es)) (s ++ laid_out (ends_line s) (signs_from es)) left
  text-behind s t.no_elements h e l d = last-is (ends_line s) e.2 (behind-none s left h e.2 over)
    where
      last-is : (b : Bool) → b ≡ false → TextBehind (s ++ line_feed ∷ []) [] (s ++ line_feed ∷ left) left → TextBehind (s ++ line_feed ∷ []) [] (s ++ laid_out b (new_line ∷ behind)) left
      last-is true e d = absurd cc
      last-is false e d = d
  text-behind s (t.text x es) h e l d =
      behind-some s _ _ _ (text-then s _ h (λ k. absurd (let p = line-parts (not (ends_line s)) (ends_line s) x es l in let m : not (ends_line s) ≡ false = p.apart in let n : not (ends_line s) ≡ true = ap not k in absurd cc))) d
  text-behind s (t.placeable x es) h e l d =
      behind-some s _ _ _ (text-then s _ h (λ k. brace-of x es (ends_line s) k)) d
    where
      brace-of : (x : t.Expression) (es : t.Elements) (b : Bool) → b ≡ false → (y : Text) × (laid_out b (signs_from (t.placeable x es)) ≡ open_brace ∷ y)
      brace-of x es true k = absurd cc
      brace-of x es false k =
          let a = placeable-brace selects x level (elements_signs level es ++ new_line ∷ behind) in
          (a.0, ap (laid_out false) (append_assoc (placeable_signs level x) (elements_signs level es) (new_line ∷ behind)) ∙ a.1)

  text-lines : (at : Bool) (s : Text) (es : t.Elements) → is_line s ≡ true → s ≢ [] → (at ≡ true → may_start s ≡ true) →
      TextBehind (with_feed es s) (behind_text es (pieces_for (ends_line s) (4 * level) es)) (s ++ laid_out (ends_line s) (signs_from es)) left →
      (takes_indent s ≡ false → At true (behind_text es (pieces_for true (4 * level) es)) (laid_out true (signs_from es)) left × (with_feed es s ≡ s) × (s ≡ line_feed ∷ [])) →
      At at (pieces_for at (4 * level) (t.text s es)) (laid_out at (signs_from (t.text s es))) left
  text-lines false s es h k m d f =
      at-piece (rw (written-ends false s k) (text-pieces (begins-within s _ h k) d))
  text-lines true s es h k m d f = at-line (cases (takes_indent s)
      (λ i. rw (feed-takes s es k, i, written-ends true s k) (text-at_start (4 * level) s _ _ _ left deep h (m refl) d))
      (λ i. let g = f i in rw (g.1, i, g.2) (feed-line g.0)))

  at-ends : (es : t.Elements) (b : Bool) → b ≡ true → At b (pieces_for b (4 * level) es) (laid_out b (signs_from es)) left → At true (pieces_for true (4 * level) es) (laid_out true (signs_from es)) left
  at-ends es true h d = d
  at-ends es false h d = absurd cc

  feed-parts : (s : Text) (es : t.Elements) → is_line s ≡ true → s ≢ [] → EndsRight (t.text s es) → takes_indent s ≡ false →
      At (ends_line s) (pieces_for (ends_line s) (4 * level) es) (laid_out (ends_line s) (signs_from es)) left →
      At true (behind_text es (pieces_for true (4 * level) es)) (laid_out true (signs_from es)) left × (with_feed es s ≡ s) × (s ≡ line_feed ∷ [])
  feed-parts s t.no_elements h k e i d = let m : ends_line s ≡ true = ap ends_line (feed-alone s h k i) in let n : ends_line s ≡ false = e.2 in absurd cc
  feed-parts s (t.text x es) h k e i d = (at-ends (t.text x es) (ends_line s) (ap ends_line (feed-alone s h k i)) d, refl, feed-alone s h k i)
  feed-parts s (t.placeable x es) h k e i d = (at-ends (t.placeable x es) (ends_line s) (ap ends_line (feed-alone s h k i)) d, refl, feed-alone s h k i)

  placeable-lines : (at : Bool) (x : t.Expression) (es : t.Elements) → WellFormedExpression x → At false (pieces_for false (4 * level) es) (laid_out false (signs_from es)) left →
      At at (placed false x ∷ pieces_for false (4 * level) es) (laid_out at (signs_from (t.placeable x es))) left
  placeable-lines false x es f d =
      at-is false _ _ _ _ _ refl (ap (laid_out false) (append_assoc (placeable_signs level x) (elements_signs level es) (new_line ∷ behind)))
      (at-piece (placeable_piece (placeable-written selects x level (signs_from es) f) (from-piece d)))
  placeable-lines true x es f d =
      at-is true _ _ _ _ _ refl (ap (laid_out true) (append_assoc (placeable_signs level x) (elements_signs level es) (new_line ∷ behind)) ∙ placeable-indent selects x level (signs_from es))
      (at-line (placeable-line (4 * level) _ deep (ap (begins_with open_brace) (placeable-brace selects x level (signs_from es)).1) (placeable-written selects x level (signs_from es) f) (from-piece d)))

  -- A pattern in lines is spelled by what is written of it, as its pieces: from the start of a line on, or from within one.
  pub lines-written : (es : t.Elements) (at after : Bool) → are_lines after at es ≡ true → EndsRight es → WellFormedElements es → (at ≡ true → es ≢ t.no_elements) →
      At at (pieces_for at (4 * level) es) (laid_out at (signs_from es)) left
  lines-written t.no_elements true after l e f n = absurd (n refl refl)
  lines-written t.no_elements false after l e f n = at-piece (text_piece (record { not_end = λ k. absurd cc; no_brace = refl; no_crlf = refl }) to_line_feed (next_line (over-line over)))
  lines-written (t.text s es) at after l e f n =
      let p = line-parts after at s es l in
      let d = lines-written es (ends_line s) (not (ends_line s)) p.others (ends-more s es e) f (not-last s es e) in
      text-lines at s es p.line p.some p.may (text-behind s es p.line e p.others d) (λ i. feed-parts s es p.line p.some e i d)
  lines-written (t.placeable x es) at after l e f n =
      placeable-lines at x es f.0 (lines-written es false false l e f.1 (λ k. absurd cc))

pub from-line : {ps : List Piece} {s rest : Text} → At true ps s rest → SpellsLine ps s rest
unfolding At
from-line d = d
