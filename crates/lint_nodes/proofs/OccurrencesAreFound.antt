-- The occurrences that the walk through a source lists are those that its tree finds.
use Rattle.std.proofs.Common.{◌≡◌, ◌∙◌, ℕ, zero, suc, ◌+◌, ◌<◌, ◌≤◌, Bool, true, false, if◌then◌else◌, List, [], ◌∷◌, ◌++◌, length, drop, Option, Some, None, refl, sym, ap, arith, append_assoc, append-nil}
use Rattle.std.specs.Prelude.{◌&&◌, ◌==◌, is_some}
use Rattle.fluent_grammar.specs.Words.{Text, hyphen, greater, colon, asterisk, open_paren, close_paren, open_bracket, open_brace, skip_blank, skip_spaces, skip_blank_block, skip_separator, begins_with, begins_arrow, begins_crlf, after_line_end}
use Rattle.fluent_grammar.specs.Refusal.{got}
use Rattle.fluent_grammar.specs.Tree as t
use Rattle.fluent_grammar.specs.Lines.{Piece, at_line_start, in_line, placed, elements_of, elements_from, without_blank_end, common_indent, is_blank_text}
use Rattle.fluent_grammar.specs.Lexical.{SpellsAccessor, no_accessor, an_accessor, SpellsLiteral, a_string, a_number}
use Rattle.fluent_grammar.specs.Spelling.{IsPositional, SpellsInline, a_string_literal, a_number_literal, a_variable_reference, a_term_reference, a_message_reference, a_function_reference, a_placeable, SpellsMaybeArguments, no_call, a_call, SpellsArguments, no_more, positional, named, SpellsPlaceable, in_braces, SpellsExpression, an_inline, a_select, SpellsVariants, all_read, lone_mark, a_variant, the_default, SpellsVariant, keyed, SpellsPattern, on_the_line, on_the_next, SpellsPieces, nothing_left, crlf_piece, text_piece, placeable_piece, SpellsLine, only_spaces_left, pattern_over, line_of_text, line_of_placeable, line_of_crlf, SpellsBehindText, next_line, same_line}
use Rattle.fluent_grammar.specs.Reading.{Readers, readers, inline_at, name_of_argument, key_at, literal_at}
use Rattle.fluent_grammar.proofs.Complete.{some_text, up-inline, inline_complete, placeable_complete, pattern_complete}
use Rattle.fluent_grammar.proofs.Got.{begins_is}
use Rattle.fluent_grammar.proofs.Sound.{readers_sound, pattern_sound}
use Rattle.fluent_grammar.proofs.Strings.{text_complete}
use Rattle.fluent_grammar.proofs.Words.{key_complete, literal_complete}
use Rattle.fluent_grammar.proofs.Lengths.{skip_blank-le, skip_spaces-le, skip_blank_block-le, skip_separator-le, crlf-two, line_end-lt, name-shorter, accessor-no_longer, key-shorter, literal-shorter, text-shorter, inline-shorter, placeable-shorter, variant-shorter}
use Rattle.lint_findings.specs.FlawWords.{key_text}
use Rattle.lint_findings.specs.Nodes.{expression, select, is_literal}
use Rattle.lint_findings.specs.Occurrences.{Occurrence, occurrence_at, inline_read, placeable_read, pattern_read, on_rest, on_some, attribute_len, Walkers, walkers, call_occurrences, selector_occurrences, select_occurrences, placeable_occurrences, inline_occurrences, argument_occurrences, arguments_occurrences, first_occurrences, pattern_occurrences, variant_occurrences, key_occurrences, variants_occurrences, pieces_occurrences, line_occurrences, occurrences}
use Rattle.lint_nodes.specs.Rests.{after_texts, after_lines, after_first_texts, within, after_sign, after_attribute, first_variant, value_of_argument, inline_rest, inlines_rest, placeable_rest, pattern_rest}
use Rattle.lint_nodes.specs.TreeOccurrences.{repeated_found, elements_found, expression_found, variants_found, inline_found, arguments_found, inlines_found, nameds_found, pattern_found}
use Rattle.lint_nodes.proofs.AfterTexts.{at_brace}
use Rattle.lint_nodes.proofs.RestsAreRead.{name_left, attribute_left, key_left, literal_left, blank_after_arrow, texts_over_spaces, after_piece, text_left, crlf_left, none_left, none_follows, placeable_begins, inline_left, placeable_left, variant_left, pattern_left}

two : {xs ys a b : List Occurrence} → xs ≡ a → ys ≡ b → xs ++ ys ≡ a ++ b
two {xs} {ys} {a} {b} p q = ap (λ z. z ++ ys) p ∙ ap (λ z. a ++ z) q

-- ---- pieces

abbrev pieces_found : List Piece → Text → List Occurrence
pieces_found [] s = []
pieces_found (at_line_start n x ∷ ps) s = pieces_found ps s
pieces_found (in_line x ∷ ps) s = pieces_found ps s
pieces_found (placed z e ∷ ps) s = expression_found e (within s) ++ pieces_found ps (after_texts (placeable_rest e s))

from_found : (common : Option ℕ) (ps : List Piece) (s : Text) → elements_found (elements_from common ps) s ≡ pieces_found ps s
from_found common [] s = refl
from_found common (at_line_start n x ∷ ps) s = from_found common ps s
from_found common (in_line x ∷ ps) s = from_found common ps s
from_found common (placed z e ∷ ps) s = ap (λ y. expression_found e (within s) ++ y) (from_found common ps (after_texts (placeable_rest e s)))

kept_found : (p : Piece) (xs : List Piece) (s : Text) (os : List Occurrence) → pieces_found (p ∷ xs) s ≡ pieces_found xs s → pieces_found xs s ≡ os → (b : Bool) → (b ≡ true → xs ≡ []) →
    pieces_found (if b then [] else p ∷ xs) s ≡ os
kept_found p xs s os skips same true none = sym (ap (λ ys. pieces_found ys s) (none refl)) ∙ same
kept_found p xs s os skips same false none = skips ∙ same

blank_end_found : (ps : List Piece) (s : Text) → pieces_found (without_blank_end ps) s ≡ pieces_found ps s
blank_end_found [] s = refl
blank_end_found (at_line_start n x ∷ ps) s =
    kept_found (at_line_start n x) (without_blank_end ps) s (pieces_found ps s) refl (blank_end_found ps s) (is_blank_text x && (length (without_blank_end ps) == 0)) (none_left (is_blank_text x) (without_blank_end ps))
blank_end_found (in_line x ∷ ps) s =
    kept_found (in_line x) (without_blank_end ps) s (pieces_found ps s) refl (blank_end_found ps s) (is_blank_text x && (length (without_blank_end ps) == 0)) (none_left (is_blank_text x) (without_blank_end ps))
blank_end_found (placed z e ∷ ps) s = ap (λ y. expression_found e (within s) ++ y) (blank_end_found ps (after_texts (placeable_rest e s)))

of_pieces_found : (ps : List Piece) (s : Text) → elements_found (elements_of ps) s ≡ pieces_found ps s
of_pieces_found ps s = from_found (common_indent ps) (without_blank_end ps) s ∙ blank_end_found ps s

-- ---- what is read

read_inline : {e : t.Inline} {s rest : Text} → SpellsInline e s rest → inline_read s ≡ got e rest
read_inline {e} {s} {rest} d = up-inline e s rest (inline_complete d) (suc (length s)) (omega arith)

read_placeable : {e : t.Expression} {s rest : Text} → SpellsPlaceable e s rest → placeable_read s ≡ got e rest
read_placeable {e} {s} {rest} d = placeable_complete d (suc (length s)) (omega arith)

read_pattern : {value : t.Elements} {s rest : Text} → SpellsPattern value s rest → pattern_read s ≡ got value rest
read_pattern {value} {s} {rest} d = pattern_complete d (suc (length s)) (omega arith)

-- no expression begins with a closing parenthesis
paren_refused : (inside : Readers) (cs : Text) (e : t.Inline) (u : Text) → inline_at inside (close_paren ∷ cs) ≡ got e u → ⊥
unfolding inline_at
paren_refused inside cs e u h = cc

no_paren : (inside : Readers) (b : Bool) (s : Text) (e : t.Inline) (u : Text) → begins_with close_paren s ≡ b → inline_at inside s ≡ got e u → b ≡ false
no_paren inside true s e u p h = absurd (paren_refused inside (drop 1 s) e u (rw (begins_is close_paren s p) at h))
no_paren inside false s e u p h = refl

inline_no_paren : {e : t.Inline} {s rest : Text} → SpellsInline e s rest → begins_with close_paren s ≡ false
inline_no_paren {e} {s} {rest} d = no_paren (readers (length s)) (begins_with close_paren s) s e rest refl (inline_complete d (length s) (omega arith))

and_false : (b : Bool) → (b && false) ≡ false
and_false true = refl
and_false false = refl

positional_test : (e : t.Inline) (u : Text) → IsPositional e u → (begins_with colon u && is_some (name_of_argument e)) ≡ false
positional_test (t.string_literal x) u h = and_false (begins_with colon u)
positional_test (t.number_literal x) u h = and_false (begins_with colon u)
positional_test (t.function_reference id a) u h = and_false (begins_with colon u)
positional_test (t.message_reference id None) u h = rw h refl
positional_test (t.message_reference id (Some a)) u h = and_false (begins_with colon u)
positional_test (t.term_reference id a c) u h = and_false (begins_with colon u)
positional_test (t.variable_reference x) u h = and_false (begins_with colon u)
positional_test (t.nested e) u h = and_false (begins_with colon u)

literal_is : {e : t.Inline} {s rest : Text} → SpellsLiteral e s rest → is_literal e ≡ true
literal_is (a_string d) = refl
literal_is (a_number d) = refl

accessor_rest : {a : Option Text} {s rest : Text} → SpellsAccessor a s rest → drop (attribute_len a) s ≡ rest
accessor_rest (no_accessor h) = refl
accessor_rest (an_accessor n) = name_left n

drop_none : (k : ℕ) (s : Text) → s ≡ [] → drop k s ≡ []
drop_none zero s e = e
drop_none (suc k) [] e = refl
drop_none (suc k) (c ∷ cs) e = absurd cc

drop_plus : (m n : ℕ) (s : Text) → drop (m + n) s ≡ drop n (drop m s)
drop_plus zero n s = let e : 0 + n ≡ n = omega arith in ap (λ k. drop k s) e
drop_plus (suc m) n [] = drop_none (suc m + n) [] refl ∙ sym (drop_none n [] refl)
drop_plus (suc m) n (c ∷ cs) = let e : suc m + n ≡ suc (m + n) = omega arith in ap (λ k. drop k (c ∷ cs)) e ∙ drop_plus m n cs

begun : (s : Text) → begins_with open_brace s ≡ true → (length s == 0) ≡ false
begun [] h = absurd cc
begun (c ∷ cs) h = grind arith

crlf_begun : (s : Text) → begins_crlf s ≡ true → (length s == 0) ≡ false
crlf_begun [] h = absurd cc
crlf_begun (c ∷ cs) h = grind arith

crlf_no_brace : (s : Text) → begins_crlf s ≡ true → begins_with open_brace s ≡ false
crlf_no_brace [] h = refl
crlf_no_brace (c ∷ cs) h = grind arith

-- ---- one level

module _ (w : Walkers) where
  call_of : (x u v : Text) → x ≡ u → skip_blank u ≡ open_paren ∷ v → call_occurrences w x ≡ w.arguments (skip_blank v)
  call_of x u v e p = ap (call_occurrences w) e ∙ ap (λ y. w.arguments (skip_blank (drop 1 y))) p

  by : {e : t.Inline} {s rest : Text} → SpellsInline e s rest → inline_occurrences w s (inline_read s) ≡ inline_occurrences w s (got e rest)
  by {e} {s} {rest} d = ap (inline_occurrences w s) (read_inline d)

  arguments_by : {e : t.Inline} {s rest : Text} → SpellsInline e s rest → arguments_occurrences w s ≡ argument_occurrences w s (got e rest)
  arguments_by {e} {s} {rest} d =
      ap (λ b. if b then [] else argument_occurrences w s (inline_read s)) (inline_no_paren d) ∙ ap (argument_occurrences w s) (read_inline d)

  select_of : (x v y : Text) → x ≡ hyphen ∷ greater ∷ v → after_line_end (skip_spaces v) ≡ Some y → select_occurrences w x ≡ w.variants [] (skip_blank y)
  select_of x v y a n = ap (select_occurrences w) a ∙ ap (on_some (λ rest. w.variants [] (skip_blank rest))) n

  no_select_of : (x : Text) → begins_arrow x ≡ false → select_occurrences w x ≡ []
  no_select_of x a = ap (λ b. if b then on_some (λ rest. w.variants [] (skip_blank rest)) (after_line_end (skip_spaces (drop 2 x))) else []) a

  pieces_crlf : (s : Text) → begins_crlf s ≡ true → pieces_occurrences w s ≡ w.line (drop 2 s)
  pieces_crlf s c = rw (crlf_begun s c, crlf_no_brace s c, c) refl

-- ---- every construct, by walkers of a level that is high enough

abbrev InlineFound : t.Inline → Text → Type 0
InlineFound e s = (m : ℕ) → length s ≤ m → inline_occurrences (walkers m) s (inline_read s) ≡ inline_found e s

abbrev ArgumentsFound : t.Arguments → Text → Type 0
ArgumentsFound a s = (m : ℕ) → length s < m → arguments_occurrences (walkers m) s ≡ arguments_found a s

abbrev VariantsFound : t.Variants → Text → Type 0
VariantsFound vs s = (keys : List t.VariantKey) (m : ℕ) → length s ≤ m → variants_occurrences (walkers m) keys s ≡ variants_found keys vs s

abbrev PiecesFound : List Piece → Text → Type 0
PiecesFound ps s = (m : ℕ) → length s ≤ m → pieces_occurrences (walkers m) s ≡ pieces_found ps (after_texts s)

abbrev LineFound : List Piece → Text → Type 0
LineFound ps s = (m : ℕ) → length s ≤ m → line_occurrences (walkers m) s ≡ pieces_found ps (after_lines s)

up_inline : (e : t.Inline) (s : Text) → InlineFound e s → (m : ℕ) → length s < m → (walkers m).inline s ≡ inline_found e s
unfolding walkers
up_inline e s f zero lt = absurd (omega arith)
up_inline e s f (suc m) lt = f m (omega arith)

up_arguments : (a : t.Arguments) (s : Text) → ArgumentsFound a s → (m : ℕ) → suc (length s) < m → (walkers m).arguments s ≡ arguments_found a s
unfolding walkers
up_arguments a s f zero lt = absurd (omega arith)
up_arguments a s f (suc m) lt = f m (omega arith)

up_variants : (vs : t.Variants) (s : Text) → VariantsFound vs s → (keys : List t.VariantKey) (m : ℕ) → length s < m → (walkers m).variants keys s ≡ variants_found keys vs s
unfolding walkers
up_variants vs s f keys zero lt = absurd (omega arith)
up_variants vs s f keys (suc m) lt = f keys m (omega arith)

up_pieces : (ps : List Piece) (s : Text) → PiecesFound ps s → (m : ℕ) → length s < m → (walkers m).pieces s ≡ pieces_found ps (after_texts s)
unfolding walkers
up_pieces ps s f zero lt = absurd (omega arith)
up_pieces ps s f (suc m) lt = f m (omega arith)

up_line : (ps : List Piece) (s : Text) → LineFound ps s → (m : ℕ) → length s < m → (walkers m).line s ≡ pieces_found ps (after_lines s)
unfolding walkers
up_line ps s f zero lt = absurd (omega arith)
up_line ps s f (suc m) lt = f m (omega arith)

-- the occurrences of variants, if the first has this key in brackets, and its pattern and the variants after it have these
abbrev FromKey : t.VariantKey → t.Elements → Text → List t.VariantKey → ℕ → Text → Type 0
FromKey key value rest keys m x = (others : List Occurrence) → (walkers m).variants (key ∷ keys) (skip_blank rest) ≡ others →
    key_occurrences (walkers m) keys (skip_blank x) (key_at (skip_blank x)) ≡ repeated_found keys key (skip_blank x) ++ (pattern_found value (after_sign (drop (length (key_text key)) (skip_blank x))) ++ others)

-- a placeable and what follows it
placed_walked : (w : Walkers) (e : t.Expression) (ps : List Piece) (s u : Text) → placeable_occurrences w s ≡ expression_found e (within s) → placeable_read s ≡ got e u → w.pieces u ≡ pieces_found ps (after_texts u) →
    placeable_rest e s ≡ u → placeable_occurrences w s ++ on_rest w.pieces (placeable_read s) ≡ pieces_found (placed false e ∷ ps) s
placed_walked w e ps s u walked read others left = two walked (ap (on_rest w.pieces) read ∙ others ∙ sym (ap (λ z. pieces_found ps (after_texts z)) left))

mutual
  inline_walked : {e : t.Inline} {s rest : Text} → SpellsInline e s rest → InlineFound e s
  inline_walked (a_string_literal b d) m le = by (walkers m) (a_string_literal b d)
  inline_walked (a_number_literal d) m le = by (walkers m) (a_number_literal d)
  inline_walked (a_variable_reference b d) m le = by (walkers m) (a_variable_reference b d)
  inline_walked (a_message_reference n o a) m le = by (walkers m) (a_message_reference n o a)
  inline_walked (a_term_reference {name} {s} {u} {v} {w} {rest} {attribute} {arguments = args} b n a c) m le =
      let k : suc (length (skip_blank w)) ≤ m = omega (arith, le, ap length b, name-shorter n, accessor-no_longer a, skip_blank-le w) in
      let at : drop (suc (length name) + attribute_len attribute) s ≡ w =
      drop_plus (suc (length name)) (attribute_len attribute) s ∙ ap (λ x. drop (attribute_len attribute) (drop (suc (length name)) x)) b
      ∙ ap (drop (attribute_len attribute)) (name_left n) ∙ accessor_rest a in
      let there : after_attribute attribute (drop (length name) (drop 1 s)) ≡ w =
      ap (λ x. after_attribute attribute (drop (length name) (drop 1 x))) b ∙ ap (after_attribute attribute) (name_left n) ∙ attribute_left a in
      by (walkers m) (a_term_reference b n a c) ∙ maybe_walked c name attribute s w refl at there rest m k
  inline_walked (a_function_reference {name} {s} {u} {v} {rest} {arguments = args} n c p a) m le =
      let k : suc (length (skip_blank v)) < m = omega (arith, le, name-shorter n, skip_blank-le u, ap length p, skip_blank-le v) in
      let o = occurrence_at (expression (t.function_reference name args)) s in
      by (walkers m) (a_function_reference n c p a)
      ∙ ap (λ z. o ∷ z) (call_of (walkers m) (drop (length name) s) u v (name_left n) p ∙ up_arguments args (skip_blank v) (arguments_walked a) m k
      ∙ sym (ap (λ x. arguments_found args (within (skip_blank x))) (name_left n) ∙ ap (λ x. arguments_found args (within x)) p))
  inline_walked (a_placeable d) m le = by (walkers m) (a_placeable d) ∙ placeable_walked d m le

  maybe_walked : {c : t.MaybeArguments} {s rest : Text} → SpellsMaybeArguments c s rest → (id : Text) (attr : Option Text) (x w : Text) → s ≡ skip_blank w → drop (suc (length id) + attribute_len attr) x ≡ w →
      after_attribute attr (drop (length id) (drop 1 x)) ≡ w → (last : Text) (m : ℕ) → suc (length s) ≤ m →
      inline_occurrences (walkers m) x (got (t.term_reference id attr c) last) ≡ inline_found (t.term_reference id attr c) x
  maybe_walked (no_call h) id attr x w same at there last m le = refl
  maybe_walked (a_call {s} {u} {rest} {arguments = args} p a) id attr x w same at there last m le =
      let k : suc (length (skip_blank u)) < m = omega (arith, le, ap length p, skip_blank-le u) in
      let o = occurrence_at (expression (t.term_reference id attr (t.with_arguments args))) x in
      ap (λ z. o ∷ z) (call_of (walkers m) (drop (suc (length id) + attribute_len attr) x) w u at (sym same ∙ p) ∙ up_arguments args (skip_blank u) (arguments_walked a) m k
      ∙ sym (ap (λ y. arguments_found args (within (skip_blank y))) there ∙ ap (λ y. arguments_found args (within y)) (sym same ∙ p)))

  arguments_walked : {names : List Text} {a : t.Arguments} {s rest : Text} → SpellsArguments names a s rest → ArgumentsFound a s
  arguments_walked (no_more {names} {s} {rest} p) m lt = rw p refl
  arguments_walked (positional {s} {u} {rest} {e} {ps} {ns} d p more) m lt =
      let k : suc (length (skip_separator u)) < m = omega (arith, lt, inline-shorter d, skip_separator-le u) in
      let w = walkers m in
      arguments_by w d
      ∙ ap (λ b. if b then on_rest (λ y. w.arguments (skip_separator y)) (literal_at (skip_blank (drop 1 u))) else w.inline s ++ w.arguments (skip_separator u)) (positional_test e u p)
      ∙ two (up_inline e s (inline_walked d) m lt) (up_arguments (t.arguments ps ns) (skip_separator u) (arguments_walked more) m k)
      ∙ sym (append_assoc (inline_found e s) (inlines_found ps (skip_separator u)) (nameds_found ns (inlines_rest ps (skip_separator u))))
      ∙ ap (λ x. (inline_found e s ++ inlines_found ps (skip_separator x)) ++ nameds_found ns (inlines_rest ps (skip_separator x))) (sym (inline_left d))
  arguments_walked (named {names} {name} {s} {u} {v} {w} {rest} {e} {ps} {ns} n c f l more) m lt =
      let k : suc (length (skip_separator w)) < m = omega (arith, lt, name-shorter n, skip_blank-le u, ap length c, skip_blank-le v, literal-shorter l, skip_separator-le w) in
      let d : SpellsInline (t.message_reference name None) s (skip_blank u) = a_message_reference n (rw c refl) (no_accessor (rw c refl)) in
      let others = nameds_found ns (skip_separator (inline_rest e (value_of_argument name s))) in
      arguments_by (walkers m) d
      ∙ ap (λ y. argument_occurrences (walkers m) s (got (t.message_reference name None) y)) c
      ∙ ap (on_rest (λ y. (walkers m).arguments (skip_separator y))) (literal_complete l)
      ∙ up_arguments (t.arguments ps ns) (skip_separator w) (arguments_walked more) m k
      ∙ ap (λ x. arguments_found (t.arguments x ns) (skip_separator w)) (none_follows more)
      ∙ sym (ap (λ x. arguments_found (t.arguments x (t.named name e ns)) s) (none_follows more)
      ∙ ap (λ b. (if b then [] else inline_found e (value_of_argument name s)) ++ others) (literal_is l)
      ∙ ap (λ x. nameds_found ns (skip_separator (inline_rest e (within (skip_blank x))))) (name_left n)
      ∙ ap (λ x. nameds_found ns (skip_separator (inline_rest e (within x)))) c
      ∙ ap (λ x. nameds_found ns (skip_separator x)) (literal_left l))

  placeable_walked : {e : t.Expression} {s rest : Text} → SpellsPlaceable e s rest → (m : ℕ) → length s ≤ m → placeable_occurrences (walkers m) s ≡ expression_found e (within s)
  placeable_walked (in_braces {s} {u} {v} {rest} {e} b d c) m le =
      let k : length (skip_blank u) < m = omega (arith, le, ap length b, skip_blank-le u) in
      ap (placeable_occurrences (walkers m)) b ∙ expression_walked d m k (open_brace ∷ u) rest (read_placeable (in_braces refl d c)) ∙ sym (ap (λ x. expression_found e (within x)) b)

  expression_walked : {e : t.Expression} {s rest : Text} → SpellsExpression e s rest → (m : ℕ) → length s < m → (y last : Text) → placeable_read y ≡ got e last →
      selector_occurrences (walkers m) s (placeable_read y) ++ ((walkers m).inline s ++ on_rest (λ r. select_occurrences (walkers m) (skip_blank r)) (inline_read s)) ≡ expression_found e s
  expression_walked (an_inline {s} {u} {e} d a h) m lt y last read =
      let w = walkers m in
      let after = on_rest (λ r. select_occurrences w (skip_blank r)) (inline_read s) in
      ap (λ r. selector_occurrences w s r ++ (w.inline s ++ after)) read
      ∙ two (up_inline e s (inline_walked d) m lt) (ap (on_rest (λ x. select_occurrences w (skip_blank x))) (read_inline d) ∙ no_select_of w (skip_blank u) a)
      ∙ append-nil (inline_found e s)
  expression_walked (a_select {s} {u} {v} {w = x} {rest} {e} {vs} d a h n vd) m lt y last read =
      let k : length (skip_blank x) < m = omega (arith, lt, inline-shorter d, skip_blank-le u, ap length a, skip_spaces-le v, line_end-lt (skip_spaces v) x n, skip_blank-le x) in
      let w = walkers m in
      let after = on_rest (λ r. select_occurrences w (skip_blank r)) (inline_read s) in
      ap (λ r. selector_occurrences w s r ++ (w.inline s ++ after)) read
      ∙ ap (λ z. occurrence_at (select e vs) s ∷ z) (two (up_inline e s (inline_walked d) m lt)
      (ap (on_rest (λ z. select_occurrences w (skip_blank z))) (read_inline d) ∙ select_of w (skip_blank u) v x a n ∙ up_variants vs (skip_blank x) (variants_walked vd) [] m k
      ∙ sym (ap (λ z. variants_found [] vs (first_variant z)) (inline_left d) ∙ ap (λ z. variants_found [] vs (skip_blank (drop 2 z))) a ∙ ap (variants_found [] vs) (blank_after_arrow v x n))))

  variants_walked : {marked : Bool} {vs : t.Variants} {s rest : Text} → SpellsVariants marked vs s rest → VariantsFound vs s
  variants_walked (all_read {s} a b) keys m le = rw (a, b) refl
  variants_walked (lone_mark {s} {u} a b) keys m le = rw a (rw b refl)
  variants_walked (a_variant {marked} {s} {u} {rest} {key} {value} {vs} d more) keys m le =
      let k : length (skip_blank u) < m = omega (arith, le, variant-shorter d, skip_blank-le u) in
      let x = variant_walked d keys m le in
      let left : pattern_rest value (after_sign (drop (length (key_text key)) (skip_blank x.0))) ≡ u = ap (λ y. pattern_rest value (after_sign (drop (length (key_text key)) (within y)))) (sym x.1) ∙ variant_left d in
      ap (variants_occurrences (walkers m) keys) x.1 ∙ x.2 (variants_found (key ∷ keys) vs (skip_blank u)) (up_variants vs (skip_blank u) (variants_walked more) (key ∷ keys) m k)
      ∙ ap (λ z. repeated_found keys key (skip_blank x.0) ++ (pattern_found value (after_sign (drop (length (key_text key)) (skip_blank x.0))) ++ variants_found (key ∷ keys) vs (skip_blank z))) (sym left)
      ∙ ap (variants_found keys (t.variant key value false vs)) (sym x.1)
  variants_walked (the_default {s} {u} {v} {rest} {key} {value} {vs} a d more) keys m le =
      let k : length (skip_blank v) < m = omega (arith, le, ap length a, variant-shorter d, skip_blank-le v) in
      let x = variant_walked d keys m (omega (arith, le, ap length a)) in
      let marked : s ≡ asterisk ∷ open_bracket ∷ x.0 = a ∙ ap (λ z. asterisk ∷ z) x.1 in
      let left : pattern_rest value (after_sign (drop (length (key_text key)) (skip_blank x.0))) ≡ v = ap (λ y. pattern_rest value (after_sign (drop (length (key_text key)) (within y)))) (sym x.1) ∙ variant_left d in
      ap (variants_occurrences (walkers m) keys) marked ∙ x.2 (variants_found (key ∷ keys) vs (skip_blank v)) (up_variants vs (skip_blank v) (variants_walked more) (key ∷ keys) m k)
      ∙ ap (λ z. repeated_found keys key (skip_blank x.0) ++ (pattern_found value (after_sign (drop (length (key_text key)) (skip_blank x.0))) ++ variants_found (key ∷ keys) vs (skip_blank z))) (sym left)
      ∙ ap (variants_found keys (t.variant key value true vs)) (sym marked)

  -- a variant from its bracket on
  variant_walked : {key : t.VariantKey} {value : t.Elements} {s rest : Text} → SpellsVariant key value s rest → (keys : List t.VariantKey) (m : ℕ) → length s ≤ m → (x : Text) × (s ≡ open_bracket ∷ x) × FromKey key value rest keys m x
  variant_walked (keyed {s} {u} {v} {w = y} {rest} {key} {value} b kd c p h) keys m le =
      let k : length y < m = omega (arith, le, ap length b, skip_blank-le u, key-shorter kd, skip_blank-le v, ap length c) in
      let w = walkers m in
      let there : after_sign (drop (length (key_text key)) (skip_blank u)) ≡ y = ap after_sign (key_left kd) ∙ ap (drop 1) c in (
        u,
        b,
        (λ others same.
            ap (key_occurrences w keys (skip_blank u)) (key_complete kd)
            ∙ ap (λ z. repeated_found keys key (skip_blank u) ++ z) (ap (λ z. variant_occurrences w (key ∷ keys) (drop 1 z)) c
            ∙ two (pattern_walked p m k ∙ ap (pattern_found value) (sym there)) (ap (on_rest (λ z. w.variants (key ∷ keys) (skip_blank z))) (read_pattern p) ∙ same))),
      )

  pattern_walked : {value : t.Elements} {s rest : Text} → SpellsPattern value s rest → (m : ℕ) → length s < m → pattern_occurrences (walkers m) s ≡ pattern_found value s
  pattern_walked (on_the_line {s} {rest} {ps} {value} n d e) m lt =
      let x = after_texts (skip_spaces s) in
      ap (first_occurrences (walkers m) (skip_spaces s)) n ∙ up_pieces ps (skip_spaces s) (pieces_walked d) m (omega (arith, lt, skip_spaces-le s))
      ∙ sym (ap (λ z. elements_found value (after_first_texts (skip_spaces s) z)) n ∙ ap (λ es. elements_found es x) e ∙ of_pieces_found ps x)
  pattern_walked (on_the_next {s} {u} {rest} {ps} {value} n d e) m lt =
      let x = after_lines (skip_blank_block u) in
      ap (first_occurrences (walkers m) (skip_spaces s)) n ∙ up_line ps (skip_blank_block u) (line_walked d) m (omega (arith, lt, skip_spaces-le s, line_end-lt (skip_spaces s) u n, skip_blank_block-le u))
      ∙ sym (ap (λ z. elements_found value (after_first_texts (skip_spaces s) z)) n ∙ ap (λ es. elements_found es x) e ∙ of_pieces_found ps x)

  pieces_walked : {ps : List Piece} {s rest : Text} → SpellsPieces ps s rest → PiecesFound ps s
  pieces_walked nothing_left m le = refl
  pieces_walked (crlf_piece {s} {rest} {ps} c d) m le = pieces_crlf (walkers m) s c ∙ up_line ps (drop 2 s) (line_walked d) m (omega (arith, le, crlf-two s c)) ∙ sym (ap (pieces_found ps) (crlf_left s c))
  pieces_walked (text_piece {piece} {s} {u} {rest} {ps} b x d) m le =
      rw (some_text s b.not_end, b.no_brace, b.no_crlf, text_complete x) (behind_walked d m (omega (arith, le, text-shorter x b)) ∙ sym (ap (pieces_found ps) (text_left x)))
  pieces_walked (placeable_piece {s} {u} {rest} {e} {ps} p d) m le =
      let k : length u < m = omega (arith, le, placeable-shorter p) in
      rw (begun s (placeable_begins p), placeable_begins p)
      (placed_walked (walkers m) e ps s u (placeable_walked p m le) (read_placeable p) (up_pieces ps u (pieces_walked d) m k) (placeable_left p) ∙ sym (ap (pieces_found (placed false e ∷ ps)) (at_brace s (placeable_begins p))))

  line_walked : {ps : List Piece} {s rest : Text} → SpellsLine ps s rest → LineFound ps s
  line_walked (only_spaces_left {s} h) m le = rw h refl
  line_walked (pattern_over {s} h k) m le = rw (some_text (skip_spaces s) h, k) refl
  line_walked (line_of_text {piece} {s} {u} {rest} {ps} k b x d) m le =
      rw (some_text (skip_spaces s) b.not_end, k, b.no_brace, b.no_crlf, text_complete x)
      (behind_walked d m (omega (arith, le, text-shorter x b, skip_spaces-le s)) ∙ sym (ap (pieces_found ps) (texts_over_spaces s ∙ text_left x)))
  line_walked (line_of_placeable {s} {u} {rest} {e} {ps} k p d) m le =
      let x = skip_spaces s in
      let j : length x ≤ m = omega (arith, le, skip_spaces-le s) in
      let i : length u < m = omega (arith, le, placeable-shorter p, skip_spaces-le s) in
      rw (begun x (placeable_begins p), k, placeable_begins p)
      (placed_walked (walkers m) e ps x u (placeable_walked p m j) (read_placeable p) (up_pieces ps u (pieces_walked d) m i) (placeable_left p) ∙ sym (ap (pieces_found (placed false e ∷ ps)) (texts_over_spaces s ∙ at_brace x (placeable_begins p))))
  line_walked (line_of_crlf {s} {rest} {ps} k c d) m le =
      let x = skip_spaces s in
      rw (crlf_begun x c, k, crlf_no_brace x c, c) (sym (pieces_crlf (walkers m) x c) ∙ pieces_walked d m (omega (arith, le, skip_spaces-le s)) ∙ sym (ap (pieces_found ps) (texts_over_spaces s)))

  behind_walked : {ends : Bool} {ps : List Piece} {s rest : Text} → SpellsBehindText ends ps s rest → (m : ℕ) → length s < m → (if ends then (walkers m).line s else (walkers m).pieces s) ≡ pieces_found ps (after_piece ends s)
  behind_walked (next_line {s} {rest} {ps} d) m lt = up_line ps s (line_walked d) m lt
  behind_walked (same_line {s} {rest} {ps} d) m lt = up_pieces ps s (pieces_walked d) m lt

spelled : (s : Text) (es : t.Elements) (rest : Text) → pattern_read s ≡ got es rest → SpellsPattern es s rest
spelled s es rest h = pattern_sound (readers (suc (length s))) (readers_sound (suc (length s))) s es rest h

-- The walk through the source of a pattern lists the occurrences that the tree of the pattern finds.
pub occurrences_are_found : (s : Text) (es : t.Elements) (rest : Text) → pattern_read s ≡ got es rest → occurrences s ≡ pattern_found es s
occurrences_are_found s es rest h = pattern_walked (spelled s es rest h) (suc (length s)) (omega arith)

-- What the tree leaves is what reading leaves.
pub rests_are_read : (s : Text) (es : t.Elements) (rest : Text) → pattern_read s ≡ got es rest → pattern_rest es s ≡ rest
rests_are_read s es rest h = pattern_left (spelled s es rest h)
