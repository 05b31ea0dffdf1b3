-- The walk through the text of a pattern lists the nodes of the pattern.
use Rattle.std.proofs.Common.{◌≡◌, ◌∙◌, ℕ, zero, suc, ◌+◌, ◌<◌, ◌≤◌, Bool, true, false, if◌then◌else◌, List, [], ◌∷◌, ◌++◌, length, drop, Option, Some, None, refl, sym, ap, arith, append_assoc, append-nil}
use Rattle.std.specs.Prelude.{◌&&◌, ◌==◌, is_some}
use Rattle.std.specs.List.{list_any}
use Rattle.fluent_grammar.specs.Words.{Text, hyphen, greater, colon, asterisk, open_paren, close_paren, open_bracket, open_brace, skip_blank, skip_spaces, skip_blank_block, skip_separator, begins_with, begins_arrow, begins_crlf, after_line_end}
use Rattle.fluent_grammar.specs.Refusal.{got}
use Rattle.fluent_grammar.specs.Tree as t
use Rattle.fluent_grammar.specs.Tree.{Inline}
use Rattle.fluent_grammar.specs.Lines.{Piece, at_line_start, in_line, placed, elements_of, elements_from, without_blank_end, common_indent, is_blank_text}
use Rattle.fluent_grammar.specs.Lexical.{SpellsName, SpellsAccessor, no_accessor, an_accessor, SpellsLiteral, a_string, a_number}
use Rattle.fluent_grammar.specs.Spelling.{IsPositional, SpellsInline, a_string_literal, a_number_literal, a_variable_reference, a_term_reference, a_message_reference, a_function_reference, a_placeable, SpellsMaybeArguments, no_call, a_call, SpellsArguments, no_more, positional, named, SpellsPlaceable, in_braces, SpellsExpression, an_inline, a_select, SpellsVariants, all_read, lone_mark, a_variant, the_default, SpellsVariant, keyed, SpellsPattern, on_the_line, on_the_next, SpellsPieces, nothing_left, crlf_piece, text_piece, placeable_piece, SpellsLine, only_spaces_left, pattern_over, line_of_text, line_of_placeable, line_of_crlf, SpellsBehindText, next_line, same_line}
use Rattle.fluent_grammar.specs.Reading.{Readers, readers, inline_at, name_of_argument, key_at, literal_at}
use Rattle.fluent_grammar.proofs.Complete.{some_text, up-inline, inline_complete, placeable_complete, pattern_complete}
use Rattle.fluent_grammar.proofs.Got.{begins_is}
use Rattle.fluent_grammar.proofs.Sound.{readers_sound, pattern_sound}
use Rattle.fluent_grammar.proofs.Strings.{text_complete}
use Rattle.fluent_grammar.proofs.Words.{key_complete, literal_complete}
use Rattle.fluent_grammar.proofs.Lengths.{skip_blank-le, skip_spaces-le, skip_blank_block-le, skip_separator-le, crlf-two, line_end-lt, name-shorter, accessor-no_longer, key-shorter, literal-shorter, text-shorter, inline-shorter, placeable-shorter, variant-shorter}
use Rattle.fluent_meaning.specs.Same.{same_key}
use Rattle.lint_findings.specs.Nodes.{Node, expression, select, repeated_key, is_literal, elements_nodes, expression_nodes, variants_nodes, inline_nodes, maybe_nodes, arguments_nodes, inlines_nodes, nameds_nodes}
use Rattle.lint_findings.specs.Occurrences.{Occurrence, inline_read, placeable_read, pattern_read, on_rest, on_some, attribute_len, Walkers, walkers, call_occurrences, selector_occurrences, select_occurrences, placeable_occurrences, inline_occurrences, argument_occurrences, arguments_occurrences, pattern_occurrences, variant_occurrences, key_occurrences, variants_occurrences, pieces_occurrences, line_occurrences}
use Rattle.lint_findings.specs.PlaceLaws.{nodes, OccurrencesAreTheNodes}

-- ---- lists of nodes

nodes-++ : (xs ys : List Occurrence) → nodes (xs ++ ys) ≡ nodes xs ++ nodes ys
nodes-++ [] ys = refl
nodes-++ (x ∷ xs) ys = ap (λ z. x.node ∷ z) (nodes-++ xs ys)

two : (xs ys : List Occurrence) (a b : List Node) → nodes xs ≡ a → nodes ys ≡ b → nodes (xs ++ ys) ≡ a ++ b
two xs ys a b p q = nodes-++ xs ys ∙ ap (λ z. z ++ nodes ys) p ∙ ap (λ z. a ++ z) q

drop-after : (xs ys : Text) → drop (length xs) (xs ++ ys) ≡ ys
drop-after [] ys = refl
drop-after (x ∷ xs) ys = drop-after xs ys

name-rest : {name s rest : Text} → SpellsName name s rest → drop (length name) s ≡ rest
name-rest {name} {s} {rest} n = ap (drop (length name)) n.run.split ∙ drop-after name rest

-- ---- pieces

abbrev pieces_nodes : List Piece → List Node
pieces_nodes [] = []
pieces_nodes (at_line_start n x ∷ ps) = pieces_nodes ps
pieces_nodes (in_line x ∷ ps) = pieces_nodes ps
pieces_nodes (placed z e ∷ ps) = expression_nodes e ++ pieces_nodes ps

from-nodes : (common : Option ℕ) (ps : List Piece) → elements_nodes (elements_from common ps) ≡ pieces_nodes ps
from-nodes common [] = refl
from-nodes common (at_line_start n x ∷ ps) = from-nodes common ps
from-nodes common (in_line x ∷ ps) = from-nodes common ps
from-nodes common (placed z e ∷ ps) = ap (λ y. expression_nodes e ++ y) (from-nodes common ps)

none-left : (a : Bool) (xs : List Piece) → (a && (length xs == 0)) ≡ true → xs ≡ []
none-left a [] h = refl
none-left true (x ∷ xs) h = let no : (length (x ∷ xs) == 0) ≡ false = grind arith in absurd cc
none-left false (x ∷ xs) h = absurd cc

kept : (p : Piece) (xs : List Piece) (ns : List Node) → pieces_nodes (p ∷ xs) ≡ pieces_nodes xs → pieces_nodes xs ≡ ns → (b : Bool) → (b ≡ true → xs ≡ []) → pieces_nodes (if b then [] else p ∷ xs) ≡ ns
kept p xs ns skips same true none = sym (ap pieces_nodes (none refl)) ∙ same
kept p xs ns skips same false none = skips ∙ same

blank-end : (ps : List Piece) → pieces_nodes (without_blank_end ps) ≡ pieces_nodes ps
blank-end [] = refl
blank-end (at_line_start n x ∷ ps) =
    kept (at_line_start n x) (without_blank_end ps) (pieces_nodes ps) refl (blank-end ps) (is_blank_text x && (length (without_blank_end ps) == 0)) (none-left (is_blank_text x) (without_blank_end ps))
blank-end (in_line x ∷ ps) =
    kept (in_line x) (without_blank_end ps) (pieces_nodes ps) refl (blank-end ps) (is_blank_text x && (length (without_blank_end ps) == 0)) (none-left (is_blank_text x) (without_blank_end ps))
blank-end (placed z e ∷ ps) = ap (λ y. expression_nodes e ++ y) (blank-end ps)

of-pieces : (ps : List Piece) → elements_nodes (elements_of ps) ≡ pieces_nodes ps
of-pieces ps = from-nodes (common_indent ps) (without_blank_end ps) ∙ blank-end ps

-- ---- what is read

read_inline : {e : t.Inline} {s rest : Text} → SpellsInline e s rest → inline_read s ≡ got e rest
read_inline {e} {s} {rest} d = up-inline e s rest (inline_complete d) (suc (length s)) (omega arith)

read_placeable : {e : t.Expression} {s rest : Text} → SpellsPlaceable e s rest → placeable_read s ≡ got e rest
read_placeable {e} {s} {rest} d = placeable_complete d (suc (length s)) (omega arith)

pub read_pattern : {value : t.Elements} {s rest : Text} → SpellsPattern value s rest → pattern_read s ≡ got value rest
read_pattern {value} {s} {rest} d = pattern_complete d (suc (length s)) (omega arith)

placeable-begins : {e : t.Expression} {s rest : Text} → SpellsPlaceable e s rest → begins_with open_brace s ≡ true
placeable-begins (in_braces b d c) = rw b refl

-- no expression begins with a closing parenthesis
paren-refused : (inside : Readers) (cs : Text) (e : t.Inline) (u : Text) → inline_at inside (close_paren ∷ cs) ≡ got e u → ⊥
unfolding inline_at
paren-refused inside cs e u h = cc

no_paren : (inside : Readers) (b : Bool) (s : Text) (e : t.Inline) (u : Text) → begins_with close_paren s ≡ b → inline_at inside s ≡ got e u → b ≡ false
no_paren inside true s e u p h = absurd (paren-refused inside (drop 1 s) e u (rw (begins_is close_paren s p) at h))
no_paren inside false s e u p h = refl

inline-no_paren : {e : t.Inline} {s rest : Text} → SpellsInline e s rest → begins_with close_paren s ≡ false
inline-no_paren {e} {s} {rest} d = no_paren (readers (length s)) (begins_with close_paren s) s e rest refl (inline_complete d (length s) (omega arith))

and_false : (b : Bool) → (b && false) ≡ false
and_false true = refl
and_false false = refl

positional-test : (e : t.Inline) (u : Text) → IsPositional e u → (begins_with colon u && is_some (name_of_argument e)) ≡ false
positional-test (t.string_literal x) u h = and_false (begins_with colon u)
positional-test (t.number_literal x) u h = and_false (begins_with colon u)
positional-test (t.function_reference id a) u h = and_false (begins_with colon u)
positional-test (t.message_reference id None) u h = rw h refl
positional-test (t.message_reference id (Some a)) u h = and_false (begins_with colon u)
positional-test (t.term_reference id a c) u h = and_false (begins_with colon u)
positional-test (t.variable_reference x) u h = and_false (begins_with colon u)
positional-test (t.nested e) u h = and_false (begins_with colon u)

literal-is : {e : t.Inline} {s rest : Text} → SpellsLiteral e s rest → is_literal e ≡ true
literal-is (a_string d) = refl
literal-is (a_number d) = refl

accessor-rest : {a : Option Text} {s rest : Text} → SpellsAccessor a s rest → drop (attribute_len a) s ≡ rest
accessor-rest (no_accessor h) = refl
accessor-rest (an_accessor n) = name-rest n

drop-none : (k : ℕ) (s : Text) → s ≡ [] → drop k s ≡ []
drop-none zero s e = e
drop-none (suc k) [] e = refl
drop-none (suc k) (c ∷ cs) e = absurd cc

drop-plus : (m n : ℕ) (s : Text) → drop (m + n) s ≡ drop n (drop m s)
drop-plus zero n s = let e : 0 + n ≡ n = omega arith in ap (λ k. drop k s) e
drop-plus (suc m) n [] = drop-none (suc m + n) [] refl ∙ sym (drop-none n [] refl)
drop-plus (suc m) n (c ∷ cs) = let e : suc m + n ≡ suc (m + n) = omega arith in ap (λ k. drop k (c ∷ cs)) e ∙ drop-plus m n cs

-- ---- where a piece begins

begun : (s : Text) → begins_with open_brace s ≡ true → (length s == 0) ≡ false
begun [] h = absurd cc
begun (c ∷ cs) h = grind arith

crlf-begun : (s : Text) → begins_crlf s ≡ true → (length s == 0) ≡ false
crlf-begun [] h = absurd cc
crlf-begun (c ∷ cs) h = grind arith

crlf-no_brace : (s : Text) → begins_crlf s ≡ true → begins_with open_brace s ≡ false
crlf-no_brace [] h = refl
crlf-no_brace (c ∷ cs) h = grind arith

once : (b : Bool) (n : Node) (s : Text) → nodes (if b then record { node = n; at = s } ∷ [] else []) ≡ (if b then n ∷ [] else [])
once true n s = refl
once false n s = refl

-- ---- one level

module _ (w : Walkers) where
  call-of : (x u v : Text) → x ≡ u → skip_blank u ≡ open_paren ∷ v → call_occurrences w x ≡ w.arguments (skip_blank v)
  call-of x u v e p = ap (call_occurrences w) e ∙ ap (λ y. w.arguments (skip_blank (drop 1 y))) p

  by : {e : t.Inline} {s rest : Text} → SpellsInline e s rest → nodes (inline_occurrences w s (inline_read s)) ≡ nodes (inline_occurrences w s (got e rest))
  by {e} {s} {rest} d = ap (λ r. nodes (inline_occurrences w s r)) (read_inline d)

  arguments-by : {e : t.Inline} {s rest : Text} → SpellsInline e s rest → arguments_occurrences w s ≡ argument_occurrences w s (got e rest)
  arguments-by {e} {s} {rest} d =
      ap (λ b. if b then [] else argument_occurrences w s (inline_read s)) (inline-no_paren d) ∙ ap (argument_occurrences w s) (read_inline d)

  select-of : (x v y : Text) (ns : List Node) → x ≡ hyphen ∷ greater ∷ v → after_line_end (skip_spaces v) ≡ Some y → nodes (w.variants [] (skip_blank y)) ≡ ns → nodes (select_occurrences w x) ≡ ns
  select-of x v y ns a n h = ap (λ z. nodes (select_occurrences w z)) a ∙ ap (λ o. nodes (on_some (λ rest. w.variants [] (skip_blank rest)) o)) n ∙ h

  no_select-of : (x : Text) → begins_arrow x ≡ false → nodes (select_occurrences w x) ≡ []
  no_select-of x a = ap (λ b. nodes (if b then on_some (λ rest. w.variants [] (skip_blank rest)) (after_line_end (skip_spaces (drop 2 x))) else [])) a

  pieces-crlf : (s : Text) → begins_crlf s ≡ true → pieces_occurrences w s ≡ w.line (drop 2 s)
  pieces-crlf s c = rw (crlf-begun s c, crlf-no_brace s c, c) refl

-- ---- every construct, by walkers of a level that is high enough

abbrev InlineWalked : t.Inline → Text → Type 0
InlineWalked e s = (m : ℕ) → length s ≤ m → nodes (inline_occurrences (walkers m) s (inline_read s)) ≡ inline_nodes e

abbrev ArgumentsWalked : t.Arguments → Text → Type 0
ArgumentsWalked a s = (m : ℕ) → length s < m → nodes (arguments_occurrences (walkers m) s) ≡ arguments_nodes a

abbrev VariantsWalked : t.Variants → Text → Type 0
VariantsWalked vs s = (keys : List t.VariantKey) (m : ℕ) → length s ≤ m → nodes (variants_occurrences (walkers m) keys s) ≡ variants_nodes keys vs

abbrev PiecesWalked : List Piece → Text → Type 0
PiecesWalked ps s = (m : ℕ) → length s ≤ m → nodes (pieces_occurrences (walkers m) s) ≡ pieces_nodes ps

abbrev LineWalked : List Piece → Text → Type 0
LineWalked ps s = (m : ℕ) → length s ≤ m → nodes (line_occurrences (walkers m) s) ≡ pieces_nodes ps

up-walk : (e : t.Inline) (s : Text) → InlineWalked e s → (m : ℕ) → length s < m → nodes ((walkers m).inline s) ≡ inline_nodes e
unfolding walkers
up-walk e s f zero lt = absurd (omega arith)
up-walk e s f (suc m) lt = f m (omega arith)

up-arguments : (a : t.Arguments) (s : Text) → ArgumentsWalked a s → (m : ℕ) → suc (length s) < m → nodes ((walkers m).arguments s) ≡ arguments_nodes a
unfolding walkers
up-arguments a s f zero lt = absurd (omega arith)
up-arguments a s f (suc m) lt = f m (omega arith)

up-variants : (vs : t.Variants) (s : Text) → VariantsWalked vs s → (keys : List t.VariantKey) (m : ℕ) → length s < m → nodes ((walkers m).variants keys s) ≡ variants_nodes keys vs
unfolding walkers
up-variants vs s f keys zero lt = absurd (omega arith)
up-variants vs s f keys (suc m) lt = f keys m (omega arith)

up-pieces : (ps : List Piece) (s : Text) → PiecesWalked ps s → (m : ℕ) → length s < m → nodes ((walkers m).pieces s) ≡ pieces_nodes ps
unfolding walkers
up-pieces ps s f zero lt = absurd (omega arith)
up-pieces ps s f (suc m) lt = f m (omega arith)

up-line : (ps : List Piece) (s : Text) → LineWalked ps s → (m : ℕ) → length s < m → nodes ((walkers m).line s) ≡ pieces_nodes ps
unfolding walkers
up-line ps s f zero lt = absurd (omega arith)
up-line ps s f (suc m) lt = f m (omega arith)

mutual
  inline_walked : {e : t.Inline} {s rest : Text} → SpellsInline e s rest → InlineWalked e s
  inline_walked (a_string_literal b d) m le = by (walkers m) (a_string_literal b d)
  inline_walked (a_number_literal d) m le = by (walkers m) (a_number_literal d)
  inline_walked (a_variable_reference b d) m le = by (walkers m) (a_variable_reference b d)
  inline_walked (a_message_reference n o a) m le = by (walkers m) (a_message_reference n o a)
  inline_walked (a_term_reference {name} {s} {u} {v} {w} {rest} {attribute} {arguments = args} b n a c) m le =
      let k : suc (length (skip_blank w)) ≤ m = omega (arith, le, ap length b, name-shorter n, accessor-no_longer a, skip_blank-le w) in
      let at : drop (suc (length name) + attribute_len attribute) s ≡ w =
      drop-plus (suc (length name)) (attribute_len attribute) s ∙ ap (λ x. drop (attribute_len attribute) (drop (suc (length name)) x)) b
      ∙ ap (drop (attribute_len attribute)) (name-rest n) ∙ accessor-rest a in
      by (walkers m) (a_term_reference b n a c) ∙ maybe_walked c name attribute s w refl at rest m k
  inline_walked (a_function_reference {name} {s} {u} {v} {rest} {arguments = args} n c p a) m le =
      let k : suc (length (skip_blank v)) < m = omega (arith, le, name-shorter n, skip_blank-le u, ap length p, skip_blank-le v) in
      by (walkers m) (a_function_reference n c p a)
      ∙ ap (λ z. expression (t.function_reference name args) ∷ nodes z) (call-of (walkers m) (drop (length name) s) u v (name-rest n) p)
      ∙ ap (λ z. expression (t.function_reference name args) ∷ z) (up-arguments args (skip_blank v) (arguments_walked a) m k)
  inline_walked (a_placeable d) m le = by (walkers m) (a_placeable d) ∙ placeable_walked d m le

  maybe_walked : {c : t.MaybeArguments} {s rest : Text} → SpellsMaybeArguments c s rest → (id : Text) (attr : Option Text) (x w : Text) → s ≡ skip_blank w → drop (suc (length id) + attribute_len attr) x ≡ w →
      (last : Text) (m : ℕ) → suc (length s) ≤ m → nodes (inline_occurrences (walkers m) x (got (t.term_reference id attr c) last)) ≡ expression (t.term_reference id attr c) ∷ maybe_nodes c
  maybe_walked (no_call h) id attr x w same at last m le = refl
  maybe_walked (a_call {s} {u} {rest} {arguments = args} p a) id attr x w same at last m le =
      let k : suc (length (skip_blank u)) < m = omega (arith, le, ap length p, skip_blank-le u) in
      ap (λ z. expression (t.term_reference id attr (t.with_arguments args)) ∷ nodes z) (call-of (walkers m) (drop (suc (length id) + attribute_len attr) x) w u at (sym same ∙ p))
      ∙ ap (λ z. expression (t.term_reference id attr (t.with_arguments args)) ∷ z) (up-arguments args (skip_blank u) (arguments_walked a) m k)

  arguments_walked : {names : List Text} {a : t.Arguments} {s rest : Text} → SpellsArguments names a s rest → ArgumentsWalked a s
  arguments_walked (no_more {names} {s} {rest} p) m lt = rw p refl
  arguments_walked (positional {s} {u} {rest} {e} {ps} {ns} d p more) m lt =
      let k : suc (length (skip_separator u)) < m = omega (arith, lt, inline-shorter d, skip_separator-le u) in
      let w = walkers m in
      ap nodes (arguments-by w d)
      ∙ ap (λ b. nodes (if b then on_rest (λ y. w.arguments (skip_separator y)) (literal_at (skip_blank (drop 1 u))) else w.inline s ++ w.arguments (skip_separator u))) (positional-test e u p)
      ∙ two (w.inline s) (w.arguments (skip_separator u)) (inline_nodes e) (arguments_nodes (t.arguments ps ns)) (up-walk e s (inline_walked d) m lt) (up-arguments (t.arguments ps ns) (skip_separator u) (arguments_walked more) m k)
      ∙ sym (append_assoc (inline_nodes e) (inlines_nodes ps) (nameds_nodes ns))
  arguments_walked (named {names} {name} {s} {u} {v} {w} {rest} {e} {ps} {ns} n c f l more) m lt =
      let k : suc (length (skip_separator w)) < m = omega (arith, lt, name-shorter n, skip_blank-le u, ap length c, skip_blank-le v, literal-shorter l, skip_separator-le w) in
      let d : SpellsInline (t.message_reference name None) s (skip_blank u) = a_message_reference n (rw c refl) (no_accessor (rw c refl)) in
      ap nodes (arguments-by (walkers m) d)
      ∙ ap (λ y. nodes (argument_occurrences (walkers m) s (got (t.message_reference name None) y))) c
      ∙ ap (λ r. nodes (on_rest (λ y. (walkers m).arguments (skip_separator y)) r)) (literal_complete l)
      ∙ up-arguments (t.arguments ps ns) (skip_separator w) (arguments_walked more) m k
      ∙ ap (λ b. inlines_nodes ps ++ ((if b then [] else inline_nodes e) ++ nameds_nodes ns)) (sym (literal-is l))

  placeable_walked : {e : t.Expression} {s rest : Text} → SpellsPlaceable e s rest → (m : ℕ) → length s ≤ m → nodes (placeable_occurrences (walkers m) s) ≡ expression_nodes e
  placeable_walked (in_braces {s} {u} {v} {rest} {e} b d c) m le =
      let k : length (skip_blank u) < m = omega (arith, le, ap length b, skip_blank-le u) in
      ap (λ z. nodes (placeable_occurrences (walkers m) z)) b ∙ expression_walked d m k (open_brace ∷ u) rest (read_placeable (in_braces refl d c))

  expression_walked : {e : t.Expression} {s rest : Text} → SpellsExpression e s rest → (m : ℕ) → length s < m → (y last : Text) → placeable_read y ≡ got e last →
      nodes (selector_occurrences (walkers m) s (placeable_read y) ++ ((walkers m).inline s ++ on_rest (λ r. select_occurrences (walkers m) (skip_blank r)) (inline_read s))) ≡ expression_nodes e
  expression_walked (an_inline {s} {u} {e} d a h) m lt y last read =
      let w = walkers m in
      let after = on_rest (λ r. select_occurrences w (skip_blank r)) (inline_read s) in
      ap (λ r. nodes (selector_occurrences w s r ++ (w.inline s ++ after))) read
      ∙ two (w.inline s) after (inline_nodes e) [] (up-walk e s (inline_walked d) m lt) (ap (λ r. nodes (on_rest (λ x. select_occurrences w (skip_blank x)) r)) (read_inline d) ∙ no_select-of w (skip_blank u) a)
      ∙ append-nil (inline_nodes e)
  expression_walked (a_select {s} {u} {v} {w = x} {rest} {e} {vs} d a h n vd) m lt y last read =
      let k : length (skip_blank x) < m = omega (arith, lt, inline-shorter d, skip_blank-le u, ap length a, skip_spaces-le v, line_end-lt (skip_spaces v) x n, skip_blank-le x) in
      let w = walkers m in
      let after = on_rest (λ r. select_occurrences w (skip_blank r)) (inline_read s) in
      ap (λ r. nodes (selector_occurrences w s r ++ (w.inline s ++ after))) read
      ∙ ap (λ z. select e vs ∷ z) (two (w.inline s) after (inline_nodes e) (variants_nodes [] vs) (up-walk e s (inline_walked d) m lt)
      (ap (λ r. nodes (on_rest (λ z. select_occurrences w (skip_blank z)) r)) (read_inline d) ∙ select-of w (skip_blank u) v x (variants_nodes [] vs) a n (up-variants vs (skip_blank x) (variants_walked vd) [] m k)))

  variants_walked : {marked : Bool} {vs : t.Variants} {s rest : Text} → SpellsVariants marked vs s rest → VariantsWalked vs s
  variants_walked (all_read {s} a b) keys m le = rw (a, b) refl
  variants_walked (lone_mark {s} {u} a b) keys m le = rw a (rw b refl)
  variants_walked (a_variant {marked} {s} {u} {rest} {key} {value} {vs} d more) keys m le =
      let k : length (skip_blank u) < m = omega (arith, le, variant-shorter d, skip_blank-le u) in
      let x = variant_walked d keys m le in
      ap (λ z. nodes (variants_occurrences (walkers m) keys z)) x.1 ∙ x.2 (variants_nodes (key ∷ keys) vs) (up-variants vs (skip_blank u) (variants_walked more) (key ∷ keys) m k)
  variants_walked (the_default {s} {u} {v} {rest} {key} {value} {vs} a d more) keys m le =
      let k : length (skip_blank v) < m = omega (arith, le, ap length a, variant-shorter d, skip_blank-le v) in
      let x = variant_walked d keys m (omega (arith, le, ap length a)) in
      ap (λ z. nodes (variants_occurrences (walkers m) keys z)) (a ∙ ap (λ z. asterisk ∷ z) x.1) ∙ x.2 (variants_nodes (key ∷ keys) vs) (up-variants vs (skip_blank v) (variants_walked more) (key ∷ keys) m k)

  -- a variant from its bracket on, if the variants after it have these nodes
  variant_walked : {key : t.VariantKey} {value : t.Elements} {s rest : Text} → SpellsVariant key value s rest → (keys : List t.VariantKey) (m : ℕ) → length s ≤ m → (x : Text) × (s ≡ open_bracket ∷ x) × ((ns : List Node) → nodes ((walkers m).variants (key ∷ keys) (skip_blank rest)) ≡ ns →
      nodes (key_occurrences (walkers m) keys (skip_blank x) (key_at (skip_blank x))) ≡ (if list_any (same_key key) keys then repeated_key key ∷ [] else []) ++ (elements_nodes value ++ ns))
  variant_walked (keyed {s} {u} {v} {w = y} {rest} {key} {value} b kd c p h) keys m le =
      let k : length y < m = omega (arith, le, ap length b, skip_blank-le u, key-shorter kd, skip_blank-le v, ap length c) in
      let w = walkers m in (
        u,
        b,
        (λ ns others.
            ap (λ r. nodes (key_occurrences w keys (skip_blank u) r)) (key_complete kd)
            ∙ two (if list_any (same_key key) keys then record { node = repeated_key key; at = skip_blank u } ∷ [] else []) (variant_occurrences w (key ∷ keys) (drop 1 (skip_blank v)))
            (if list_any (same_key key) keys then repeated_key key ∷ [] else []) (elements_nodes value ++ ns) (once (list_any (same_key key) keys) (repeated_key key) (skip_blank u))
            (ap (λ z. nodes (variant_occurrences w (key ∷ keys) (drop 1 z))) c
            ∙ two (pattern_occurrences w y) (on_rest (λ r. w.variants (key ∷ keys) (skip_blank r)) (pattern_read y)) (elements_nodes value) ns (pattern_walked p m k)
            (ap (λ r. nodes (on_rest (λ z. w.variants (key ∷ keys) (skip_blank z)) r)) (read_pattern p) ∙ others))),
      )

  pattern_walked : {value : t.Elements} {s rest : Text} → SpellsPattern value s rest → (m : ℕ) → length s < m → nodes (pattern_occurrences (walkers m) s) ≡ elements_nodes value
  pattern_walked (on_the_line {s} {rest} {ps} {value} n d e) m lt =
      rw n (up-pieces ps (skip_spaces s) (pieces_walked d) m (omega (arith, lt, skip_spaces-le s)) ∙ sym (ap elements_nodes e ∙ of-pieces ps))
  pattern_walked (on_the_next {s} {u} {rest} {ps} {value} n d e) m lt =
      rw n (up-line ps (skip_blank_block u) (line_walked d) m (omega (arith, lt, skip_spaces-le s, line_end-lt (skip_spaces s) u n, skip_blank_block-le u)) ∙ sym (ap elements_nodes e ∙ of-pieces ps))

  pieces_walked : {ps : List Piece} {s rest : Text} → SpellsPieces ps s rest → PiecesWalked ps s
  pieces_walked nothing_left m le = refl
  pieces_walked (crlf_piece {s} {rest} {ps} c d) m le = ap nodes (pieces-crlf (walkers m) s c) ∙ up-line ps (drop 2 s) (line_walked d) m (omega (arith, le, crlf-two s c))
  pieces_walked (text_piece {piece} {s} {u} {rest} {ps} b x d) m le =
      rw (some_text s b.not_end, b.no_brace, b.no_crlf, text_complete x) (behind_walked d m (omega (arith, le, text-shorter x b)))
  pieces_walked (placeable_piece {s} {u} {rest} {e} {ps} p d) m le =
      let k : length u < m = omega (arith, le, placeable-shorter p) in
      rw (begun s (placeable-begins p), placeable-begins p) (two (placeable_occurrences (walkers m) s) (on_rest (walkers m).pieces (placeable_read s)) (expression_nodes e) (pieces_nodes ps) (placeable_walked p m le)
      (ap (λ r. nodes (on_rest (walkers m).pieces r)) (read_placeable p) ∙ up-pieces ps u (pieces_walked d) m k))

  line_walked : {ps : List Piece} {s rest : Text} → SpellsLine ps s rest → LineWalked ps s
  line_walked (only_spaces_left {s} h) m le = rw h refl
  line_walked (pattern_over {s} h k) m le = rw (some_text (skip_spaces s) h, k) refl
  line_walked (line_of_text {piece} {s} {u} {rest} {ps} k b x d) m le =
      rw (some_text (skip_spaces s) b.not_end, k, b.no_brace, b.no_crlf, text_complete x) (behind_walked d m (omega (arith, le, text-shorter x b, skip_spaces-le s)))
  line_walked (line_of_placeable {s} {u} {rest} {e} {ps} k p d) m le =
      let x = skip_spaces s in
      let j : length x ≤ m = omega (arith, le, skip_spaces-le s) in
      let i : length u < m = omega (arith, le, placeable-shorter p, skip_spaces-le s) in
      rw (begun x (placeable-begins p), k, placeable-begins p) (two (placeable_occurrences (walkers m) x) (on_rest (walkers m).pieces (placeable_read x)) (expression_nodes e) (pieces_nodes ps) (placeable_walked p m j)
      (ap (λ r. nodes (on_rest (walkers m).pieces r)) (read_placeable p) ∙ up-pieces ps u (pieces_walked d) m i))
  line_walked (line_of_crlf {s} {rest} {ps} k c d) m le =
      let x = skip_spaces s in
      rw (crlf-begun x c, k, crlf-no_brace x c, c) (sym (ap nodes (pieces-crlf (walkers m) x c)) ∙ pieces_walked d m (omega (arith, le, skip_spaces-le s)))

  behind_walked : {ends : Bool} {ps : List Piece} {s rest : Text} → SpellsBehindText ends ps s rest → (m : ℕ) → length s < m → nodes (if ends then (walkers m).line s else (walkers m).pieces s) ≡ pieces_nodes ps
  behind_walked (next_line {s} {rest} {ps} d) m lt = up-line ps s (line_walked d) m lt
  behind_walked (same_line {s} {rest} {ps} d) m lt = up-pieces ps s (pieces_walked d) m lt

pub occurrences_are_the_nodes : OccurrencesAreTheNodes
occurrences_are_the_nodes s es rest h =
    pattern_walked (pattern_sound (readers (suc (length s))) (readers_sound (suc (length s))) s es rest h) (suc (length s)) (omega arith)
