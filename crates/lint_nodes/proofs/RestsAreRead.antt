-- The rests of the parts of a pattern are those that reading leaves.
use Rattle.std.proofs.Common.{◌≡◌, ◌∙◌, ℕ, suc, ◌+◌, Bool, true, false, if◌then◌else◌, List, [], ◌∷◌, ◌++◌, length, drop, Option, Some, refl, sym, ap, arith, append_assoc}
use Rattle.std.specs.Prelude.{◌&&◌, ◌||◌, ◌==◌}
use Rattle.std.proofs.lemmas.Bool.Decides.{nat_tests}
use Rattle.fluent_grammar.specs.Words.{Text, space, quote, hyphen, dot, line_feed, carriage_return, asterisk, open_brace, spaces, skip_blank, skip_spaces, skip_blank_block, skip_separator, begins_with, begins_crlf, after_line_end}
use Rattle.fluent_grammar.specs.Tree as t
use Rattle.fluent_grammar.specs.Lines.{Piece, at_line_start, in_line, placed, elements_of, elements_from, without_blank_end, common_indent, is_blank_text, ends_line, pattern_ends}
use Rattle.fluent_grammar.specs.Lexical.{SpellsName, SpellsUnsigned, whole, decimal, SpellsNumber, unsigned, negative, SpellsString, closing_quote, plain_byte, escaped_backslash, escaped_quote, four_digits, six_digits, SpellsAccessor, no_accessor, an_accessor, SpellsKey, number_key, identifier_key, SpellsLiteral, a_string, a_number, SpellsText, to_line_feed, to_brace, to_crlf, to_end, text_byte}
use Rattle.fluent_grammar.specs.Spelling.{SpellsInline, a_string_literal, a_number_literal, a_variable_reference, a_term_reference, a_message_reference, a_function_reference, a_placeable, SpellsMaybeArguments, no_call, a_call, SpellsArguments, no_more, positional, named, SpellsPlaceable, in_braces, SpellsExpression, an_inline, a_select, SpellsVariants, all_read, lone_mark, a_variant, the_default, SpellsVariant, keyed, SpellsPattern, on_the_line, on_the_next, SpellsPieces, nothing_left, crlf_piece, text_piece, placeable_piece, SpellsLine, only_spaces_left, pattern_over, line_of_text, line_of_placeable, line_of_crlf, SpellsBehindText, next_line, same_line}
use Rattle.lint_findings.specs.FlawWords.{key_text}
use Rattle.lint_nodes.specs.Rests.{after_texts, after_lines, after_first_texts, within, after_sign, after_attribute, first_variant, value_of_variant, elements_rest, expression_rest, variants_rest, inline_rest, maybe_rest, arguments_rest, inlines_rest, nameds_rest, placeable_rest, pattern_rest}
use Rattle.lint_nodes.proofs.AfterTexts.{at_brace}

-- ---- blanks

skip_step : (b : Bool) (x y z : Text) → x ≡ z → y ≡ z → (if b then x else y) ≡ z
skip_step true x y z p q = p
skip_step false x y z p q = q

-- what comes after one byte, if it is blank
blank_once : (a b : Bool) (x y : Text) → skip_blank x ≡ x → skip_blank y ≡ y → skip_blank (if a then x else if b then x else y) ≡ (if a then x else if b then x else y)
blank_once true b x y p q = p
blank_once false true x y p q = p
blank_once false false x y p q = q

blank_kept : (a b : Bool) (c : ℕ) (cs : Text) (x : Text) → skip_blank x ≡ x → (a ≡ (c == space || c == line_feed)) → (b ≡ (c == carriage_return && begins_with line_feed cs)) →
    skip_blank (if a then x else if b then x else c ∷ cs) ≡ (if a then x else if b then x else c ∷ cs)
blank_kept true b c cs x p e f = p
blank_kept false true c cs x p e f = p
blank_kept false false c cs x p e f = rw (← e, ← f) refl

pub blank_twice : (s : Text) → skip_blank (skip_blank s) ≡ skip_blank s
blank_twice [] = refl
blank_twice (c ∷ cs) = blank_kept (c == space || c == line_feed) (c == carriage_return && begins_with line_feed cs) c cs (skip_blank cs) (blank_twice cs) refl refl

drop_one : (n c : ℕ) (cs : Text) → drop n cs ≡ drop (1 + n) (c ∷ cs)
drop_one n c cs = let e : suc n ≡ 1 + n = omega arith in ap (λ k. drop k (c ∷ cs)) e

spaces_step : (b : Bool) (c : ℕ) (cs : Text) → (c == space) ≡ b → skip_blank cs ≡ skip_blank (skip_spaces cs) → skip_blank (c ∷ cs) ≡ skip_blank (skip_spaces (c ∷ cs))
spaces_step true c cs e h = rw e (h ∙ ap skip_blank (drop_one (spaces cs) c cs))
spaces_step false c cs e h = rw e (rw e refl)

blank_spaces : (s : Text) → skip_blank s ≡ skip_blank (skip_spaces s)
blank_spaces [] = refl
blank_spaces (c ∷ cs) = spaces_step (c == space) c cs refl (blank_spaces cs)

feed_blank : (s w : Text) → begins_with line_feed s ≡ true → drop 1 s ≡ w → skip_blank s ≡ skip_blank w
feed_blank [] w h e = absurd cc
feed_blank (c ∷ cs) w h e = grind (arith, nat_tests)

blank_line_end : (s w : Text) → after_line_end s ≡ Some w → skip_blank s ≡ skip_blank w
blank_line_end [] w h = absurd cc
blank_line_end (c ∷ []) w h = grind (arith, nat_tests)
blank_line_end (c ∷ d ∷ ds) w h = grind (arith, nat_tests)

pub blank_after_arrow : (v w : Text) → after_line_end (skip_spaces v) ≡ Some w → skip_blank v ≡ skip_blank w
blank_after_arrow v w n = blank_spaces v ∙ blank_line_end (skip_spaces v) w n

-- ---- words

drop_after : (xs ys : Text) → drop (length xs) (xs ++ ys) ≡ ys
drop_after [] ys = refl
drop_after (x ∷ xs) ys = drop_after xs ys

pub name_left : {name s rest : Text} → SpellsName name s rest → drop (length name) s ≡ rest
name_left {name} {s} {rest} n = ap (drop (length name)) n.run.split ∙ drop_after name rest

unsigned_split : {number s rest : Text} → SpellsUnsigned number s rest → s ≡ number ++ rest
unsigned_split (whole d h) = d.run.split
unsigned_split (decimal {digits} {fraction} {s} {u} {rest} d f) =
    d.run.split ∙ ap (λ x. digits ++ dot ∷ x) f.run.split ∙ sym (append_assoc digits (dot ∷ fraction) rest)

number_split : {number s rest : Text} → SpellsNumber number s rest → s ≡ number ++ rest
number_split (unsigned d) = unsigned_split d
number_split (negative d) = ap (λ x. hyphen ∷ x) (unsigned_split d)

number_left : {number s rest : Text} → SpellsNumber number s rest → drop (length number) s ≡ rest
number_left {number} {s} {rest} d = ap (drop (length number)) (number_split d) ∙ drop_after number rest

string_left : {raw s rest : Text} → SpellsString raw s rest → drop (length raw) s ≡ quote ∷ rest
string_left closing_quote = refl
string_left (plain_byte p d) = string_left d
string_left (escaped_backslash d) = string_left d
string_left (escaped_quote d) = string_left d
string_left (four_digits h d) = string_left d
string_left (six_digits h d) = string_left d

pub attribute_left : {a : Option Text} {s rest : Text} → SpellsAccessor a s rest → after_attribute a s ≡ rest
attribute_left (no_accessor h) = refl
attribute_left (an_accessor n) = name_left n

pub key_left : {key : t.VariantKey} {s rest : Text} → SpellsKey key s rest → drop (length (key_text key)) s ≡ rest
key_left (number_key d) = number_left d
key_left (identifier_key d) = name_left d

pub literal_left : {e : t.Inline} {s rest : Text} → SpellsLiteral e s rest → inline_rest e s ≡ rest
literal_left (a_string d) = ap (drop 1) (string_left d)
literal_left (a_number d) = number_left d

-- ---- texts

pub texts_over_spaces : (s : Text) → after_texts s ≡ after_texts (skip_spaces s)
texts_over_spaces [] = refl
texts_over_spaces (c ∷ cs) = one (c == space) c cs refl (texts_over_spaces cs)
  where
    one : (b : Bool) (c : ℕ) (cs : Text) → (c == space) ≡ b → after_texts cs ≡ after_texts (skip_spaces cs) → after_texts (c ∷ cs) ≡ after_texts (skip_spaces (c ∷ cs))
    one true c cs e h = let is : c ≡ 32 = grind (arith, nat_tests) in rw is (h ∙ ap after_texts (drop_one (spaces cs) 32 cs))
    one false c cs e h = rw e refl

-- what follows a text: the next line if it ended its line
abbrev pub after_piece : Bool → Text → Text
after_piece ends s = if ends then after_lines s else after_texts s

text_more : (c : ℕ) (piece : Text) → (c == line_feed) ≡ false → ends_line (c ∷ piece) ≡ ends_line piece
text_more c [] h = h
text_more c (d ∷ ds) h = refl

text_passed : (c : ℕ) (cs : Text) → (c == open_brace) ≡ false → (c == line_feed) ≡ false → after_texts (c ∷ cs) ≡ after_texts cs
text_passed c cs h k = rw (h, k) refl

pub text_left : {piece s u : Text} → SpellsText piece s u → after_texts s ≡ after_piece (ends_line piece) u
text_left to_line_feed = refl
text_left to_brace = refl
text_left (to_crlf h) = refl
text_left to_end = refl
text_left (text_byte {c} {piece} {s} {rest} p q d) =
    let no_brace : (c == open_brace) ≡ false = grind (arith, nat_tests) in
    let no_feed : (c == line_feed) ≡ false = grind (arith, nat_tests) in
    text_passed c s no_brace no_feed ∙ text_left d ∙ sym (ap (λ b. after_piece b rest) (text_more c piece no_feed))

pub crlf_left : (s : Text) → begins_crlf s ≡ true → after_texts s ≡ after_lines (drop 2 s)
crlf_left [] h = absurd cc
crlf_left (c ∷ []) h = absurd (both (c == carriage_return) h)
  where
    both : (b : Bool) → (b && false) ≡ true → ⊥
    both true h = cc
    both false h = cc
crlf_left (c ∷ d ∷ ds) h =
    let is : c ≡ 13 = grind (arith, nat_tests) in
    let and : d ≡ 10 = grind (arith, nat_tests) in
    rw (is, and) refl

only_spaces : (s : Text) → skip_spaces s ≡ [] → after_lines s ≡ []
only_spaces s h = texts_or_here (pattern_ends s) refl
  where
    all_gone : (u : Text) → skip_spaces u ≡ [] → pattern_ends u ≡ true → u ≡ []
    all_gone [] e p = refl
    all_gone (c ∷ cs) e p = grind (arith, nat_tests)

    texts_or_here : (b : Bool) → pattern_ends s ≡ b → (if b then s else after_texts s) ≡ []
    texts_or_here true p = all_gone s h p
    texts_or_here false p = texts_over_spaces s ∙ ap after_texts h

-- ---- pieces

abbrev pub pieces_rest : List Piece → Text → Text
pieces_rest [] s = s
pieces_rest (at_line_start n x ∷ ps) s = pieces_rest ps s
pieces_rest (in_line x ∷ ps) s = pieces_rest ps s
pieces_rest (placed z e ∷ ps) s = pieces_rest ps (after_texts (placeable_rest e s))

from_rest : (common : Option ℕ) (ps : List Piece) (s : Text) → elements_rest (elements_from common ps) s ≡ pieces_rest ps s
from_rest common [] s = refl
from_rest common (at_line_start n x ∷ ps) s = from_rest common ps s
from_rest common (in_line x ∷ ps) s = from_rest common ps s
from_rest common (placed z e ∷ ps) s = from_rest common ps (after_texts (placeable_rest e s))

pub none_left : (a : Bool) (xs : List Piece) → (a && (length xs == 0)) ≡ true → xs ≡ []
none_left a [] h = refl
none_left true (x ∷ xs) h = let no : (length (x ∷ xs) == 0) ≡ false = grind arith in absurd cc
none_left false (x ∷ xs) h = absurd cc

kept_rest : (p : Piece) (xs : List Piece) (s u : Text) → pieces_rest (p ∷ xs) s ≡ pieces_rest xs s → pieces_rest xs s ≡ u → (b : Bool) → (b ≡ true → xs ≡ []) → pieces_rest (if b then [] else p ∷ xs) s ≡ u
kept_rest p xs s u skips same true none = sym (ap (λ ys. pieces_rest ys s) (none refl)) ∙ same
kept_rest p xs s u skips same false none = skips ∙ same

blank_end_rest : (ps : List Piece) (s : Text) → pieces_rest (without_blank_end ps) s ≡ pieces_rest ps s
blank_end_rest [] s = refl
blank_end_rest (at_line_start n x ∷ ps) s =
    kept_rest (at_line_start n x) (without_blank_end ps) s (pieces_rest ps s) refl (blank_end_rest ps s) (is_blank_text x && (length (without_blank_end ps) == 0)) (none_left (is_blank_text x) (without_blank_end ps))
blank_end_rest (in_line x ∷ ps) s =
    kept_rest (in_line x) (without_blank_end ps) s (pieces_rest ps s) refl (blank_end_rest ps s) (is_blank_text x && (length (without_blank_end ps) == 0)) (none_left (is_blank_text x) (without_blank_end ps))
blank_end_rest (placed z e ∷ ps) s = blank_end_rest ps (after_texts (placeable_rest e s))

of_pieces_rest : (ps : List Piece) (s : Text) → elements_rest (elements_of ps) s ≡ pieces_rest ps s
of_pieces_rest ps s = from_rest (common_indent ps) (without_blank_end ps) s ∙ blank_end_rest ps s

-- ---- constructs

-- no positional argument follows a named one
pub none_follows : {name : Text} {names : List Text} {ps : t.Inlines} {ns : t.Nameds} {s rest : Text} → SpellsArguments (name ∷ names) (t.arguments ps ns) s rest → ps ≡ t.no_inlines
none_follows (no_more p) = refl
none_follows (named n c f l more) = none_follows more

pub placeable_begins : {e : t.Expression} {s rest : Text} → SpellsPlaceable e s rest → begins_with open_brace s ≡ true
placeable_begins (in_braces b d c) = rw b refl

mutual
  pub inline_left : {e : t.Inline} {s rest : Text} → SpellsInline e s rest → inline_rest e s ≡ rest
  inline_left (a_string_literal {raw} b d) = ap (λ x. drop 1 (drop (length raw) (drop 1 x))) b ∙ ap (drop 1) (string_left d)
  inline_left (a_number_literal d) = number_left d
  inline_left (a_variable_reference {name} b n) = ap (λ x. drop (length name) (drop 1 x)) b ∙ name_left n
  inline_left (a_term_reference {name} {s} {u} {v} {w} {rest} {attribute} {arguments = args} b n a c) =
      ap (λ x. maybe_rest args (skip_blank (after_attribute attribute (drop (length name) (drop 1 x))))) b
      ∙ ap (λ x. maybe_rest args (skip_blank (after_attribute attribute x))) (name_left n)
      ∙ ap (λ x. maybe_rest args (skip_blank x)) (attribute_left a) ∙ maybe_left c
  inline_left (a_message_reference {attribute} n o a) = ap (λ x. after_attribute attribute (skip_blank x)) (name_left n) ∙ attribute_left a
  inline_left (a_function_reference {name} {s} {u} {v} {rest} {arguments = args} n c p a) =
      ap (λ x. arguments_rest args (within (skip_blank x))) (name_left n) ∙ ap (λ x. arguments_rest args (within x)) p ∙ arguments_left a
  inline_left (a_placeable d) = placeable_left d

  pub maybe_left : {c : t.MaybeArguments} {s rest : Text} → SpellsMaybeArguments c s rest → maybe_rest c s ≡ rest
  maybe_left (no_call h) = refl
  maybe_left (a_call {arguments = args} p a) = ap (λ x. arguments_rest args (within x)) p ∙ arguments_left a

  pub arguments_left : {names : List Text} {a : t.Arguments} {s rest : Text} → SpellsArguments names a s rest → arguments_rest a s ≡ rest
  arguments_left (no_more p) = ap (drop 1) p
  arguments_left (positional {ps} {ns} d p more) = ap (λ x. drop 1 (nameds_rest ns (inlines_rest ps (skip_separator x)))) (inline_left d) ∙ arguments_left more
  arguments_left (named {names} {name} {s} {u} {v} {w} {rest} {e} {ps} {ns} n c f l more) =
      ap (λ p. drop 1 (nameds_rest (t.named name e ns) (inlines_rest p s))) (none_follows more)
      ∙ ap (λ x. drop 1 (nameds_rest ns (skip_separator (inline_rest e (within (skip_blank x)))))) (name_left n)
      ∙ ap (λ x. drop 1 (nameds_rest ns (skip_separator (inline_rest e (within x))))) c
      ∙ ap (λ x. drop 1 (nameds_rest ns (skip_separator x))) (literal_left l)
      ∙ sym (ap (λ p. drop 1 (nameds_rest ns (inlines_rest p (skip_separator w)))) (none_follows more)) ∙ arguments_left more

  pub placeable_left : {e : t.Expression} {s rest : Text} → SpellsPlaceable e s rest → placeable_rest e s ≡ rest
  placeable_left (in_braces {s} {u} {v} {rest} {e} b d c) =
      ap (λ x. after_sign (expression_rest e (within x))) b ∙ ap (drop 1) (expression_left d ∙ c)

  -- but for the blank after it
  pub expression_left : {e : t.Expression} {s rest : Text} → SpellsExpression e s rest → skip_blank (expression_rest e s) ≡ skip_blank rest
  expression_left (an_inline {s} {u} {e} d a h) = ap skip_blank (inline_left d) ∙ sym (blank_twice u)
  expression_left (a_select {s} {u} {v} {w} {rest} {e} {vs} d a h n vd) =
      ap (λ x. skip_blank (variants_rest vs (first_variant x))) (inline_left d)
      ∙ ap (λ x. skip_blank (variants_rest vs (skip_blank (drop 2 x)))) a
      ∙ ap (λ x. skip_blank (variants_rest vs x)) (blank_after_arrow v w n)
      ∙ ap skip_blank (variants_left vd)

  pub variants_left : {marked : Bool} {vs : t.Variants} {s rest : Text} → SpellsVariants marked vs s rest → variants_rest vs s ≡ rest
  variants_left (all_read a b) = rw a refl
  variants_left (lone_mark a b) = rw a refl
  variants_left (a_variant {marked} {s} {u} {rest} {key} {value} {vs} d more) =
      ap (λ x. variants_rest vs (skip_blank (pattern_rest value (after_sign (drop (length (key_text key)) (within x)))))) (unmarked d)
      ∙ ap (λ x. variants_rest vs (skip_blank x)) (variant_left d) ∙ variants_left more
  variants_left (the_default {s} {u} {v} {rest} {key} {value} {vs} a d more) =
      ap (λ x. variants_rest vs (skip_blank (pattern_rest value (value_of_variant key x)))) a
      ∙ ap (λ x. variants_rest vs (skip_blank x)) (variant_left d) ∙ variants_left more

  -- a variant that isn't marked, or after its mark
  pub unmarked : {key : t.VariantKey} {value : t.Elements} {s rest : Text} → SpellsVariant key value s rest → (if begins_with asterisk s then drop 1 s else s) ≡ s
  unmarked (keyed b kd c p h) = rw b refl

  pub variant_left : {key : t.VariantKey} {value : t.Elements} {s rest : Text} → SpellsVariant key value s rest → pattern_rest value (after_sign (drop (length (key_text key)) (within s))) ≡ rest
  variant_left (keyed {s} {u} {v} {w} {rest} {key} {value} b kd c p h) =
      ap (λ x. pattern_rest value (after_sign (drop (length (key_text key)) (within x)))) b
      ∙ ap (λ x. pattern_rest value (after_sign x)) (key_left kd)
      ∙ ap (λ x. pattern_rest value (drop 1 x)) c ∙ pattern_left p

  pub pattern_left : {value : t.Elements} {s rest : Text} → SpellsPattern value s rest → pattern_rest value s ≡ rest
  pattern_left (on_the_line {s} {rest} {ps} {value} n d e) =
      ap (λ x. elements_rest value (after_first_texts (skip_spaces s) x)) n
      ∙ ap (λ es. elements_rest es (after_texts (skip_spaces s))) e ∙ of_pieces_rest ps (after_texts (skip_spaces s)) ∙ pieces_left d
  pattern_left (on_the_next {s} {u} {rest} {ps} {value} n d e) =
      ap (λ x. elements_rest value (after_first_texts (skip_spaces s) x)) n
      ∙ ap (λ es. elements_rest es (after_lines (skip_blank_block u))) e ∙ of_pieces_rest ps (after_lines (skip_blank_block u)) ∙ line_left d

  pub pieces_left : {ps : List Piece} {s rest : Text} → SpellsPieces ps s rest → pieces_rest ps (after_texts s) ≡ rest
  pieces_left nothing_left = refl
  pieces_left (crlf_piece {s} {rest} {ps} c d) = ap (pieces_rest ps) (crlf_left s c) ∙ line_left d
  pieces_left (text_piece {piece} {s} {u} {rest} {ps} b x d) = ap (pieces_rest ps) (text_left x) ∙ behind_left d
  pieces_left (placeable_piece {s} {u} {rest} {e} {ps} p d) =
      ap (λ x. pieces_rest ps (after_texts (placeable_rest e x))) (at_brace s (placeable_begins p)) ∙ ap (λ x. pieces_rest ps (after_texts x)) (placeable_left p) ∙ pieces_left d

  pub line_left : {ps : List Piece} {s rest : Text} → SpellsLine ps s rest → pieces_rest ps (after_lines s) ≡ rest
  line_left (only_spaces_left {s} h) = only_spaces s h
  line_left (pattern_over h k) = rw k refl
  line_left (line_of_text {piece} {s} {u} {rest} {ps} k b x d) =
      rw k (ap (pieces_rest ps) (texts_over_spaces s ∙ text_left x) ∙ behind_left d)
  line_left (line_of_placeable {s} {u} {rest} {e} {ps} k p d) =
      rw k (ap (λ x. pieces_rest ps (after_texts (placeable_rest e x))) (texts_over_spaces s ∙ at_brace (skip_spaces s) (placeable_begins p)) ∙ ap (λ x. pieces_rest ps (after_texts x)) (placeable_left p) ∙ pieces_left d)
  line_left (line_of_crlf {s} {rest} {ps} k c d) = rw k (ap (pieces_rest ps) (texts_over_spaces s) ∙ pieces_left d)

  pub behind_left : {ends : Bool} {ps : List Piece} {s rest : Text} → SpellsBehindText ends ps s rest → pieces_rest ps (after_piece ends s) ≡ rest
  behind_left (next_line d) = line_left d
  behind_left (same_line d) = pieces_left d
