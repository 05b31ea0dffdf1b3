-- What is spelled leaves a shorter rest, or one that is no longer.
use Rattle.std.proofs.Common.{◌≡◌, ℕ, ◌<◌, ◌≤◌, Bool, true, false, cond, List, [], ◌∷◌, length, drop, Option, Some, refl, ap, arith, inl, inr, length-append, length-drop}
use Rattle.fluent_grammar.specs.Words.{Text, begins, begins_with, begins_crlf, is_letter, is_name_byte, line_feed, comma, spaces, skip_spaces, after_line_end, skip_blank, skip_blank_block, blank_lines, skip_separator}
use Rattle.fluent_grammar.specs.Lexical.{IsLongestRun, SpellsName, SpellsDigits, SpellsUnsigned, whole, decimal, SpellsNumber, unsigned, negative, SpellsString, closing_quote, plain_byte, escaped_backslash, escaped_quote, four_digits, six_digits, SpellsAccessor, no_accessor, an_accessor, SpellsKey, number_key, identifier_key, SpellsLiteral, a_string, a_number, SpellsText, to_line_feed, to_brace, to_crlf, to_end, text_byte}
use Rattle.fluent_grammar.specs.Spelling.{BeginsText, SpellsInline, a_string_literal, a_number_literal, a_variable_reference, a_term_reference, a_message_reference, a_function_reference, a_placeable, SpellsMaybeArguments, no_call, a_call, SpellsArguments, no_more, positional, named, SpellsPlaceable, in_braces, SpellsExpression, an_inline, a_select, SpellsVariants, all_read, lone_mark, a_variant, the_default, SpellsVariant, keyed, SpellsPattern, on_the_line, on_the_next, SpellsPieces, nothing_left, crlf_piece, text_piece, placeable_piece, SpellsLine, only_spaces_left, pattern_over, line_of_text, line_of_placeable, line_of_crlf, SpellsBehindText, next_line, same_line}
use Rattle.fluent_grammar.specs.Tree as t
use Rattle.fluent_grammar.specs.Lines.{Piece}
use Rattle.fluent_grammar.proofs.Got.{which}

-- ---- blanks

pub skip_spaces-le : (s : Text) → length (skip_spaces s) ≤ length s
skip_spaces-le s = omega (arith, length-drop (spaces s) s)

pub skip_blank-le : (s : Text) → length (skip_blank s) ≤ length s
skip_blank-le [] = omega arith
skip_blank-le (c ∷ cs) = grind (arith, skip_blank-le cs)

blank_lines-le : (line s : Text) (n : ℕ) → length line ≤ n → length s ≤ n → length (blank_lines line s) ≤ n
blank_lines-le line [] n p q = p
blank_lines-le line (c ∷ cs) n p q =
    let r : length cs ≤ n = omega arith in
    grind (arith, blank_lines-le cs cs n r r, blank_lines-le line cs n p r)

pub skip_blank_block-le : (s : Text) → length (skip_blank_block s) ≤ length s
skip_blank_block-le s = blank_lines-le s s (length s) (omega arith) (omega arith)

dropped-comma : (s : Text) (b : Bool) → length (cond b (drop 1 s) s) ≤ length s
dropped-comma s true = omega (arith, length-drop 1 s)
dropped-comma s false = omega arith

pub skip_separator-le : (s : Text) → length (skip_separator s) ≤ length s
skip_separator-le s =
    let u : Text = skip_blank s in
    omega (arith, skip_blank-le s, skip_blank-le (cond (begins_with comma u) (drop 1 u) u), dropped-comma u (begins_with comma u))

pub crlf-two : (s : Text) → begins_crlf s ≡ true → length (drop 2 s) < length s
crlf-two [] h = absurd cc
crlf-two (c ∷ cs) h = omega (arith, length-drop 2 (c ∷ cs))

pub line_end-lt : (s w : Text) → after_line_end s ≡ Some w → length w < length s
line_end-lt [] w h = absurd cc
line_end-lt (c ∷ cs) w h =
    elim (which (begins_with line_feed (c ∷ cs)) _ _ _ h) [
      | inl p ↦ let e : cs ≡ w = cc in omega (arith, ap length e)
      | inr p ↦ elim (which (begins_crlf (c ∷ cs)) _ _ _ p.1) [
        | inl q ↦ let e : drop 1 cs ≡ w = cc in omega (arith, ap length e, length-drop 1 cs)
        | inr q ↦ absurd cc
      ]
    ]

-- ---- words

-- a run that begins with a byte that passes is not empty
run-shorter : {p : ℕ → Bool} {run s rest : Text} → IsLongestRun p run s rest → begins p s ≡ true → length rest < length s
run-shorter {p} {run = []} {s} {rest} r h = let e : s ≡ rest = r.split in let k : begins p s ≡ false = rw e r.longest in absurd cc
run-shorter {p} {run = c ∷ cs} {s} {rest} r h = omega (arith, ap length r.split, length-append (c ∷ cs) rest)

pub letter-in_name : (s : Text) → begins is_letter s ≡ true → begins is_name_byte s ≡ true
letter-in_name [] h = absurd cc
letter-in_name (c ∷ cs) h = rw h refl

pub name-shorter : {name s rest : Text} → SpellsName name s rest → length rest < length s
name-shorter {name} {s} {rest} d = run-shorter d.run (letter-in_name s d.letter_first)

digits-shorter : {digits s rest : Text} → SpellsDigits digits s rest → length rest < length s
digits-shorter d = run-shorter d.run d.digit_first

unsigned-shorter : {x s rest : Text} → SpellsUnsigned x s rest → length rest < length s
unsigned-shorter (whole d h) = digits-shorter d
unsigned-shorter (decimal d f) = omega (arith, digits-shorter d, digits-shorter f)

pub number-shorter : {x s rest : Text} → SpellsNumber x s rest → length rest < length s
number-shorter (unsigned d) = unsigned-shorter d
number-shorter (negative d) = omega (arith, unsigned-shorter d)

pub string-shorter : {raw s rest : Text} → SpellsString raw s rest → length rest < length s
string-shorter closing_quote = omega arith
string-shorter (plain_byte h d) = omega (arith, string-shorter d)
string-shorter (escaped_backslash d) = omega (arith, string-shorter d)
string-shorter (escaped_quote d) = omega (arith, string-shorter d)
string-shorter (four_digits h d) = omega (arith, string-shorter d)
string-shorter (six_digits h d) = omega (arith, string-shorter d)

pub accessor-no_longer : {a : Option Text} {s rest : Text} → SpellsAccessor a s rest → length rest ≤ length s
accessor-no_longer (no_accessor h) = omega arith
accessor-no_longer (an_accessor d) = omega (arith, name-shorter d)

pub key-shorter : {key : t.VariantKey} {s rest : Text} → SpellsKey key s rest → length rest < length s
key-shorter (number_key d) = number-shorter d
key-shorter (identifier_key d) = name-shorter d

pub literal-shorter : {e : t.Inline} {s rest : Text} → SpellsLiteral e s rest → length rest < length s
literal-shorter (a_string d) = omega (arith, string-shorter d)
literal-shorter (a_number d) = number-shorter d

text-no_longer : {piece s rest : Text} → SpellsText piece s rest → length rest ≤ length s
text-no_longer to_line_feed = omega arith
text-no_longer to_brace = omega arith
text-no_longer (to_crlf h) = omega arith
text-no_longer to_end = omega arith
text-no_longer (text_byte h k d) = omega (arith, text-no_longer d)

pub text-shorter : {piece s rest : Text} → SpellsText piece s rest → BeginsText s → length rest < length s
text-shorter to_line_feed b = omega arith
text-shorter to_brace b = absurd (let h : true ≡ false = b.no_brace in cc)
text-shorter (to_crlf {rest} h) b = absurd (let k : begins_crlf rest ≡ false = b.no_crlf in cc)
text-shorter to_end b = absurd (b.not_end refl)
text-shorter (text_byte h k d) b = omega (arith, text-no_longer d)

-- ---- constructs

mutual
  pub inline-shorter : {e : t.Inline} {s rest : Text} → SpellsInline e s rest → length rest < length s
  inline-shorter (a_string_literal b d) = omega (arith, ap length b, string-shorter d)
  inline-shorter (a_number_literal d) = number-shorter d
  inline-shorter (a_variable_reference b d) = omega (arith, ap length b, name-shorter d)
  inline-shorter (a_term_reference {w = w} b d a c) = omega (arith, ap length b, name-shorter d, accessor-no_longer a, skip_blank-le w, maybe-no_longer c)
  inline-shorter (a_message_reference {u = u} d o a) = omega (arith, name-shorter d, skip_blank-le u, accessor-no_longer a)
  inline-shorter (a_function_reference {u = u} {v = v} d c p a) = omega (arith, name-shorter d, skip_blank-le u, ap length p, skip_blank-le v, arguments-shorter a)
  inline-shorter (a_placeable d) = placeable-shorter d

  pub maybe-no_longer : {c : t.MaybeArguments} {s rest : Text} → SpellsMaybeArguments c s rest → length rest ≤ length s
  maybe-no_longer (no_call h) = omega arith
  maybe-no_longer (a_call {u = u} p a) = omega (arith, ap length p, skip_blank-le u, arguments-shorter a)

  pub arguments-shorter : {names : List Text} {a : t.Arguments} {s rest : Text} → SpellsArguments names a s rest → length rest < length s
  arguments-shorter (no_more p) = omega (arith, ap length p)
  arguments-shorter (positional {u = u} d p more) = omega (arith, inline-shorter d, skip_separator-le u, arguments-shorter more)
  arguments-shorter (named {u = u} {v = v} {w = w} d c f x more) =
      omega (arith, name-shorter d, skip_blank-le u, ap length c, skip_blank-le v, literal-shorter x, skip_separator-le w, arguments-shorter more)

  pub placeable-shorter : {e : t.Expression} {s rest : Text} → SpellsPlaceable e s rest → length rest < length s
  placeable-shorter (in_braces {u = u} {v = v} b d c) = omega (arith, ap length b, skip_blank-le u, expression-shorter d, skip_blank-le v, ap length c)

  pub expression-shorter : {e : t.Expression} {s rest : Text} → SpellsExpression e s rest → length rest < length s
  expression-shorter (an_inline {u = u} d a m) = omega (arith, inline-shorter d, skip_blank-le u)
  expression-shorter (a_select {u = u} {v = v} {w = w} d a m n vs) =
      omega (arith, inline-shorter d, skip_blank-le u, ap length a, skip_spaces-le v, line_end-lt (skip_spaces v) w n, skip_blank-le w, variants-no_longer vs)

  pub variants-no_longer : {marked : Bool} {vs : t.Variants} {s rest : Text} → SpellsVariants marked vs s rest → length rest ≤ length s
  variants-no_longer (all_read a b) = omega arith
  variants-no_longer (lone_mark a b) = omega (arith, ap length a)
  variants-no_longer (a_variant {u = u} d more) = omega (arith, variant-shorter d, skip_blank-le u, variants-no_longer more)
  variants-no_longer (the_default {v = v} a d more) = omega (arith, ap length a, variant-shorter d, skip_blank-le v, variants-no_longer more)

  pub variant-shorter : {key : t.VariantKey} {value : t.Elements} {s rest : Text} → SpellsVariant key value s rest → length rest < length s
  variant-shorter (keyed {u = u} {v = v} b k c p h) = omega (arith, ap length b, skip_blank-le u, key-shorter k, skip_blank-le v, ap length c, pattern-no_longer p)

  pub pattern-no_longer : {value : t.Elements} {s rest : Text} → SpellsPattern value s rest → length rest ≤ length s
  pattern-no_longer (on_the_line {s = s} n d e) = omega (arith, skip_spaces-le s, pieces-no_longer d)
  pattern-no_longer (on_the_next {s = s} {u = u} n d e) = omega (arith, skip_spaces-le s, line_end-lt (skip_spaces s) u n, skip_blank_block-le u, line-no_longer d)

  pub pieces-no_longer : {ps : List Piece} {s rest : Text} → SpellsPieces ps s rest → length rest ≤ length s
  pieces-no_longer nothing_left = omega arith
  pieces-no_longer (crlf_piece {s = s} c d) = omega (arith, crlf-two s c, line-no_longer d)
  pieces-no_longer (text_piece b x d) = omega (arith, text-shorter x b, behind_text-no_longer d)
  pieces-no_longer (placeable_piece e d) = omega (arith, placeable-shorter e, pieces-no_longer d)

  pub line-no_longer : {ps : List Piece} {s rest : Text} → SpellsLine ps s rest → length rest ≤ length s
  line-no_longer (only_spaces_left h) = omega arith
  line-no_longer (pattern_over h k) = omega arith
  line-no_longer (line_of_text {s = s} h b x d) = omega (arith, skip_spaces-le s, text-shorter x b, behind_text-no_longer d)
  line-no_longer (line_of_placeable {s = s} h e d) = omega (arith, skip_spaces-le s, placeable-shorter e, pieces-no_longer d)
  line-no_longer (line_of_crlf {s = s} h c d) = omega (arith, skip_spaces-le s, pieces-no_longer d)

  pub behind_text-no_longer : {ends : Bool} {ps : List Piece} {s rest : Text} → SpellsBehindText ends ps s rest → length rest ≤ length s
  behind_text-no_longer (next_line d) = line-no_longer d
  behind_text-no_longer (same_line d) = pieces-no_longer d
