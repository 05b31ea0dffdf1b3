-- What is spelled has no more references than bytes.
use Rattle.std.proofs.Common.{ℕ, ◌+◌, ◌≤◌, max, Bool, true, false, cond, List, [], ◌∷◌, length, Option, ap, arith}
use Rattle.std.specs.Prelude.{◌&&◌, ◌==◌}
use Rattle.fluent_grammar.specs.Words.{Text, skip_spaces}
use Rattle.fluent_grammar.specs.Lexical.{SpellsLiteral, a_string, a_number}
use Rattle.fluent_grammar.specs.Spelling.{SpellsInline, a_string_literal, a_number_literal, a_variable_reference, a_term_reference, a_message_reference, a_function_reference, a_placeable, SpellsMaybeArguments, no_call, a_call, SpellsArguments, no_more, positional, named, SpellsPlaceable, in_braces, SpellsExpression, an_inline, a_select, SpellsVariants, all_read, lone_mark, a_variant, the_default, SpellsVariant, keyed, SpellsPattern, on_the_line, on_the_next, SpellsPieces, nothing_left, crlf_piece, text_piece, placeable_piece, SpellsLine, only_spaces_left, pattern_over, line_of_text, line_of_placeable, line_of_crlf, SpellsBehindText, next_line, same_line, SpellsHead, a_head, SpellsAttribute, an_attribute, SpellsAttributes, no_more_attributes, one_more_attribute, SpellsEntry, a_message, a_term, a_comment, a_group_comment, a_resource_comment}
use Rattle.fluent_grammar.specs.Tree as t
use Rattle.fluent_grammar.specs.Lines.{Piece, at_line_start, in_line, placed, is_blank, without_blank_end, elements_from, elements_of, common_indent, value_of}
use Rattle.fluent_grammar.proofs.Lengths.{skip_spaces-le, skip_blank-le, skip_blank_block-le, skip_separator-le, crlf-two, line_end-lt, name-shorter, number-shorter, string-shorter, accessor-no_longer, key-shorter, literal-shorter, text-shorter, inline-shorter, placeable-shorter, variants-no_longer, variant-shorter, pattern-no_longer}
use Rattle.fluent_meaning.specs.Work.{expression_references, inline_references, maybe_references, arguments_references, most_references, most_in_variants, most_of_variants, most_in_inline, most_in_maybe, most_in_arguments, value_most, attributes_most}

-- ---- references that stand side by side

literal-references : {e : t.Inline} {s rest : Text} → SpellsLiteral e s rest → inline_references e + length rest ≤ length s
literal-references (a_string d) = omega (arith, string-shorter d)
literal-references (a_number d) = omega (arith, number-shorter d)

mutual
  pub inline-references : {e : t.Inline} {s rest : Text} → SpellsInline e s rest → inline_references e + length rest ≤ length s
  inline-references (a_string_literal b d) = omega (arith, ap length b, string-shorter d)
  inline-references (a_number_literal d) = omega (arith, number-shorter d)
  inline-references (a_variable_reference b d) = omega (arith, ap length b, name-shorter d)
  inline-references (a_term_reference {w = w} b d a c) = omega (arith, ap length b, name-shorter d, accessor-no_longer a, skip_blank-le w, maybe-references c)
  inline-references (a_message_reference {u = u} d o a) = omega (arith, name-shorter d, skip_blank-le u, accessor-no_longer a)
  inline-references (a_function_reference {u = u} {v = v} d c p a) = omega (arith, name-shorter d, skip_blank-le u, ap length p, skip_blank-le v, arguments-references a)
  inline-references (a_placeable d) = placeable-references d

  pub maybe-references : {c : t.MaybeArguments} {s rest : Text} → SpellsMaybeArguments c s rest → maybe_references c + length rest ≤ length s
  maybe-references (no_call h) = omega arith
  maybe-references (a_call {u = u} p a) = omega (arith, ap length p, skip_blank-le u, arguments-references a)

  pub arguments-references : {names : List Text} {a : t.Arguments} {s rest : Text} → SpellsArguments names a s rest → arguments_references a + length rest ≤ length s
  arguments-references (no_more p) = omega (arith, ap length p)
  arguments-references (positional {u = u} d p more) = omega (arith, inline-references d, skip_separator-le u, arguments-references more)
  arguments-references (named {u = u} {v = v} {w = w} d c f x more) =
      omega (arith, name-shorter d, skip_blank-le u, ap length c, skip_blank-le v, literal-references x, skip_separator-le w, arguments-references more)

  pub placeable-references : {e : t.Expression} {s rest : Text} → SpellsPlaceable e s rest → expression_references e + length rest ≤ length s
  placeable-references (in_braces {u = u} {v = v} b d c) = omega (arith, ap length b, skip_blank-le u, expression-references d, skip_blank-le v, ap length c)

  pub expression-references : {e : t.Expression} {s rest : Text} → SpellsExpression e s rest → expression_references e + length rest ≤ length s
  expression-references (an_inline {u = u} d a m) = omega (arith, inline-references d, skip_blank-le u)
  expression-references (a_select {u = u} {v = v} {w = w} d a m n vs) =
      omega (arith, inline-references d, skip_blank-le u, ap length a, skip_spaces-le v, line_end-lt (skip_spaces v) w n, skip_blank-le w, variants-no_longer vs)

-- ---- the most in one placeable

abbrev pub pieces_most : List Piece → ℕ
pieces_most [] = 0
pieces_most (at_line_start n s ∷ ps) = pieces_most ps
pieces_most (in_line s ∷ ps) = pieces_most ps
pieces_most (placed z e ∷ ps) = max (expression_references e) (max (most_in_variants e) (pieces_most ps))

from-most : (common : Option ℕ) (ps : List Piece) → most_references (elements_from common ps) ≤ pieces_most ps
from-most common [] = omega arith
from-most common (at_line_start n s ∷ ps) = from-most common ps
from-most common (in_line s ∷ ps) = from-most common ps
from-most common (placed z e ∷ ps) = omega (arith, from-most common ps)

tail-most : (p : Piece) (ps : List Piece) → pieces_most ps ≤ pieces_most (p ∷ ps)
tail-most (at_line_start n s) ps = omega arith
tail-most (in_line s) ps = omega arith
tail-most (placed z e) ps = omega arith

head-most : (p : Piece) (ps qs : List Piece) → pieces_most ps ≤ pieces_most qs → pieces_most (p ∷ ps) ≤ pieces_most (p ∷ qs)
head-most (at_line_start n s) ps qs h = h
head-most (in_line s) ps qs h = h
head-most (placed z e) ps qs h = omega (arith, h)

cut-by : (b : Bool) (p : Piece) (ps qs : List Piece) → pieces_most ps ≤ pieces_most qs → pieces_most (cond b [] (p ∷ ps)) ≤ pieces_most (p ∷ qs)
cut-by true p ps qs h = omega arith
cut-by false p ps qs h = head-most p ps qs h

cut-most : (ps : List Piece) → pieces_most (without_blank_end ps) ≤ pieces_most ps
cut-most [] = omega arith
cut-most (p ∷ ps) = cut-by (is_blank p && length (without_blank_end ps) == 0) p (without_blank_end ps) ps (cut-most ps)

pub elements-most : (ps : List Piece) → most_references (elements_of ps) ≤ pieces_most ps
elements-most ps = omega (arith, from-most (common_indent ps) (without_blank_end ps), cut-most ps)

literal-most : {e : t.Inline} {s rest : Text} → SpellsLiteral e s rest → most_in_inline e ≤ length s
literal-most (a_string d) = omega arith
literal-most (a_number d) = omega arith

mutual
  pub inline-most : {e : t.Inline} {s rest : Text} → SpellsInline e s rest → most_in_inline e ≤ length s
  inline-most (a_string_literal b d) = omega arith
  inline-most (a_number_literal d) = omega arith
  inline-most (a_variable_reference b d) = omega arith
  inline-most (a_term_reference {w = w} b d a c) = omega (arith, ap length b, name-shorter d, accessor-no_longer a, skip_blank-le w, maybe-most c)
  inline-most (a_message_reference d o a) = omega arith
  inline-most (a_function_reference {u = u} {v = v} d c p a) = omega (arith, name-shorter d, skip_blank-le u, ap length p, skip_blank-le v, arguments-most a)
  inline-most (a_placeable d) = placeable-most d

  pub maybe-most : {c : t.MaybeArguments} {s rest : Text} → SpellsMaybeArguments c s rest → most_in_maybe c ≤ length s
  maybe-most (no_call h) = omega arith
  maybe-most (a_call {u = u} p a) = omega (arith, ap length p, skip_blank-le u, arguments-most a)

  pub arguments-most : {names : List Text} {a : t.Arguments} {s rest : Text} → SpellsArguments names a s rest → most_in_arguments a ≤ length s
  arguments-most (no_more p) = omega arith
  arguments-most (positional {u = u} d p more) = omega (arith, inline-most d, inline-shorter d, skip_separator-le u, arguments-most more)
  arguments-most (named {u = u} {v = v} {w = w} d c f x more) =
      omega (arith, name-shorter d, skip_blank-le u, ap length c, skip_blank-le v, literal-most x, literal-shorter x, skip_separator-le w, arguments-most more)

  pub placeable-most : {e : t.Expression} {s rest : Text} → SpellsPlaceable e s rest → most_in_variants e ≤ length s
  placeable-most (in_braces {u = u} b d c) = omega (arith, ap length b, skip_blank-le u, expression-most d)

  pub expression-most : {e : t.Expression} {s rest : Text} → SpellsExpression e s rest → most_in_variants e ≤ length s
  expression-most (an_inline d a m) = inline-most d
  expression-most (a_select {u = u} {v = v} {w = w} d a m n vs) =
      omega (arith, inline-most d, inline-shorter d, skip_blank-le u, ap length a, skip_spaces-le v, line_end-lt (skip_spaces v) w n, skip_blank-le w, variants-most vs)

  pub variants-most : {marked : Bool} {vs : t.Variants} {s rest : Text} → SpellsVariants marked vs s rest → most_of_variants vs ≤ length s
  variants-most (all_read a b) = omega arith
  variants-most (lone_mark a b) = omega arith
  variants-most (a_variant {u = u} d more) = omega (arith, variant-most d, variant-shorter d, skip_blank-le u, variants-most more)
  variants-most (the_default {v = v} a d more) = omega (arith, ap length a, variant-most d, variant-shorter d, skip_blank-le v, variants-most more)

  pub variant-most : {key : t.VariantKey} {value : t.Elements} {s rest : Text} → SpellsVariant key value s rest → most_references value ≤ length s
  variant-most (keyed {u = u} {v = v} b k c p h) = omega (arith, ap length b, skip_blank-le u, key-shorter k, skip_blank-le v, ap length c, pattern-most p)

  pub pattern-most : {value : t.Elements} {s rest : Text} → SpellsPattern value s rest → most_references value ≤ length s
  pattern-most (on_the_line {s = s} {ps = ps} n d e) = omega (arith, ap most_references e, elements-most ps, skip_spaces-le s, pieces-most d)
  pattern-most (on_the_next {s = s} {u = u} {ps = ps} n d e) =
      omega (arith, ap most_references e, elements-most ps, skip_spaces-le s, line_end-lt (skip_spaces s) u n, skip_blank_block-le u, line-most d)

  pub pieces-most : {ps : List Piece} {s rest : Text} → SpellsPieces ps s rest → pieces_most ps ≤ length s
  pieces-most nothing_left = omega arith
  pieces-most (crlf_piece {s = s} c d) = omega (arith, crlf-two s c, line-most d)
  pieces-most (text_piece b x d) = omega (arith, text-shorter x b, behind_text-most d)
  pieces-most (placeable_piece e d) = omega (arith, placeable-references e, placeable-most e, placeable-shorter e, pieces-most d)

  pub line-most : {ps : List Piece} {s rest : Text} → SpellsLine ps s rest → pieces_most ps ≤ length s
  line-most (only_spaces_left h) = omega arith
  line-most (pattern_over h k) = omega arith
  line-most (line_of_text {s = s} h b x d) = omega (arith, skip_spaces-le s, text-shorter x b, behind_text-most d)
  line-most (line_of_placeable {s = s} h e d) = omega (arith, skip_spaces-le s, placeable-references e, placeable-most e, placeable-shorter e, pieces-most d)
  line-most (line_of_crlf {s = s} h c d) = omega (arith, skip_spaces-le s, pieces-most d)

  pub behind_text-most : {ends : Bool} {ps : List Piece} {s rest : Text} → SpellsBehindText ends ps s rest → pieces_most ps ≤ length s
  behind_text-most (next_line d) = line-most d
  behind_text-most (same_line d) = pieces-most d

-- ---- entries

head-most_of : {id : Text} {value : t.Elements} {s rest : Text} → SpellsHead id value s rest → most_references value ≤ length s
head-most_of (a_head {u = u} n e d) = omega (arith, name-shorter n, skip_spaces-le u, ap length e, pattern-most d)

head-no_longer : {id : Text} {value : t.Elements} {s rest : Text} → SpellsHead id value s rest → length rest ≤ length s
head-no_longer (a_head {u = u} n e d) = omega (arith, name-shorter n, skip_spaces-le u, ap length e, pattern-no_longer d)

attribute-most : {a : t.Attribute} {s rest : Text} → SpellsAttribute a s rest → most_references a.value ≤ length s
attribute-most (an_attribute {s = s} b d h) = omega (arith, skip_spaces-le s, ap length b, head-most_of d)

attribute-no_longer : {a : t.Attribute} {s rest : Text} → SpellsAttribute a s rest → length rest ≤ length s
attribute-no_longer (an_attribute {s = s} b d h) = omega (arith, skip_spaces-le s, ap length b, head-no_longer d)

attributes-most : {as' : List t.Attribute} {s rest : Text} → SpellsAttributes as' s rest → attributes_most as' ≤ length s
attributes-most (no_more_attributes none) = omega arith
attributes-most (one_more_attribute d more) = omega (arith, attribute-most d, attribute-no_longer d, attributes-most more)

value-most : (es : t.Elements) → value_most (value_of es) ≤ most_references es
value-most t.no_elements = omega arith
value-most (t.text x es) = omega arith
value-most (t.placeable e es) = omega arith

abbrev pub entry_most : t.Entry → ℕ
entry_most (t.message m) = max (value_most m.value) (attributes_most m.attributes)
entry_most (t.term m) = max (most_references m.value) (attributes_most m.attributes)
entry_most (t.comment c) = 0
entry_most (t.group_comment c) = 0
entry_most (t.resource_comment c) = 0
entry_most (t.junk s) = 0

pub entry-most : {e : t.Entry} {s rest : Text} → SpellsEntry e s rest → entry_most e ≤ length s
entry-most (a_message {u = u} {value = value} d more h) = omega (arith, head-most_of d, head-no_longer d, value-most value, skip_blank_block-le u, attributes-most more)
entry-most (a_term {v = v} b d more h) = omega (arith, ap length b, head-most_of d, head-no_longer d, skip_blank_block-le v, attributes-most more)
entry-most (a_comment d) = omega arith
entry-most (a_group_comment d) = omega arith
entry-most (a_resource_comment d) = omega arith
