-- What follows a part of a pattern is an end of the source that the part is in.
use Rattle.std.proofs.Common.{[], ◌∷◌, length, Option, Some, None}
use Rattle.std.specs.Prelude.{◌==◌}
use Rattle.fluent_grammar.specs.Words.{Text, line_feed, asterisk, open_brace, begins_with, skip_blank_block, skip_spaces, after_line_end}
use Rattle.fluent_grammar.specs.Lines.{pattern_ends}
use Rattle.fluent_grammar.specs.Ends.{EndsIn}
use Rattle.fluent_grammar.specs.Tree as t
use Rattle.fluent_grammar.proofs.Within.{MaybeEnd, end-blank, end-blank_block, end-drop, end-if, end-separator, end-spaces, end-tail, end-trans, line_end-end}
use Rattle.lint_findings.specs.FlawWords.{key_text}
use Rattle.lint_nodes.specs.Rests.{after_attribute, after_first_texts, after_lines, after_sign, after_texts, arguments_rest, elements_rest, expression_rest, first_placeable, first_variant, inline_rest, inlines_rest, maybe_rest, nameds_rest, pattern_rest, placeable_rest, value_of_argument, value_of_variant, variants_rest, within}

module _ {whole : Text} where
  -- ---- texts

  pub texts_end : (s : Text) → EndsIn s whole → EndsIn (after_texts s) whole
  texts_end [] h = h
  texts_end (c ∷ cs) h =
      let later = texts_end cs (end-tail h) in
      end-if (c == open_brace) h (end-if (c == line_feed) (end-if (pattern_ends cs) (end-tail h) later) later)

  pub lines_end : (s : Text) → EndsIn s whole → EndsIn (after_lines s) whole
  lines_end s h = end-if (pattern_ends s) h (texts_end s h)

  first_end : (s : Text) (next : Option Text) → MaybeEnd next s → EndsIn s whole → EndsIn (after_first_texts s next) whole
  first_end s None m h = texts_end s h
  first_end s (Some line) m h = lines_end (skip_blank_block line) (end-blank_block (end-trans m h))

  pub placeable_begins_end : (s : Text) → EndsIn s whole → EndsIn (first_placeable s) whole
  placeable_begins_end s h = first_end (skip_spaces s) (after_line_end (skip_spaces s)) (line_end-end (skip_spaces s)) (end-spaces h)

  -- ---- words

  pub within_end : {s : Text} → EndsIn s whole → EndsIn (within s) whole
  within_end h = end-blank (end-drop 1 h)

  pub sign_end : {s : Text} → EndsIn s whole → EndsIn (after_sign s) whole
  sign_end h = end-drop 1 (end-blank h)

  pub attribute_end : (attribute : Option Text) {s : Text} → EndsIn s whole → EndsIn (after_attribute attribute s) whole
  attribute_end None h = h
  attribute_end (Some name) h = end-drop (length name) (end-drop 1 h)

  pub variant_begins_end : {s : Text} → EndsIn s whole → EndsIn (first_variant s) whole
  variant_begins_end h = end-blank (end-drop 2 (end-blank h))

  pub variant_value_end : (key : t.VariantKey) {s : Text} → EndsIn s whole → EndsIn (value_of_variant key s) whole
  variant_value_end key {s} h = sign_end (end-drop (length (key_text key)) (within_end (end-if (begins_with asterisk s) (end-drop 1 h) h)))

  pub argument_value_end : (name : Text) {s : Text} → EndsIn s whole → EndsIn (value_of_argument name s) whole
  argument_value_end name h = within_end (end-blank (end-drop (length name) h))

  -- ---- the parts of a pattern

  mutual
    pub elements_end : (es : t.Elements) {s : Text} → EndsIn s whole → EndsIn (elements_rest es s) whole
    elements_end t.no_elements h = h
    elements_end (t.text x es) h = elements_end es h
    elements_end (t.placeable e es) h = elements_end es (texts_end _ (sign_end (expression_end e (within_end h))))

    pub expression_end : (e : t.Expression) {s : Text} → EndsIn s whole → EndsIn (expression_rest e s) whole
    expression_end (t.select i vs) h = variants_end vs (variant_begins_end (inline_end i h))
    expression_end (t.inline i) h = inline_end i h

    pub variants_end : (vs : t.Variants) {s : Text} → EndsIn s whole → EndsIn (variants_rest vs s) whole
    variants_end t.no_variants {s} h = end-if (begins_with asterisk s) (end-drop 1 h) h
    variants_end (t.variant key es d vs) h =
        variants_end vs (end-blank (elements_end es (placeable_begins_end _ (variant_value_end key h))))

    pub inline_end : (i : t.Inline) {s : Text} → EndsIn s whole → EndsIn (inline_rest i s) whole
    inline_end (t.string_literal x) h = end-drop 1 (end-drop (length x) (end-drop 1 h))
    inline_end (t.number_literal x) h = end-drop (length x) h
    inline_end (t.function_reference id a) h = arguments_end a (within_end (end-blank (end-drop (length id) h)))
    inline_end (t.message_reference id a) h = attribute_end a (end-blank (end-drop (length id) h))
    inline_end (t.term_reference id a c) h = maybe_end c (end-blank (attribute_end a (end-drop (length id) (end-drop 1 h))))
    inline_end (t.variable_reference id) h = end-drop (length id) (end-drop 1 h)
    inline_end (t.nested e) h = sign_end (expression_end e (within_end h))

    pub maybe_end : (c : t.MaybeArguments) {s : Text} → EndsIn s whole → EndsIn (maybe_rest c s) whole
    maybe_end t.no_arguments h = h
    maybe_end (t.with_arguments a) h = arguments_end a (within_end h)

    pub arguments_end : (a : t.Arguments) {s : Text} → EndsIn s whole → EndsIn (arguments_rest a s) whole
    arguments_end (t.arguments ps ns) h = end-drop 1 (nameds_end ns (inlines_end ps h))

    pub inlines_end : (ps : t.Inlines) {s : Text} → EndsIn s whole → EndsIn (inlines_rest ps s) whole
    inlines_end t.no_inlines h = h
    inlines_end (t.positional e ps) h = inlines_end ps (end-separator (inline_end e h))

    pub nameds_end : (ns : t.Nameds) {s : Text} → EndsIn s whole → EndsIn (nameds_rest ns s) whole
    nameds_end t.no_nameds h = h
    nameds_end (t.named name e ns) h = nameds_end ns (end-separator (inline_end e (argument_value_end name h)))

  pub placeable_end : (e : t.Expression) {s : Text} → EndsIn s whole → EndsIn (placeable_rest e s) whole
  placeable_end e h = sign_end (expression_end e (within_end h))

  pub pattern_end : (es : t.Elements) {s : Text} → EndsIn s whole → EndsIn (pattern_rest es s) whole
  pattern_end es h = elements_end es (placeable_begins_end _ h)
