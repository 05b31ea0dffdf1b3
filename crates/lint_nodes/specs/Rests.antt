-- What follows the parts of a pattern in its source. The tree says which part is at the front of a text.
use Rattle.std.specs.Prelude.{◌==◌, if◌then◌else◌, [], ◌∷◌, length, drop, Option, Some, None}
use Rattle.fluent_grammar.specs.Words.{Text, line_feed, asterisk, open_brace, begins_with, skip_spaces, skip_blank, skip_blank_block, skip_separator, after_line_end}
use Rattle.fluent_grammar.specs.Lines.{pattern_ends}
use Rattle.fluent_grammar.specs.Tree as t
use Rattle.fluent_grammar.specs.Tree.{Elements, Expression, Variants, VariantKey, Inline, Arguments, Inlines, Nameds, MaybeArguments}
use Rattle.lint_findings.specs.FlawWords.{key_text}

-- ---- texts

-- What follows the texts at the front, from within a line on: the next placeable, or the end of the pattern.
abbrev pub after_texts : Text → Text
after_texts [] = []
after_texts (c ∷ cs) =
    if c == open_brace then c ∷ cs
    else if c == line_feed then (if pattern_ends cs then cs else after_texts cs)
    else after_texts cs

-- the same, from the start of a line on
abbrev pub after_lines : Text → Text
after_lines s = if pattern_ends s then s else after_texts s

abbrev pub after_first_texts : Text → Option Text → Text
after_first_texts s None = after_texts s
after_first_texts s (Some line) = after_lines (skip_blank_block line)

-- the first placeable of a pattern, or its end
abbrev pub first_placeable : Text → Text
first_placeable s = after_first_texts (skip_spaces s) (after_line_end (skip_spaces s))

-- ---- words

-- what a placeable or call arguments hold, from their sign on
abbrev pub within : Text → Text
within s = skip_blank (drop 1 s)

-- what follows blank and a sign
abbrev pub after_sign : Text → Text
after_sign s = drop 1 (skip_blank s)

abbrev pub after_attribute : Option Text → Text → Text
after_attribute None s = s
after_attribute (Some name) s = drop (length name) (drop 1 s)

-- the variants of a select, after its selector
abbrev pub first_variant : Text → Text
first_variant s = skip_blank (drop 2 (skip_blank s))

-- the key of a variant, which may be marked as the default
abbrev pub key_of_variant : Text → Text
key_of_variant s = within (if begins_with asterisk s then drop 1 s else s)

-- the pattern of a variant with this key
abbrev pub value_of_variant : VariantKey → Text → Text
value_of_variant k s = after_sign (drop (length (key_text k)) (key_of_variant s))

-- the value of an argument of this name
abbrev pub value_of_argument : Text → Text → Text
value_of_argument name s = within (skip_blank (drop (length name) s))

-- ---- the parts of a pattern

abbrev mutual
  -- from the first placeable on
  pub elements_rest : Elements → Text → Text
  elements_rest t.no_elements s = s
  elements_rest (t.text x es) s = elements_rest es s
  elements_rest (t.placeable e es) s = elements_rest es (after_texts (after_sign (expression_rest e (within s))))

  pub expression_rest : Expression → Text → Text
  expression_rest (t.select i vs) s = variants_rest vs (first_variant (inline_rest i s))
  expression_rest (t.inline i) s = inline_rest i s

  -- A `*` that no variant follows is taken.
  pub variants_rest : Variants → Text → Text
  variants_rest t.no_variants s = if begins_with asterisk s then drop 1 s else s
  variants_rest (t.variant k es d vs) s =
      variants_rest vs (skip_blank (elements_rest es (first_placeable (value_of_variant k s))))

  pub inline_rest : Inline → Text → Text
  inline_rest (t.string_literal x) s = drop 1 (drop (length x) (drop 1 s))
  inline_rest (t.number_literal x) s = drop (length x) s
  inline_rest (t.function_reference id a) s = arguments_rest a (within (skip_blank (drop (length id) s)))
  inline_rest (t.message_reference id a) s = after_attribute a (skip_blank (drop (length id) s))
  inline_rest (t.term_reference id a c) s =
      maybe_rest c (skip_blank (after_attribute a (drop (length id) (drop 1 s))))
  inline_rest (t.variable_reference id) s = drop (length id) (drop 1 s)
  inline_rest (t.nested e) s = after_sign (expression_rest e (within s))

  pub maybe_rest : MaybeArguments → Text → Text
  maybe_rest t.no_arguments s = s
  maybe_rest (t.with_arguments a) s = arguments_rest a (within s)

  pub arguments_rest : Arguments → Text → Text
  arguments_rest (t.arguments ps ns) s = drop 1 (nameds_rest ns (inlines_rest ps s))

  pub inlines_rest : Inlines → Text → Text
  inlines_rest t.no_inlines s = s
  inlines_rest (t.positional e ps) s = inlines_rest ps (skip_separator (inline_rest e s))

  pub nameds_rest : Nameds → Text → Text
  nameds_rest t.no_nameds s = s
  nameds_rest (t.named name e ns) s = nameds_rest ns (skip_separator (inline_rest e (value_of_argument name s)))

-- what follows a placeable
abbrev pub placeable_rest : Expression → Text → Text
placeable_rest e s = after_sign (expression_rest e (within s))

-- what follows a pattern
abbrev pub pattern_rest : Elements → Text → Text
pattern_rest es s = elements_rest es (first_placeable s)
