-- The nodes of a pattern with their places, by the tree of the pattern and its source.
use Rattle.std.specs.Prelude.{if◌then◌else◌, List, [], ◌∷◌, ◌++◌, length, drop}
use Rattle.std.specs.List.{list_any}
use Rattle.fluent_grammar.specs.Words.{Text, skip_blank, skip_separator}
use Rattle.fluent_grammar.specs.Tree as t
use Rattle.fluent_grammar.specs.Tree.{Elements, Expression, Variants, VariantKey, Inline, Arguments, Inlines, Nameds, MaybeArguments}
use Rattle.fluent_meaning.specs.Same.{same_key}
use Rattle.lint_findings.specs.Nodes.{expression, select, repeated_key, is_literal}
use Rattle.lint_findings.specs.Occurrences.{Occurrence, occurrence_at}
use Rattle.lint_nodes.specs.Rests.{after_texts, first_placeable, within, after_attribute, first_variant, key_of_variant, value_of_variant, value_of_argument, placeable_rest, inline_rest, inlines_rest, pattern_rest}

-- a key, if it is one of these
abbrev pub repeated_found : List VariantKey → VariantKey → Text → List Occurrence
repeated_found keys k s = if list_any (same_key k) keys then occurrence_at (repeated_key k) s ∷ [] else []

abbrev mutual
  -- from the first placeable on
  pub elements_found : Elements → Text → List Occurrence
  elements_found t.no_elements s = []
  elements_found (t.text x es) s = elements_found es s
  elements_found (t.placeable e es) s = expression_found e (within s) ++ elements_found es (after_texts (placeable_rest e s))

  pub expression_found : Expression → Text → List Occurrence
  expression_found (t.select i vs) s =
      occurrence_at (select i vs) s ∷ (inline_found i s ++ variants_found [] vs (first_variant (inline_rest i s)))
  expression_found (t.inline i) s = inline_found i s

  -- of variants after those with these keys
  pub variants_found : List VariantKey → Variants → Text → List Occurrence
  variants_found keys t.no_variants s = []
  variants_found keys (t.variant k es d vs) s =
      repeated_found keys k (key_of_variant s)
      ++ (elements_found es (first_placeable (value_of_variant k s))
      ++ variants_found (k ∷ keys) vs (skip_blank (pattern_rest es (value_of_variant k s))))

  pub inline_found : Inline → Text → List Occurrence
  inline_found (t.string_literal x) s = occurrence_at (expression (t.string_literal x)) s ∷ []
  inline_found (t.number_literal x) s = occurrence_at (expression (t.number_literal x)) s ∷ []
  inline_found (t.function_reference id a) s =
      occurrence_at (expression (t.function_reference id a)) s ∷ arguments_found a (within (skip_blank (drop (length id) s)))
  inline_found (t.message_reference id a) s = occurrence_at (expression (t.message_reference id a)) s ∷ []
  inline_found (t.term_reference id a c) s =
      occurrence_at (expression (t.term_reference id a c)) s
      ∷ maybe_found c (skip_blank (after_attribute a (drop (length id) (drop 1 s))))
  inline_found (t.variable_reference id) s = occurrence_at (expression (t.variable_reference id)) s ∷ []
  inline_found (t.nested e) s = expression_found e (within s)

  pub maybe_found : MaybeArguments → Text → List Occurrence
  maybe_found t.no_arguments s = []
  maybe_found (t.with_arguments a) s = arguments_found a (within s)

  pub arguments_found : Arguments → Text → List Occurrence
  arguments_found (t.arguments ps ns) s = inlines_found ps s ++ nameds_found ns (inlines_rest ps s)

  pub inlines_found : Inlines → Text → List Occurrence
  inlines_found t.no_inlines s = []
  inlines_found (t.positional e ps) s = inline_found e s ++ inlines_found ps (skip_separator (inline_rest e s))

  pub nameds_found : Nameds → Text → List Occurrence
  nameds_found t.no_nameds s = []
  nameds_found (t.named name e ns) s =
      (if is_literal e then [] else inline_found e (value_of_argument name s))
      ++ nameds_found ns (skip_separator (inline_rest e (value_of_argument name s)))

-- The value of a named argument, if it is a literal, belongs to the node of the call.
abbrev pub value_found : Inline → Text → List Occurrence
value_found e s = if is_literal e then [] else inline_found e s

-- the occurrences in the pattern at the front of a text
abbrev pub pattern_found : Elements → Text → List Occurrence
pattern_found es s = elements_found es (first_placeable s)
