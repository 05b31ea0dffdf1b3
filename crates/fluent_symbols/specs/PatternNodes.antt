-- The nodes of a pattern by its tree and its text, each after those in it.
use Rattle.std.specs.Prelude.{Bool, true, false, List, [], ◌∷◌, ◌++◌, length, drop, Option, Some, None}
use Rattle.fluent_grammar.specs.Words.{Text, skip_blank, skip_separator}
use Rattle.fluent_grammar.specs.Lines.{ends_line}
use Rattle.fluent_grammar.specs.Tree as t
use Rattle.fluent_grammar.specs.Tree.{Elements, Expression, Variants, VariantKey, Inline, Arguments, Inlines, Nameds, MaybeArguments}
use Rattle.lint_findings.specs.FlawWords.{key_text}
use Rattle.lint_nodes.specs.Rests.{after_texts, first_placeable, within, after_attribute, first_variant, key_of_variant, value_of_variant, value_of_argument, placeable_rest, expression_rest, inline_rest, maybe_rest, arguments_rest, inlines_rest, pattern_rest}
use Rattle.fluent_symbols.specs.Node.{Kind, Node, node, leaf, named, line_end, pattern_start, begins_line, text_start, text_end}
use Rattle.fluent_symbols.specs.Node as kind

-- The end of elements. The first text is where the texts are, at the start of a line or not, and the second is the next
-- placeable.
abbrev pub elements_end : Bool → Elements → Text → Text → Text
elements_end at_line t.no_elements s next = s
elements_end at_line (t.text x es) s next = elements_end (ends_line x) es (text_end at_line x s) next
elements_end at_line (t.placeable e es) s next = elements_end false es (placeable_rest e next) (after_texts (placeable_rest e next))

-- the end of the last line of a pattern
abbrev pub pattern_end : Elements → Text → Text
pattern_end es s = line_end (elements_end (begins_line s) es (pattern_start s) (first_placeable s))

-- what follows the call of a term that is named before this place, which may be none, and its end
abbrev pub call_rest : MaybeArguments → Text → Text
call_rest c s = maybe_rest c (skip_blank s)

abbrev pub call_end : MaybeArguments → Text → Text
call_end t.no_arguments s = s
call_end (t.with_arguments a) s = arguments_rest a (within (skip_blank s))

-- the end of a message's name and of the attribute after it
abbrev pub message_end : Option Text → Text → Text
message_end None s = s
message_end (Some attribute) s = after_attribute (Some attribute) (skip_blank s)

-- The end of an expression, without the blank that is read after it.
abbrev pub inline_end : Inline → Text → Text
inline_end (t.message_reference id a) s = message_end a (drop (length id) s)
inline_end (t.term_reference id a c) s = call_end c (after_attribute a (drop (length id) (drop 1 s)))
inline_end e s = inline_rest e s

abbrev pub key_kind : VariantKey → Kind
key_kind (t.identifier_key name) = kind.identifier
key_kind (t.number_key number) = kind.number_literal

abbrev pub variant_kind : Bool → Kind
variant_kind true = kind.default_variant
variant_kind false = kind.variant

-- the key of a variant
abbrev pub key_node : VariantKey → Text → List Node
key_node k s = leaf (key_kind k) s (drop (length (key_text k)) s)

-- the attribute that a reference names, from its dot on
abbrev pub attribute_named : Option Text → Text → List Node
attribute_named None s = []
attribute_named (Some name) s = named name (drop 1 s)

abbrev mutual
  -- at places like those of `elements_end`
  pub in_elements : Bool → Elements → Text → Text → List Node
  in_elements at_line t.no_elements s next = []
  in_elements at_line (t.text x es) s next =
      node kind.text_element (text_start at_line x s) (text_end at_line x s) ∷ in_elements (ends_line x) es (text_end at_line x s) next
  in_elements at_line (t.placeable e es) s next =
      in_expression e (within next)
      ++ (leaf kind.placeable next (placeable_rest e next)
      ++ in_elements false es (placeable_rest e next) (after_texts (placeable_rest e next)))

  pub in_expression : Expression → Text → List Node
  in_expression (t.select i vs) s =
      in_inline i s ++ (in_variants vs (first_variant (inline_rest i s)) ++ leaf kind.select s (expression_rest (t.select i vs) s))
  in_expression (t.inline i) s = in_inline i s

  pub in_variants : Variants → Text → List Node
  in_variants t.no_variants s = []
  in_variants (t.variant k es d vs) s =
      key_node k (key_of_variant s)
      ++ (in_elements (begins_line (value_of_variant k s)) es (pattern_start (value_of_variant k s)) (first_placeable (value_of_variant k s))
      ++ (leaf kind.pattern (pattern_start (value_of_variant k s)) (pattern_end es (value_of_variant k s))
      ++ (leaf (variant_kind d) s (pattern_end es (value_of_variant k s))
      ++ in_variants vs (skip_blank (pattern_rest es (value_of_variant k s))))))

  pub in_inline : Inline → Text → List Node
  in_inline (t.string_literal x) s = leaf kind.string_literal s (inline_end (t.string_literal x) s)
  in_inline (t.number_literal x) s = leaf kind.number_literal s (inline_end (t.number_literal x) s)
  in_inline (t.function_reference id a) s =
      named id s
      ++ (in_arguments a (skip_blank (drop (length id) s))
      ++ leaf kind.function_reference s (inline_end (t.function_reference id a) s))
  in_inline (t.message_reference id a) s =
      named id s
      ++ (attribute_named a (skip_blank (drop (length id) s))
      ++ leaf kind.message_reference s (inline_end (t.message_reference id a) s))
  in_inline (t.term_reference id a c) s =
      named id (drop 1 s)
      ++ (attribute_named a (drop (length id) (drop 1 s))
      ++ (in_call c (after_attribute a (drop (length id) (drop 1 s)))
      ++ leaf kind.term_reference s (inline_end (t.term_reference id a c) s)))
  in_inline (t.variable_reference id) s =
      named id (drop 1 s) ++ leaf kind.variable_reference s (inline_end (t.variable_reference id) s)
  in_inline (t.nested e) s = in_expression e (within s) ++ leaf kind.placeable s (placeable_rest e s)

  pub in_call : MaybeArguments → Text → List Node
  in_call t.no_arguments s = []
  in_call (t.with_arguments a) s = in_arguments a (skip_blank s)

  -- from the parenthesis on
  pub in_arguments : Arguments → Text → List Node
  in_arguments (t.arguments ps ns) s =
      in_inlines ps (within s)
      ++ (in_nameds ns (inlines_rest ps (within s))
      ++ leaf kind.call_arguments s (arguments_rest (t.arguments ps ns) (within s)))

  pub in_inlines : Inlines → Text → List Node
  in_inlines t.no_inlines s = []
  in_inlines (t.positional e ps) s = in_inline e s ++ in_inlines ps (skip_separator (inline_rest e s))

  pub in_nameds : Nameds → Text → List Node
  in_nameds t.no_nameds s = []
  in_nameds (t.named name e ns) s =
      named name s
      ++ (in_inline e (value_of_argument name s)
      ++ (leaf kind.named_argument s (inline_end e (value_of_argument name s))
      ++ in_nameds ns (skip_separator (inline_rest e (value_of_argument name s)))))

-- in a placeable, from its brace on
abbrev pub in_placeable : Expression → Text → List Node
in_placeable e s = in_expression e (within s) ++ leaf kind.placeable s (placeable_rest e s)

-- in the pattern at the front of a text, which may be after blank
abbrev pub in_pattern : Elements → Text → List Node
in_pattern es s =
    in_elements (begins_line s) es (pattern_start s) (first_placeable s) ++ leaf kind.pattern (pattern_start s) (pattern_end es s)
