-- Where symbols are referred to in a pattern, by its tree and its text.
use Rattle.std.specs.Prelude.{Bool, true, false, List, [], ◌∷◌, ◌++◌, length, drop, Option, Some, None}
use Rattle.fluent_grammar.specs.Words.{Text, hyphen, skip_blank, skip_separator}
use Rattle.fluent_grammar.specs.Tree as t
use Rattle.fluent_grammar.specs.Tree.{Elements, Expression, Variants, Inline, Arguments, Inlines, Nameds, MaybeArguments}
use Rattle.lint_nodes.specs.Rests.{after_texts, first_placeable, within, after_attribute, first_variant, value_of_variant, value_of_argument, placeable_rest, inline_rest, inlines_rest, pattern_rest}

-- what a name stands for
pub data Kind : Type 0 where
  message : Kind
  term : Kind
  attribute : Kind
  variable : Kind
  function : Kind

-- What a name stands for in a source. The owner of an attribute or a variable is the id of the message or the term that
-- it belongs to, a term's with its minus.
pub record Symbol : Type 0 where
  pub kind : Kind
  pub name : Text
  pub owner : Option Text

-- a place that names a symbol, with the source from the first byte of the name on
pub record Occurrence : Type 0 where
  pub symbol : Symbol
  pub at : Text
  pub is_definition : Bool

-- ---- symbols

abbrev pub named : Kind → Text → Symbol
named kind name = record { kind = kind; name = name; owner = None }

abbrev pub owned : Kind → Text → Text → Symbol
owned kind owner name = record { kind = kind; name = name; owner = Some owner }

-- the id of a term, with its minus
abbrev pub with_minus : Text → Text
with_minus id = hyphen ∷ id

abbrev pub definition : Symbol → Text → Occurrence
definition symbol s = record { symbol = symbol; at = s; is_definition = true }

abbrev pub reference : Symbol → Text → Occurrence
reference symbol s = record { symbol = symbol; at = s; is_definition = false }

-- ---- the parts of a pattern

-- of a variable, from its dollar sign on
abbrev pub variable_named : Text → Text → Text → List Occurrence
variable_named owner name s = reference (owned variable owner name) (drop 1 s) ∷ []

-- of the attribute of what has this id, if one is named, from its dot on
abbrev pub attribute_named : Text → Option Text → Text → List Occurrence
attribute_named owner None s = []
attribute_named owner (Some name) s = reference (owned attribute owner name) (drop 1 s) ∷ []

-- The name of an argument is a variable of the term that is called. What a function makes of one is its own matter.
abbrev pub argument_named : Option Text → Text → Text → List Occurrence
argument_named None name s = []
argument_named (Some callee) name s = reference (owned variable callee name) s ∷ []

-- in a pattern of this message or term
module _ (owner : Text) where
  abbrev mutual
    -- from the first placeable on
    pub in_elements : Elements → Text → List Occurrence
    in_elements t.no_elements s = []
    in_elements (t.text x es) s = in_elements es s
    in_elements (t.placeable e es) s = in_expression e (within s) ++ in_elements es (after_texts (placeable_rest e s))

    pub in_expression : Expression → Text → List Occurrence
    in_expression (t.select i vs) s = in_inline i s ++ in_variants vs (first_variant (inline_rest i s))
    in_expression (t.inline i) s = in_inline i s

    pub in_variants : Variants → Text → List Occurrence
    in_variants t.no_variants s = []
    in_variants (t.variant k es d vs) s =
        in_elements es (first_placeable (value_of_variant k s)) ++ in_variants vs (skip_blank (pattern_rest es (value_of_variant k s)))

    pub in_inline : Inline → Text → List Occurrence
    in_inline (t.string_literal x) s = []
    in_inline (t.number_literal x) s = []
    in_inline (t.function_reference id a) s =
        reference (named function id) s ∷ in_arguments None a (within (skip_blank (drop (length id) s)))
    in_inline (t.message_reference id a) s =
        reference (named message id) s ∷ attribute_named id a (skip_blank (drop (length id) s))
    in_inline (t.term_reference id a c) s =
        reference (named term id) (drop 1 s)
        ∷ (attribute_named (with_minus id) a (drop (length id) (drop 1 s))
        ++ in_call (with_minus id) c (skip_blank (after_attribute a (drop (length id) (drop 1 s)))))
    in_inline (t.variable_reference id) s = variable_named owner id s
    in_inline (t.nested e) s = in_expression e (within s)

    -- of the call of this term
    pub in_call : Text → MaybeArguments → Text → List Occurrence
    in_call callee t.no_arguments s = []
    in_call callee (t.with_arguments a) s = in_arguments (Some callee) a (within s)

    pub in_arguments : Option Text → Arguments → Text → List Occurrence
    in_arguments callee (t.arguments ps ns) s = in_inlines ps s ++ in_nameds callee ns (inlines_rest ps s)

    pub in_inlines : Inlines → Text → List Occurrence
    in_inlines t.no_inlines s = []
    in_inlines (t.positional e ps) s = in_inline e s ++ in_inlines ps (skip_separator (inline_rest e s))

    pub in_nameds : Option Text → Nameds → Text → List Occurrence
    in_nameds callee t.no_nameds s = []
    in_nameds callee (t.named name e ns) s =
        argument_named callee name s
        ++ (in_inline e (value_of_argument name s)
        ++ in_nameds callee ns (skip_separator (inline_rest e (value_of_argument name s))))

  -- in the pattern at the front of a text
  abbrev pub in_pattern : Elements → Text → List Occurrence
  in_pattern es s = in_elements es (first_placeable s)
