-- The symbols that the tree of a source names, without their places.
use Rattle.std.specs.Prelude.{Bool, true, false, List, [], ◌∷◌, ◌++◌, Option, Some, None}
use Rattle.std.specs.List.{flat_map}
use Rattle.fluent_grammar.specs.Words.{Text}
use Rattle.fluent_grammar.specs.Tree as t
use Rattle.fluent_grammar.specs.Tree.{Elements, Expression, Variants, Inline, Arguments, Inlines, Nameds, MaybeArguments}
use Rattle.lint_entries.specs.AttributePlaces.{value_elements}
use Rattle.fluent_symbols.specs.Occurrences.{Occurrence, Symbol, attribute, function, message, named, owned, term, variable, with_minus}

-- a symbol that is defined or referred to
pub record Mention : Type 0 where
  pub symbol : Symbol
  pub is_definition : Bool

-- an occurrence without its place
abbrev pub mention : Occurrence → Mention
mention o = record { symbol = o.symbol; is_definition = o.is_definition }

abbrev pub defined : Symbol → Mention
defined symbol = record { symbol = symbol; is_definition = true }

abbrev pub referred : Symbol → Mention
referred symbol = record { symbol = symbol; is_definition = false }

-- ---- patterns

-- an attribute of what has this id, if one is named
abbrev pub of_attribute : Text → Option Text → List Mention
of_attribute owner None = []
of_attribute owner (Some name) = referred (owned attribute owner name) ∷ []

-- the name of an argument: a variable of the term that is called
abbrev pub of_argument : Option Text → Text → List Mention
of_argument None name = []
of_argument (Some callee) name = referred (owned variable callee name) ∷ []

-- in a pattern of this message or term
module _ (owner : Text) where
  abbrev mutual
    pub of_elements : Elements → List Mention
    of_elements t.no_elements = []
    of_elements (t.text x es) = of_elements es
    of_elements (t.placeable e es) = of_expression e ++ of_elements es

    pub of_expression : Expression → List Mention
    of_expression (t.select i vs) = of_inline i ++ of_variants vs
    of_expression (t.inline i) = of_inline i

    pub of_variants : Variants → List Mention
    of_variants t.no_variants = []
    of_variants (t.variant k es d vs) = of_elements es ++ of_variants vs

    pub of_inline : Inline → List Mention
    of_inline (t.string_literal x) = []
    of_inline (t.number_literal x) = []
    of_inline (t.function_reference id a) = referred (named function id) ∷ of_arguments None a
    of_inline (t.message_reference id a) = referred (named message id) ∷ of_attribute id a
    of_inline (t.term_reference id a c) =
        referred (named term id) ∷ (of_attribute (with_minus id) a ++ of_call (with_minus id) c)
    of_inline (t.variable_reference id) = referred (owned variable owner id) ∷ []
    of_inline (t.nested e) = of_expression e

    -- of the call of this term
    pub of_call : Text → MaybeArguments → List Mention
    of_call callee t.no_arguments = []
    of_call callee (t.with_arguments a) = of_arguments (Some callee) a

    pub of_arguments : Option Text → Arguments → List Mention
    of_arguments callee (t.arguments ps ns) = of_inlines ps ++ of_nameds callee ns

    pub of_inlines : Inlines → List Mention
    of_inlines t.no_inlines = []
    of_inlines (t.positional e ps) = of_inline e ++ of_inlines ps

    pub of_nameds : Option Text → Nameds → List Mention
    of_nameds callee t.no_nameds = []
    of_nameds callee (t.named name e ns) = of_argument callee name ++ (of_inline e ++ of_nameds callee ns)

-- ---- entries

abbrev pub of_attributes : Text → List t.Attribute → List Mention
of_attributes owner [] = []
of_attributes owner (a ∷ as') = defined (owned attribute owner a.id) ∷ (of_elements owner a.value ++ of_attributes owner as')

abbrev pub of_entry : t.Entry → List Mention
of_entry (t.message m) =
    defined (named message m.id) ∷ (of_elements m.id (value_elements m.value) ++ of_attributes m.id m.attributes)
of_entry (t.term m) =
    defined (named term m.id) ∷ (of_elements (with_minus m.id) m.value ++ of_attributes (with_minus m.id) m.attributes)
of_entry (t.comment c) = []
of_entry (t.group_comment c) = []
of_entry (t.resource_comment c) = []
of_entry (t.junk x) = []

abbrev pub of_entries : List t.Entry → List Mention
of_entries es = flat_map of_entry es
