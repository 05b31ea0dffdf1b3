-- What findings of a pattern are about: its nodes, in the order in which they are written.
use Rattle.std.specs.Prelude.{Bool, true, false, if◌then◌else◌, List, [], ◌∷◌, ◌++◌}
use Rattle.std.specs.List.{list_any}
use Rattle.fluent_grammar.specs.Tree as t
use Rattle.fluent_grammar.specs.Tree.{Elements, Expression, Variants, VariantKey, Inline, Arguments, Inlines, Nameds, MaybeArguments}
use Rattle.fluent_meaning.specs.Same.{same_key}

-- A reference or a literal. A select, which is listed at its selector. A key that an earlier variant of its select has.
pub data Node : Type 0 where
  expression : t.Inline → Node
  select : t.Inline → t.Variants → Node
  repeated_key : t.VariantKey → Node

abbrev pub is_literal : Inline → Bool
is_literal (t.string_literal x) = true
is_literal (t.number_literal x) = true
is_literal (t.function_reference id a) = false
is_literal (t.message_reference id a) = false
is_literal (t.term_reference id a c) = false
is_literal (t.variable_reference x) = false
is_literal (t.nested e) = false

abbrev mutual
  pub elements_nodes : Elements → List Node
  elements_nodes t.no_elements = []
  elements_nodes (t.text x es) = elements_nodes es
  elements_nodes (t.placeable e es) = expression_nodes e ++ elements_nodes es

  pub expression_nodes : Expression → List Node
  expression_nodes (t.select i vs) = select i vs ∷ (inline_nodes i ++ variants_nodes [] vs)
  expression_nodes (t.inline i) = inline_nodes i

  -- of variants after those with these keys
  pub variants_nodes : List VariantKey → Variants → List Node
  variants_nodes keys t.no_variants = []
  variants_nodes keys (t.variant k es d vs) =
      (if list_any (same_key k) keys then repeated_key k ∷ [] else []) ++ (elements_nodes es ++ variants_nodes (k ∷ keys) vs)

  pub inline_nodes : Inline → List Node
  inline_nodes (t.string_literal x) = expression (t.string_literal x) ∷ []
  inline_nodes (t.number_literal x) = expression (t.number_literal x) ∷ []
  inline_nodes (t.function_reference id a) = expression (t.function_reference id a) ∷ arguments_nodes a
  inline_nodes (t.message_reference id a) = expression (t.message_reference id a) ∷ []
  inline_nodes (t.term_reference id a c) = expression (t.term_reference id a c) ∷ maybe_nodes c
  inline_nodes (t.variable_reference x) = expression (t.variable_reference x) ∷ []
  inline_nodes (t.nested e) = expression_nodes e

  pub maybe_nodes : MaybeArguments → List Node
  maybe_nodes t.no_arguments = []
  maybe_nodes (t.with_arguments a) = arguments_nodes a

  pub arguments_nodes : Arguments → List Node
  arguments_nodes (t.arguments ps ns) = inlines_nodes ps ++ nameds_nodes ns

  pub inlines_nodes : Inlines → List Node
  inlines_nodes t.no_inlines = []
  inlines_nodes (t.positional e ps) = inline_nodes e ++ inlines_nodes ps

  -- The literals of named arguments belong to the node of their call. A source has no other named arguments.
  pub nameds_nodes : Nameds → List Node
  nameds_nodes t.no_nameds = []
  nameds_nodes (t.named x e ns) = (if is_literal e then [] else inline_nodes e) ++ nameds_nodes ns
