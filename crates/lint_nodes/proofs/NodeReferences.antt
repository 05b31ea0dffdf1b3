-- What the nodes of a pattern name, or enter, is what its references do.
use Rattle.std.proofs.Common.{◌≡◌, ◌∙◌, Bool, true, false, if◌then◌else◌, List, [], ◌∷◌, ◌++◌, refl, ap, sym, append-nil}
use Rattle.std.specs.List.{flat_map}
use Rattle.std.proofs.lemmas.List.Concat.{flat_map-append}
use Rattle.fluent_grammar.specs.Words.{Text}
use Rattle.fluent_grammar.specs.Tree as t
use Rattle.fluent_grammar.specs.Tree.{Elements, Expression, Variants, VariantKey, Inline, Arguments, Inlines, Nameds, MaybeArguments}
use Rattle.lint_findings.specs.References.{elements_references, expression_references, variants_references, inline_references, maybe_references, arguments_references, inlines_references, nameds_references}
use Rattle.lint_findings.specs.Nodes.{Node, expression, select, repeated_key, elements_nodes, expression_nodes, variants_nodes, inline_nodes, maybe_nodes, arguments_nodes, inlines_nodes, nameds_nodes, is_literal}
use Rattle.lint_nodes.specs.HasReached.{node_references}

-- literals name nothing
module _ {A : Type 0} (names : Inline → List A) (string : (x : Text) → names (t.string_literal x) ≡ []) (number : (x : Text) → names (t.number_literal x) ≡ []) where
  abbrev pub of_node : Node → List A
  of_node (expression i) = names i
  of_node (select i vs) = []
  of_node (repeated_key k) = []

  abbrev pub of_nodes : List Node → List A
  of_nodes nodes = flat_map of_node nodes

  abbrev pub of_references : List Inline → List A
  of_references is = flat_map names is

  -- the same by the references that nodes are
  pub by_references : (nodes : List Node) → flat_map names (flat_map node_references nodes) ≡ of_nodes nodes
  by_references [] = refl
  by_references (expression i ∷ nodes) = ap (λ l. names i ++ l) (by_references nodes)
  by_references (select i vs ∷ nodes) = by_references nodes
  by_references (repeated_key k ∷ nodes) = by_references nodes

  both : (ns ms : List Node) (is js : List Inline) → of_nodes ns ≡ of_references is → of_nodes ms ≡ of_references js → of_nodes (ns ++ ms) ≡ of_references (is ++ js)
  both ns ms is js e h = flat_map-append of_node ns ms ∙ (ap (λ x. x ++ of_nodes ms) e ∙ ap (λ x. of_references is ++ x) h) ∙ sym (flat_map-append names is js)

  without_key : (b : Bool) (k : VariantKey) (nodes : List Node) → of_nodes ((if b then repeated_key k ∷ [] else []) ++ nodes) ≡ of_nodes nodes
  without_key true k nodes = refl
  without_key false k nodes = refl

  named_by : (e : Inline) (ns : Nameds) → of_nodes (inline_nodes e) ≡ of_references (inline_references e) → of_nodes (nameds_nodes ns) ≡ of_references (nameds_references ns) →
      of_nodes ((if is_literal e then [] else inline_nodes e) ++ nameds_nodes ns) ≡ of_references (inline_references e ++ nameds_references ns)
  named_by (t.string_literal x) ns e h = h
  named_by (t.number_literal x) ns e h = h
  named_by (t.function_reference id a) ns e h = both (inline_nodes (t.function_reference id a)) (nameds_nodes ns) (inline_references (t.function_reference id a)) (nameds_references ns) e h
  named_by (t.message_reference id a) ns e h = both (inline_nodes (t.message_reference id a)) (nameds_nodes ns) (inline_references (t.message_reference id a)) (nameds_references ns) e h
  named_by (t.term_reference id a c) ns e h = both (inline_nodes (t.term_reference id a c)) (nameds_nodes ns) (inline_references (t.term_reference id a c)) (nameds_references ns) e h
  named_by (t.variable_reference x) ns e h = both (inline_nodes (t.variable_reference x)) (nameds_nodes ns) (inline_references (t.variable_reference x)) (nameds_references ns) e h
  named_by (t.nested x) ns e h = both (inline_nodes (t.nested x)) (nameds_nodes ns) (inline_references (t.nested x)) (nameds_references ns) e h

  mutual
    pub of_elements : (es : Elements) → of_nodes (elements_nodes es) ≡ of_references (elements_references es)
    of_elements t.no_elements = refl
    of_elements (t.text x es) = of_elements es
    of_elements (t.placeable e es) = both (expression_nodes e) (elements_nodes es) (expression_references e) (elements_references es) (of_expression e) (of_elements es)

    of_expression : (e : Expression) → of_nodes (expression_nodes e) ≡ of_references (expression_references e)
    of_expression (t.inline i) = of_inline i
    of_expression (t.select i vs) = both (inline_nodes i) (variants_nodes [] vs) (inline_references i) (variants_references vs) (of_inline i) (of_variants [] vs)

    of_variants : (keys : List VariantKey) (vs : Variants) → of_nodes (variants_nodes keys vs) ≡ of_references (variants_references vs)
    of_variants keys t.no_variants = refl
    of_variants keys (t.variant k es d vs) =
        without_key _ k (elements_nodes es ++ variants_nodes (k ∷ keys) vs)
        ∙ both (elements_nodes es) (variants_nodes (k ∷ keys) vs) (elements_references es) (variants_references vs) (of_elements es) (of_variants (k ∷ keys) vs)

    of_inline : (i : Inline) → of_nodes (inline_nodes i) ≡ of_references (inline_references i)
    of_inline (t.string_literal x) = append-nil (names (t.string_literal x)) ∙ string x
    of_inline (t.number_literal x) = append-nil (names (t.number_literal x)) ∙ number x
    of_inline (t.function_reference id a) = ap (λ xs. names (t.function_reference id a) ++ xs) (of_arguments a)
    of_inline (t.message_reference id a) = refl
    of_inline (t.term_reference id a c) = ap (λ xs. names (t.term_reference id a c) ++ xs) (of_maybe c)
    of_inline (t.variable_reference x) = refl
    of_inline (t.nested e) = of_expression e

    of_maybe : (c : MaybeArguments) → of_nodes (maybe_nodes c) ≡ of_references (maybe_references c)
    of_maybe t.no_arguments = refl
    of_maybe (t.with_arguments a) = of_arguments a

    of_arguments : (a : Arguments) → of_nodes (arguments_nodes a) ≡ of_references (arguments_references a)
    of_arguments (t.arguments ps ns) = both (inlines_nodes ps) (nameds_nodes ns) (inlines_references ps) (nameds_references ns) (of_inlines ps) (of_nameds ns)

    of_inlines : (ps : Inlines) → of_nodes (inlines_nodes ps) ≡ of_references (inlines_references ps)
    of_inlines t.no_inlines = refl
    of_inlines (t.positional e ps) = both (inline_nodes e) (inlines_nodes ps) (inline_references e) (inlines_references ps) (of_inline e) (of_inlines ps)

    of_nameds : (ns : Nameds) → of_nodes (nameds_nodes ns) ≡ of_references (nameds_references ns)
    of_nameds t.no_nameds = refl
    of_nameds (t.named x e ns) = named_by e ns (of_inline e) (of_nameds ns)
