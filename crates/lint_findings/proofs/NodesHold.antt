-- What holds of the nodes of a pattern holds of its references and selects.
use Rattle.std.proofs.Common.{◌≡◌, List, [], ◌∷◌, ◌++◌, Option, None, if◌then◌else◌, refl}
use Rattle.std.specs.List.{All}
use Rattle.std.proofs.lemmas.List.Elements.{All-nil, All-cons, All-head, All-tail, All-append}
use Rattle.fluent_grammar.specs.Words.{Text}
use Rattle.fluent_grammar.specs.Tree as t
use Rattle.fluent_grammar.specs.Tree.{Elements, Expression, Variants, VariantKey, Inline, Arguments, Inlines, Nameds, MaybeArguments}
use Rattle.fluent_meaning.specs.Ids.{Meaning}
use Rattle.lint_findings.specs.References.{elements_references, expression_references, variants_references, inline_references, maybe_references, arguments_references, inlines_references, nameds_references, reference_error}
use Rattle.lint_findings.specs.Flaws.{elements_selects, expression_selects, variants_selects, inline_selects, maybe_selects, arguments_selects, inlines_selects, nameds_selects}
use Rattle.lint_findings.specs.Nodes.{Node, expression, select, repeated_key, elements_nodes, expression_nodes, variants_nodes, inline_nodes, maybe_nodes, arguments_nodes, inlines_nodes, nameds_nodes, is_literal}
use Rattle.lint_findings.proofs.Lists.{all_left, all_right}
use Rattle.lint_findings.proofs.RequestErrors.{HasDefault}

module _ {F : Type 0} (meaning : Text → Option (Meaning F)) where
  -- a reference has its target
  abbrev pub IsFound : Inline → Type 0
  IsFound i = reference_error meaning i ≡ None

  -- a node without a resolver error
  abbrev pub IsResolved : Node → Type 0
  IsResolved (expression i) = IsFound i
  IsResolved (select i vs) = HasDefault vs
  IsResolved (repeated_key k) = Unit {0}

  abbrev pub AreResolved : List Inline → List Variants → Type 0
  AreResolved is vss = All IsFound is × All HasDefault vss

  none : AreResolved [] []
  none = (All-nil IsFound, All-nil HasDefault)

  both : (is js : List Inline) (us vss : List Variants) → AreResolved is us → AreResolved js vss → AreResolved (is ++ js) (us ++ vss)
  both is js us vss h k = (All-append IsFound is js h.0 k.0, All-append HasDefault us vss h.1 k.1)

  first : (i : Inline) (is : List Inline) (vss : List Variants) → IsFound i → AreResolved is vss → AreResolved (i ∷ is) vss
  first i is vss h k = (All-cons IsFound i is h k.0, k.1)

  abbrev Resolved : List Node → Type 0
  Resolved nodes = All IsResolved nodes

  -- a named argument and those after it: a literal has no node
  module _ (ns : Nameds) (after : Resolved (nameds_nodes ns) → AreResolved (nameds_references ns) (nameds_selects ns)) where
    abbrev Hold : Inline → Type 0
    Hold e = Resolved (inline_nodes e) → AreResolved (inline_references e) (inline_selects e)

    value : (e : Inline) → Hold e → Resolved (inline_nodes e ++ nameds_nodes ns) → AreResolved (inline_references e ++ nameds_references ns) (inline_selects e ++ nameds_selects ns)
    value e here h =
        both (inline_references e) (nameds_references ns) (inline_selects e) (nameds_selects ns)
        (here (all_left IsResolved (inline_nodes e) (nameds_nodes ns) h)) (after (all_right IsResolved (inline_nodes e) (nameds_nodes ns) h))

    named : (e : Inline) → Hold e → Resolved ((if is_literal e then [] else inline_nodes e) ++ nameds_nodes ns) →
        AreResolved (inline_references e ++ nameds_references ns) (inline_selects e ++ nameds_selects ns)
    named (t.string_literal y) here h = after h
    named (t.number_literal y) here h = after h
    named (t.function_reference id a) here h = value (t.function_reference id a) here h
    named (t.message_reference id a) here h = value (t.message_reference id a) here h
    named (t.term_reference id a c) here h = value (t.term_reference id a c) here h
    named (t.variable_reference y) here h = value (t.variable_reference y) here h
    named (t.nested e) here h = value (t.nested e) here h

  mutual
    pub elements_resolved : (es : Elements) → Resolved (elements_nodes es) → AreResolved (elements_references es) (elements_selects es)
    elements_resolved t.no_elements h = none
    elements_resolved (t.text x es) h = elements_resolved es h
    elements_resolved (t.placeable e es) h =
        both (expression_references e) (elements_references es) (expression_selects e) (elements_selects es)
        (expression_resolved e (all_left IsResolved (expression_nodes e) (elements_nodes es) h)) (elements_resolved es (all_right IsResolved (expression_nodes e) (elements_nodes es) h))

    expression_resolved : (e : Expression) → Resolved (expression_nodes e) → AreResolved (expression_references e) (expression_selects e)
    expression_resolved (t.inline i) h = inline_resolved i h
    expression_resolved (t.select i vs) h =
        let rest = All-tail IsResolved (select i vs) (inline_nodes i ++ variants_nodes [] vs) h in
        let selector = inline_resolved i (all_left IsResolved (inline_nodes i) (variants_nodes [] vs) rest) in
        let variants = variants_resolved [] vs (all_right IsResolved (inline_nodes i) (variants_nodes [] vs) rest) in
        both (inline_references i) (variants_references vs) (inline_selects i) (vs ∷ variants_selects vs) selector
        (variants.0, All-cons HasDefault vs (variants_selects vs) (All-head IsResolved (select i vs) (inline_nodes i ++ variants_nodes [] vs) h) variants.1)

    variants_resolved : (keys : List VariantKey) (vs : Variants) → Resolved (variants_nodes keys vs) → AreResolved (variants_references vs) (variants_selects vs)
    variants_resolved keys t.no_variants h = none
    variants_resolved keys (t.variant k es d vs) h =
        let rest = all_right IsResolved _ (elements_nodes es ++ variants_nodes (k ∷ keys) vs) h in
        both (elements_references es) (variants_references vs) (elements_selects es) (variants_selects vs)
        (elements_resolved es (all_left IsResolved (elements_nodes es) (variants_nodes (k ∷ keys) vs) rest)) (variants_resolved (k ∷ keys) vs (all_right IsResolved (elements_nodes es) (variants_nodes (k ∷ keys) vs) rest))

    inline_resolved : (i : Inline) → Resolved (inline_nodes i) → AreResolved (inline_references i) (inline_selects i)
    inline_resolved (t.string_literal x) h = none
    inline_resolved (t.number_literal x) h = none
    inline_resolved (t.function_reference id a) h =
        first (t.function_reference id a) (arguments_references a) (arguments_selects a) (All-head IsResolved (expression (t.function_reference id a)) (arguments_nodes a) h)
        (arguments_resolved a (All-tail IsResolved (expression (t.function_reference id a)) (arguments_nodes a) h))
    inline_resolved (t.message_reference id a) h = first (t.message_reference id a) [] [] (All-head IsResolved (expression (t.message_reference id a)) [] h) none
    inline_resolved (t.term_reference id a c) h =
        first (t.term_reference id a c) (maybe_references c) (maybe_selects c) (All-head IsResolved (expression (t.term_reference id a c)) (maybe_nodes c) h)
        (maybe_resolved c (All-tail IsResolved (expression (t.term_reference id a c)) (maybe_nodes c) h))
    inline_resolved (t.variable_reference x) h = first (t.variable_reference x) [] [] refl none
    inline_resolved (t.nested e) h = expression_resolved e h

    maybe_resolved : (c : MaybeArguments) → Resolved (maybe_nodes c) → AreResolved (maybe_references c) (maybe_selects c)
    maybe_resolved t.no_arguments h = none
    maybe_resolved (t.with_arguments a) h = arguments_resolved a h

    arguments_resolved : (a : Arguments) → Resolved (arguments_nodes a) → AreResolved (arguments_references a) (arguments_selects a)
    arguments_resolved (t.arguments ps ns) h =
        both (inlines_references ps) (nameds_references ns) (inlines_selects ps) (nameds_selects ns)
        (inlines_resolved ps (all_left IsResolved (inlines_nodes ps) (nameds_nodes ns) h)) (nameds_resolved ns (all_right IsResolved (inlines_nodes ps) (nameds_nodes ns) h))

    inlines_resolved : (ps : Inlines) → Resolved (inlines_nodes ps) → AreResolved (inlines_references ps) (inlines_selects ps)
    inlines_resolved t.no_inlines h = none
    inlines_resolved (t.positional e ps) h =
        both (inline_references e) (inlines_references ps) (inline_selects e) (inlines_selects ps)
        (inline_resolved e (all_left IsResolved (inline_nodes e) (inlines_nodes ps) h)) (inlines_resolved ps (all_right IsResolved (inline_nodes e) (inlines_nodes ps) h))

    nameds_resolved : (ns : Nameds) → Resolved (nameds_nodes ns) → AreResolved (nameds_references ns) (nameds_selects ns)
    nameds_resolved t.no_nameds h = none
    nameds_resolved (t.named x e ns) h = named ns (λ k. nameds_resolved ns k) e (λ k. inline_resolved e k) h
