-- The first reference that never ends, among the nodes of a pattern, is the one that its hint names.
use Rattle.std.proofs.Common.{◌≡◌, ◌∙◌, Bool, true, false, if◌then◌else◌, List, [], ◌∷◌, ◌++◌, ◌||◌, Option, Some, None, option_map, refl, sym, ap}
use Rattle.std.specs.Prelude.{is_some, codes}
use Rattle.std.specs.List.{list_any, flat_map}
use Rattle.fluent_grammar.specs.Words.{Text}
use Rattle.fluent_grammar.specs.Tree as t
use Rattle.fluent_grammar.specs.Tree.{Elements, Expression, Variants, VariantKey, Inline, Arguments, Inlines, Nameds, MaybeArguments}
use Rattle.fluent_meaning.specs.Fallback.{inline_fallback}
use Rattle.fluent_meaning.specs.Ids.{Ids, find}
use Rattle.fluent_meaning.specs.Same.{same_key}
use Rattle.lint_findings.specs.SyntaxErrors.{in_backticks}
use Rattle.lint_findings.specs.FlawHints.{is_endless, never_ends, endless_hint, goes_on_text}
use Rattle.lint_findings.specs.Nodes.{Node, expression, repeated_key, is_literal, elements_nodes, expression_nodes, variants_nodes, inline_nodes, maybe_nodes, arguments_nodes, inlines_nodes, nameds_nodes}
use Rattle.lint_findings.specs.References.{reference_patterns, elements_references, expression_references, variants_references, inline_references, maybe_references, arguments_references, inlines_references, nameds_references}
use Rattle.lint_nodes.specs.Marks.{is_entered}
use Rattle.lint_entries.specs.FirstEndless.{first_or, entered, first_entered}

first_assoc : (a b c : Option Text) → first_or (first_or a b) c ≡ first_or a (first_or b c)
first_assoc None b c = refl
first_assoc (Some x) b c = refl

module _ (ids : Ids (Unit {0})) where
  abbrev pub first_reference : List Inline → Option Text
  first_reference [] = None
  first_reference (i ∷ is) = first_or (entered ids (expression i)) (first_reference is)

  references-++ : (xs ys : List Inline) → first_reference (xs ++ ys) ≡ first_or (first_reference xs) (first_reference ys)
  references-++ [] ys = refl
  references-++ (x ∷ xs) ys = ap (first_or (entered ids (expression x))) (references-++ xs ys) ∙ sym (first_assoc (entered ids (expression x)) (first_reference xs) (first_reference ys))

  nodes-++ : (xs ys : List Node) → first_entered ids (xs ++ ys) ≡ first_or (first_entered ids xs) (first_entered ids ys)
  nodes-++ [] ys = refl
  nodes-++ (x ∷ xs) ys = ap (first_or (entered ids x)) (nodes-++ xs ys) ∙ sym (first_assoc (entered ids x) (first_entered ids xs) (first_entered ids ys))

  both : (xs ys : List Inline) (ms ns : List Node) → first_reference xs ≡ first_entered ids ms → first_reference ys ≡ first_entered ids ns → first_reference (xs ++ ys) ≡ first_entered ids (ms ++ ns)
  both xs ys ms ns p q = references-++ xs ys ∙ ap (λ z. first_or z (first_reference ys)) p ∙ ap (first_or (first_entered ids ms)) q ∙ sym (nodes-++ ms ns)

  key_skipped : (b : Bool) (k : VariantKey) (ns : List Node) → first_entered ids ns ≡ first_entered ids ((if b then repeated_key k ∷ [] else []) ++ ns)
  key_skipped true k ns = refl
  key_skipped false k ns = refl

  literal_skipped : (e : Inline) → first_reference (inline_references e) ≡ first_entered ids (inline_nodes e) → first_reference (inline_references e) ≡ first_entered ids (if is_literal e then [] else inline_nodes e)
  literal_skipped (t.string_literal x) h = refl
  literal_skipped (t.number_literal x) h = refl
  literal_skipped (t.function_reference id a) h = h
  literal_skipped (t.message_reference id a) h = h
  literal_skipped (t.term_reference id a c) h = h
  literal_skipped (t.variable_reference x) h = h
  literal_skipped (t.nested e) h = h

  mutual
    pub elements_same : (es : Elements) → first_reference (elements_references es) ≡ first_entered ids (elements_nodes es)
    elements_same t.no_elements = refl
    elements_same (t.text x es) = elements_same es
    elements_same (t.placeable e es) = both (expression_references e) (elements_references es) (expression_nodes e) (elements_nodes es) (expression_same e) (elements_same es)

    expression_same : (e : Expression) → first_reference (expression_references e) ≡ first_entered ids (expression_nodes e)
    expression_same (t.select i vs) = both (inline_references i) (variants_references vs) (inline_nodes i) (variants_nodes [] vs) (inline_same i) (variants_same [] vs)
    expression_same (t.inline i) = inline_same i

    variants_same : (keys : List VariantKey) (vs : Variants) → first_reference (variants_references vs) ≡ first_entered ids (variants_nodes keys vs)
    variants_same keys t.no_variants = refl
    variants_same keys (t.variant k es d vs) =
        both (elements_references es) (variants_references vs) (elements_nodes es) (variants_nodes (k ∷ keys) vs) (elements_same es) (variants_same (k ∷ keys) vs)
        ∙ key_skipped (list_any (same_key k) keys) k (elements_nodes es ++ variants_nodes (k ∷ keys) vs)

    inline_same : (i : Inline) → first_reference (inline_references i) ≡ first_entered ids (inline_nodes i)
    inline_same (t.string_literal x) = refl
    inline_same (t.number_literal x) = refl
    inline_same (t.function_reference id a) = ap (first_or (entered ids (expression (t.function_reference id a)))) (arguments_same a)
    inline_same (t.message_reference id a) = refl
    inline_same (t.term_reference id a c) = ap (first_or (entered ids (expression (t.term_reference id a c)))) (maybe_same c)
    inline_same (t.variable_reference x) = refl
    inline_same (t.nested e) = expression_same e

    maybe_same : (c : MaybeArguments) → first_reference (maybe_references c) ≡ first_entered ids (maybe_nodes c)
    maybe_same t.no_arguments = refl
    maybe_same (t.with_arguments a) = arguments_same a

    arguments_same : (a : Arguments) → first_reference (arguments_references a) ≡ first_entered ids (arguments_nodes a)
    arguments_same (t.arguments ps ns) = both (inlines_references ps) (nameds_references ns) (inlines_nodes ps) (nameds_nodes ns) (inlines_same ps) (nameds_same ns)

    inlines_same : (ps : Inlines) → first_reference (inlines_references ps) ≡ first_entered ids (inlines_nodes ps)
    inlines_same t.no_inlines = refl
    inlines_same (t.positional e ps) = both (inline_references e) (inlines_references ps) (inline_nodes e) (inlines_nodes ps) (inline_same e) (inlines_same ps)

    nameds_same : (ns : Nameds) → first_reference (nameds_references ns) ≡ first_entered ids (nameds_nodes ns)
    nameds_same t.no_nameds = refl
    nameds_same (t.named x e ns) =
        both (inline_references e) (nameds_references ns) (if is_literal e then [] else inline_nodes e) (nameds_nodes ns) (literal_skipped e (inline_same e)) (nameds_same ns)

  abbrev pub goes : Text → Text
  goes x = goes_on_text x

  hint_step : (b : Bool) (x : Text) (hint : Option Text) (later : Option Text) → hint ≡ option_map goes later → (if b then Some (goes x) else hint) ≡ option_map goes (first_or (if b then Some x else None) later)
  hint_step true x hint later h = refl
  hint_step false x hint later h = h

  hint_first : (is : List Inline) → endless_hint ids is ≡ option_map goes (first_reference is)
  hint_first [] = refl
  hint_first (i ∷ is) = hint_step (is_entered ids i) (inline_fallback i) (endless_hint ids is) (first_reference is) (hint_first is)

  any-++ : (xs ys : List Elements) → list_any (is_endless ids) (xs ++ ys) ≡ (list_any (is_endless ids) xs || list_any (is_endless ids) ys)
  any-++ [] ys = refl
  any-++ (x ∷ xs) ys = step (is_endless ids x) (any-++ xs ys)
    where
      step : (b : Bool) → list_any (is_endless ids) (xs ++ ys) ≡ (list_any (is_endless ids) xs || list_any (is_endless ids) ys) → (b || list_any (is_endless ids) (xs ++ ys)) ≡ ((b || list_any (is_endless ids) xs) || list_any (is_endless ids) ys)
      step true h = refl
      step false h = h

  some_step : (b : Bool) (x : Text) (later : Option Text) (c : Bool) → c ≡ is_some later → (b || c) ≡ is_some (first_or (if b then Some x else None) later)
  some_step true x later c h = refl
  some_step false x later c h = h

  ends_first : (is : List Inline) → list_any (is_endless ids) (flat_map (reference_patterns (find ids)) is) ≡ is_some (first_reference is)
  ends_first [] = refl
  ends_first (i ∷ is) =
      any-++ (reference_patterns (find ids) i) (flat_map (reference_patterns (find ids)) is)
      ∙ some_step (is_entered ids i) (inline_fallback i) (first_reference is) (list_any (is_endless ids) (flat_map (reference_patterns (find ids)) is)) (ends_first is)

  -- whether the references of a pattern never end, and its hint, by its nodes
  pub never_ends_by : (es : Elements) → never_ends ids es ≡ is_some (first_entered ids (elements_nodes es))
  never_ends_by es = ends_first (elements_references es) ∙ ap is_some (elements_same es)

  pub hint_by : (es : Elements) → endless_hint ids (elements_references es) ≡ option_map goes (first_entered ids (elements_nodes es))
  hint_by es = hint_first (elements_references es) ∙ ap (option_map goes) (elements_same es)
