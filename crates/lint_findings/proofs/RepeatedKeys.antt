-- A variant that has the key of an earlier one never matches, and the nodes that are repeated keys are of such variants.
use Rattle.std.proofs.Common.{◌≡◌, ℕ, zero, suc, Bool, true, false, if◌then◌else◌, List, [], ◌∷◌, ◌++◌, Option, Some, refl, sym, ap, ◌∙◌}
use Rattle.std.specs.Prelude.{◌||◌}
use Rattle.std.specs.List.{All, Contains}
use Rattle.std.proofs.lemmas.List.Elements.{All-nil, All-cons, All-head, All-tail, All-append, All-weaker, All-contains_itself, Contains-append_left, Contains-append_right}
use Rattle.fluent_grammar.specs.Tree as t
use Rattle.fluent_grammar.specs.Tree.{Elements, Expression, Variants, VariantKey, Inline, Arguments, Inlines, Nameds, MaybeArguments}
use Rattle.fluent_value.specs.Matching.{Plurals, matches}
use Rattle.fluent_value.specs.Value.{Value}
use Rattle.fluent_meaning.specs.Choice.{first_match, key_value}
use Rattle.fluent_meaning.specs.Same.{same_key}
use Rattle.fluent_meaning.proofs.SameDecides.{key-decides}
use Rattle.lint_findings.specs.Flaws.{is_key_among, elements_selects, expression_selects, variants_selects, inline_selects, maybe_selects, arguments_selects, inlines_selects, nameds_selects}
use Rattle.lint_findings.specs.Nodes.{Node, expression, select, repeated_key, is_literal, elements_nodes, expression_nodes, variants_nodes, inline_nodes, maybe_nodes, arguments_nodes, inlines_nodes, nameds_nodes}
use Rattle.lint_findings.specs.FindingLaws.{variant_key, without_variant, NeverMatches}

-- The variant with this index has this key, and an earlier one has it, too, or it is among these.
abbrev pub IsRepeated : List VariantKey → ℕ → Variants → VariantKey → Type 0
IsRepeated keys n t.no_variants key = ⊥
IsRepeated keys zero (t.variant k es d vs) key = (k ≡ key) × (is_key_among k keys ≡ true)
IsRepeated keys (suc n) (t.variant k es d vs) key = IsRepeated (k ∷ keys) n vs key

pub has_key : (keys : List VariantKey) (n : ℕ) (vs : Variants) (key : VariantKey) → IsRepeated keys n vs key → variant_key n vs ≡ Some key
has_key keys n t.no_variants key h = absurd h
has_key keys zero (t.variant k es d vs) key h = ap Some h.0
has_key keys (suc n) (t.variant k es d vs) key h = has_key (k ∷ keys) n vs key h

-- ---- it never matches

module _ {S : Type 0} (plurals : Plurals) (v : Value S) where
  abbrev match : VariantKey → Bool
  match k = matches plurals (key_value k) v

  abbrev Misses : VariantKey → Type 0
  Misses k = match k ≡ false

  among_step : (k l : VariantKey) (rest b : Bool) → same_key k l ≡ b → Misses l → (rest ≡ true → Misses k) → (b || rest) ≡ true → Misses k
  among_step k l rest true same here later e = ap match ((key-decides k l).0 same) ∙ here
  among_step k l rest false same here later e = later e

  -- a key among those that don't match doesn't match
  among_misses : (k : VariantKey) (ks : List VariantKey) → All Misses ks → is_key_among k ks ≡ true → Misses k
  among_misses k [] h e = absurd cc
  among_misses k (l ∷ ks) h e = among_step k l (is_key_among k ks) (same_key k l) refl (All-head Misses l ks h) (among_misses k ks (All-tail Misses l ks h)) e

  matched : (b : Bool) (es : Elements) (o p : Option Elements) → (b ≡ false → o ≡ p) → (if b then Some es else o) ≡ (if b then Some es else p)
  matched true es o p h = refl
  matched false es o p h = h refl

  unmatched : (keys : List VariantKey) (n : ℕ) (vs : Variants) (key : VariantKey) → All Misses keys → IsRepeated keys n vs key → first_match plurals v (without_variant n vs) ≡ first_match plurals v vs
  unmatched keys n t.no_variants key h r = absurd r
  unmatched keys zero (t.variant k es d vs) key h r = sym (ap (λ b. if b then Some es else first_match plurals v vs) (among_misses k keys h r.1))
  unmatched keys (suc n) (t.variant k es d vs) key h r =
      matched (match k) es (first_match plurals v (without_variant n vs)) (first_match plurals v vs) (λ miss. unmatched (k ∷ keys) n vs key (All-cons Misses k keys miss h) r)

pub never_matches : {S : Type 0} (n : ℕ) (vs : Variants) (key : VariantKey) → IsRepeated [] n vs key → NeverMatches S n vs
never_matches n vs key h plurals v = unmatched plurals v [] n vs key (All-nil (Misses plurals v)) h

-- ---- the nodes of patterns

-- a node that is a repeated key is that of a variant of one of these selects
abbrev pub IsOfSelects : List Variants → Node → Type 0
IsOfSelects vss (expression i) = Unit {0}
IsOfSelects vss (select i vs) = Unit {0}
IsOfSelects vss (repeated_key key) = (vs : Variants) × (n : ℕ) × (Contains vss vs × IsRepeated [] n vs key)

abbrev pub AreAmong : List Variants → List Variants → Type 0
AreAmong us vss = (vs : Variants) → Contains us vs → Contains vss vs

abbrev AreOf : List Variants → List Node → Type 0
AreOf vss nodes = All (IsOfSelects vss) nodes

of_more : (us vss : List Variants) → AreAmong us vss → (node : Node) → IsOfSelects us node → IsOfSelects vss node
of_more us vss among (expression i) h = tt
of_more us vss among (select i vs) h = tt
of_more us vss among (repeated_key key) h = (h.0, h.1, (among h.0 h.2.0, h.2.1))

pub more : (us vss : List Variants) (nodes : List Node) → AreAmong us vss → AreOf us nodes → AreOf vss nodes
more us vss nodes among h = All-weaker (IsOfSelects us) (IsOfSelects vss) (of_more us vss among) nodes h

in_left : (us vss : List Variants) → AreAmong us (us ++ vss)
in_left us vss vs h = Contains-append_left us vss vs h

in_right : (us vss : List Variants) → AreAmong vss (us ++ vss)
in_right us vss vs h = Contains-append_right us vss vs h

two : (us vss : List Variants) (ms ns : List Node) → AreOf us ms → AreOf vss ns → AreOf (us ++ vss) (ms ++ ns)
two us vss ms ns h k = All-append (IsOfSelects (us ++ vss)) ms ns (more us (us ++ vss) ms (in_left us vss) h) (more vss (us ++ vss) ns (in_right us vss) k)

none : AreOf [] []
none = All-nil (IsOfSelects [])

also : (i : Inline) (vss : List Variants) (nodes : List Node) → AreOf vss nodes → AreOf vss (expression i ∷ nodes)
also i vss nodes h = All-cons (IsOfSelects vss) (expression i) nodes tt h

first_is_there : (vs : Variants) (vss : List Variants) → Contains (vs ∷ vss) vs
first_is_there vs vss = All-head (Contains (vs ∷ vss)) vs vss (All-contains_itself (vs ∷ vss))

-- the key of one variant
own_key : (vss : List Variants) (k : VariantKey) (keys : List VariantKey) (b : Bool) → is_key_among k keys ≡ b → (is_key_among k keys ≡ true → IsOfSelects vss (repeated_key k)) → AreOf vss (if b then repeated_key k ∷ [] else [])
own_key vss k keys true is h = All-cons (IsOfSelects vss) (repeated_key k) [] (h is) (All-nil (IsOfSelects vss))
own_key vss k keys false is h = All-nil (IsOfSelects vss)

unless_literal : (b : Bool) (vss : List Variants) (nodes : List Node) → AreOf vss nodes → AreOf vss (if b then [] else nodes)
unless_literal true vss nodes h = All-nil (IsOfSelects vss)
unless_literal false vss nodes h = h

mutual
  pub elements_known : (es : Elements) → AreOf (elements_selects es) (elements_nodes es)
  elements_known t.no_elements = none
  elements_known (t.text x es) = elements_known es
  elements_known (t.placeable e es) = two (expression_selects e) (elements_selects es) (expression_nodes e) (elements_nodes es) (expression_known e) (elements_known es)

  expression_known : (e : Expression) → AreOf (expression_selects e) (expression_nodes e)
  expression_known (t.inline i) = inline_known i
  expression_known (t.select i vs) =
      let own = vs ∷ variants_selects vs in
      let all = inline_selects i ++ own in
      All-cons (IsOfSelects all) (select i vs) (inline_nodes i ++ variants_nodes [] vs) tt
      (All-append (IsOfSelects all) (inline_nodes i) (variants_nodes [] vs) (more (inline_selects i) all (inline_nodes i) (in_left (inline_selects i) own) (inline_known i))
      (variants_known all [] vs (λ key n r. (vs, n, (in_right (inline_selects i) own vs (first_is_there vs (variants_selects vs)), r)))
      (λ us h. in_right (inline_selects i) own us (in_right (vs ∷ []) (variants_selects vs) us h))))

  -- variants after those with these keys, at the end of a select that is known
  variants_known : (all : List Variants) (keys : List VariantKey) (vs : Variants) → ((key : VariantKey) (n : ℕ) → IsRepeated keys n vs key → IsOfSelects all (repeated_key key)) →
      AreAmong (variants_selects vs) all → AreOf all (variants_nodes keys vs)
  variants_known all keys t.no_variants of among = All-nil (IsOfSelects all)
  variants_known all keys (t.variant k es d vs) of among =
      All-append (IsOfSelects all) (if is_key_among k keys then repeated_key k ∷ [] else []) _ (own_key all k keys (is_key_among k keys) refl (λ is. of k zero (refl, is)))
      (All-append (IsOfSelects all) (elements_nodes es) (variants_nodes (k ∷ keys) vs) (more (elements_selects es) all (elements_nodes es) (λ us h. among us (in_left (elements_selects es) (variants_selects vs) us h)) (elements_known es))
      (variants_known all (k ∷ keys) vs (λ key n r. of key (suc n) r) (λ us h. among us (in_right (elements_selects es) (variants_selects vs) us h))))

  inline_known : (i : Inline) → AreOf (inline_selects i) (inline_nodes i)
  inline_known (t.string_literal x) = also (t.string_literal x) [] [] none
  inline_known (t.number_literal x) = also (t.number_literal x) [] [] none
  inline_known (t.function_reference id a) = also (t.function_reference id a) (arguments_selects a) (arguments_nodes a) (arguments_known a)
  inline_known (t.message_reference id a) = also (t.message_reference id a) [] [] none
  inline_known (t.term_reference id a c) = also (t.term_reference id a c) (maybe_selects c) (maybe_nodes c) (maybe_known c)
  inline_known (t.variable_reference x) = also (t.variable_reference x) [] [] none
  inline_known (t.nested e) = expression_known e

  maybe_known : (c : MaybeArguments) → AreOf (maybe_selects c) (maybe_nodes c)
  maybe_known t.no_arguments = none
  maybe_known (t.with_arguments a) = arguments_known a

  arguments_known : (a : Arguments) → AreOf (arguments_selects a) (arguments_nodes a)
  arguments_known (t.arguments ps ns) = two (inlines_selects ps) (nameds_selects ns) (inlines_nodes ps) (nameds_nodes ns) (inlines_known ps) (nameds_known ns)

  inlines_known : (ps : Inlines) → AreOf (inlines_selects ps) (inlines_nodes ps)
  inlines_known t.no_inlines = none
  inlines_known (t.positional e ps) = two (inline_selects e) (inlines_selects ps) (inline_nodes e) (inlines_nodes ps) (inline_known e) (inlines_known ps)

  nameds_known : (ns : Nameds) → AreOf (nameds_selects ns) (nameds_nodes ns)
  nameds_known t.no_nameds = none
  nameds_known (t.named x e ns) =
      two (inline_selects e) (nameds_selects ns) (if is_literal e then [] else inline_nodes e) (nameds_nodes ns) (unless_literal (is_literal e) (inline_selects e) (inline_nodes e) (inline_known e)) (nameds_known ns)
