-- What one answer may take: how many placeables are counted, and how many patterns entered.
use Rattle.std.specs.Prelude.{ℕ, suc, ◌+◌, ◌*◌, max, List, [], ◌∷◌, Option, Some, None}
use Rattle.fluent_grammar.specs.Tree as t
use Rattle.fluent_grammar.specs.Tree.{Elements, Expression, Variants, Inline, Arguments, Inlines, Nameds, MaybeArguments}
use Rattle.fluent_errors.specs.Errors.{Unresolved, unknown, no_value, missing_default, cyclic, too_many_placeables}
use Rattle.fluent_meaning.specs.Ids.{Ids, Meaning, number_function, function, message, term}
use Rattle.fluent_meaning.specs.Steps.{Done}

-- how often too many placeables are reported
abbrev pub times_too_many : List Unresolved → ℕ
times_too_many [] = 0
times_too_many (unknown r ∷ xs) = times_too_many xs
times_too_many (no_value id ∷ xs) = times_too_many xs
times_too_many (missing_default ∷ xs) = times_too_many xs
times_too_many (cyclic ∷ xs) = times_too_many xs
times_too_many (too_many_placeables ∷ xs) = suc (times_too_many xs)

-- the placeables that a step counts: those that it opens, and the one that is too many
abbrev pub placeables_of : {A : Type 0} → Done A → ℕ
placeables_of a = a.opened + times_too_many a.errors

abbrev mutual
  -- message references, term references and selects of an expression; those of a variant's pattern stand in its own placeables
  pub expression_references : Expression → ℕ
  expression_references (t.select i vs) = suc (inline_references i)
  expression_references (t.inline i) = inline_references i

  pub inline_references : Inline → ℕ
  inline_references (t.string_literal x) = 0
  inline_references (t.number_literal x) = 0
  inline_references (t.function_reference id a) = arguments_references a
  inline_references (t.message_reference id a) = 1
  inline_references (t.term_reference id a c) = suc (maybe_references c)
  inline_references (t.variable_reference x) = 0
  inline_references (t.nested e) = expression_references e

  pub maybe_references : MaybeArguments → ℕ
  maybe_references t.no_arguments = 0
  maybe_references (t.with_arguments a) = arguments_references a

  pub arguments_references : Arguments → ℕ
  arguments_references (t.arguments ps ns) = inlines_references ps + nameds_references ns

  pub inlines_references : Inlines → ℕ
  inlines_references t.no_inlines = 0
  inlines_references (t.positional e ps) = inline_references e + inlines_references ps

  pub nameds_references : Nameds → ℕ
  nameds_references t.no_nameds = 0
  nameds_references (t.named x e ns) = inline_references e + nameds_references ns

abbrev mutual
  -- the most of them in one placeable of a pattern, the placeables of variants at any depth among them
  pub most_references : Elements → ℕ
  most_references t.no_elements = 0
  most_references (t.text x es) = most_references es
  most_references (t.placeable e es) = max (expression_references e) (max (most_in_variants e) (most_references es))

  pub most_in_variants : Expression → ℕ
  most_in_variants (t.select i vs) = max (most_in_inline i) (most_of_variants vs)
  most_in_variants (t.inline i) = most_in_inline i

  pub most_of_variants : Variants → ℕ
  most_of_variants t.no_variants = 0
  most_of_variants (t.variant k es d vs) = max (most_references es) (most_of_variants vs)

  pub most_in_inline : Inline → ℕ
  most_in_inline (t.string_literal x) = 0
  most_in_inline (t.number_literal x) = 0
  most_in_inline (t.function_reference id a) = most_in_arguments a
  most_in_inline (t.message_reference id a) = 0
  most_in_inline (t.term_reference id a c) = most_in_maybe c
  most_in_inline (t.variable_reference x) = 0
  most_in_inline (t.nested e) = most_in_variants e

  pub most_in_maybe : MaybeArguments → ℕ
  most_in_maybe t.no_arguments = 0
  most_in_maybe (t.with_arguments a) = most_in_arguments a

  pub most_in_arguments : Arguments → ℕ
  most_in_arguments (t.arguments ps ns) = max (most_in_inlines ps) (most_in_nameds ns)

  pub most_in_inlines : Inlines → ℕ
  most_in_inlines t.no_inlines = 0
  most_in_inlines (t.positional e ps) = max (most_in_inline e) (most_in_inlines ps)

  pub most_in_nameds : Nameds → ℕ
  most_in_nameds t.no_nameds = 0
  most_in_nameds (t.named x e ns) = max (most_in_inline e) (most_in_nameds ns)

abbrev pub value_most : Option Elements → ℕ
value_most None = 0
value_most (Some es) = most_references es

abbrev pub attributes_most : List t.Attribute → ℕ
attributes_most [] = 0
attributes_most (a ∷ as') = max (most_references a.value) (attributes_most as')

abbrev pub meaning_most : {F : Type 0} → Meaning F → ℕ
meaning_most number_function = 0
meaning_most (function f) = 0
meaning_most (message m) = max (value_most m.value) (attributes_most m.attributes)
meaning_most (term m) = max (most_references m.value) (attributes_most m.attributes)

abbrev pub ids_most : {F : Type 0} → Ids F → ℕ
ids_most [] = 0
ids_most (pair ∷ pairs) = max (meaning_most pair.1) (ids_most pairs)

-- the most that one answer with k placeables to open enters: 1 + k * R, where R is the most references in one placeable of the asked
-- pattern or of the map of ids
abbrev pub most_entered : {F : Type 0} → Ids F → Elements → ℕ → ℕ
most_entered ids es k = 1 + k * max (most_references es) (ids_most ids)
