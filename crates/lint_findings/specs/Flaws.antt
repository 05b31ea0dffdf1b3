-- What is wrong with the patterns of a catalog.
use Rattle.std.specs.Prelude.{Bool, false, if◌then◌else◌, List, [], ◌∷◌, ◌++◌, map, Option, Some, None}
use Rattle.std.specs.List.{flat_map, list_any}
use Rattle.std.specs.Option.{option_to_list}
use Rattle.fluent_grammar.specs.Words.{Text, hyphen}
use Rattle.fluent_grammar.specs.Tree as t
use Rattle.fluent_grammar.specs.Tree.{Elements, Expression, Variants, VariantKey, Inline, Arguments, Inlines, Nameds, MaybeArguments}
use Rattle.fluent_tidy_laws.specs.Joined.{lists}
use Rattle.fluent_errors.specs.Errors.{Unresolved, missing_default, cyclic}
use Rattle.fluent_meaning.specs.Ids.{Ids, function, find, with_ids, number_pair, entries_by_id}
use Rattle.fluent_meaning.specs.Same.{same_key}
use Rattle.fluent_meaning.specs.Choice.{first_default}
use Rattle.lint_findings.specs.References.{pattern_errors}
use Rattle.lint_findings.specs.Endless.{endless_patterns, is_pattern_among}

-- The ids of a catalog: `NUMBER`, these functions of the program, and the entries of the sources. The first of an id
-- stays. What a function does makes no difference here.
abbrev pub catalog_ids : List Text → List Text → Ids (Unit {0})
catalog_ids functions sources =
    with_ids false (number_pair ∷ []) (map (λ name. (name, function tt)) functions ++ entries_by_id (lists sources))

-- Whose a pattern is: the value's of an entry, or that of an attribute. A term's label is its id with a minus.
pub record Owner : Type 0 where
  pub label : Text
  pub attribute : Option Text

-- what is wrong with a pattern
pub data Flaw : Type 0 where
  -- a resolver error that comes whatever the arguments of a request are
  unresolved : Unresolved → Flaw
  -- an earlier variant of the select has the key
  duplicate_key : VariantKey → Flaw

-- ---- selects

abbrev pub is_key_among : VariantKey → List VariantKey → Bool
is_key_among k ks = list_any (same_key k) ks

-- of variants, after those with these keys
abbrev pub duplicate_keys : List VariantKey → Variants → List Flaw
duplicate_keys before t.no_variants = []
duplicate_keys before (t.variant k es d vs) =
    (if is_key_among k before then duplicate_key k ∷ [] else []) ++ duplicate_keys (k ∷ before) vs

-- by the pattern of the default variant, if there is one
abbrev pub default_flaws : Option Elements → List Flaw
default_flaws None = unresolved missing_default ∷ []
default_flaws (Some es) = []

-- the flaws of a select, by its variants
abbrev pub select_flaws : Variants → List Flaw
select_flaws vs = default_flaws (first_default vs) ++ duplicate_keys [] vs

abbrev mutual
  -- the variants of each select in a pattern, in their order
  pub elements_selects : Elements → List Variants
  elements_selects t.no_elements = []
  elements_selects (t.text x es) = elements_selects es
  elements_selects (t.placeable e es) = expression_selects e ++ elements_selects es

  pub expression_selects : Expression → List Variants
  expression_selects (t.select i vs) = inline_selects i ++ vs ∷ variants_selects vs
  expression_selects (t.inline i) = inline_selects i

  pub variants_selects : Variants → List Variants
  variants_selects t.no_variants = []
  variants_selects (t.variant k es d vs) = elements_selects es ++ variants_selects vs

  pub inline_selects : Inline → List Variants
  inline_selects (t.string_literal x) = []
  inline_selects (t.number_literal x) = []
  inline_selects (t.function_reference id a) = arguments_selects a
  inline_selects (t.message_reference id a) = []
  inline_selects (t.term_reference id a c) = maybe_selects c
  inline_selects (t.variable_reference x) = []
  inline_selects (t.nested e) = expression_selects e

  pub maybe_selects : MaybeArguments → List Variants
  maybe_selects t.no_arguments = []
  maybe_selects (t.with_arguments a) = arguments_selects a

  pub arguments_selects : Arguments → List Variants
  arguments_selects (t.arguments ps ns) = inlines_selects ps ++ nameds_selects ns

  pub inlines_selects : Inlines → List Variants
  inlines_selects t.no_inlines = []
  inlines_selects (t.positional e ps) = inline_selects e ++ inlines_selects ps

  pub nameds_selects : Nameds → List Variants
  nameds_selects t.no_nameds = []
  nameds_selects (t.named x e ns) = inline_selects e ++ nameds_selects ns

-- ---- patterns and entries

-- the flaws of a pattern: of its references, of its selects, and whether its references end
abbrev pub pattern_flaws : {F : Type 0} → Ids F → Elements → List Flaw
pattern_flaws ids es =
    map unresolved (pattern_errors (find ids) es) ++ (flat_map select_flaws (elements_selects es)
    ++ (if is_pattern_among es (endless_patterns ids) then unresolved cyclic ∷ [] else []))

abbrev pub attribute_patterns : Text → List t.Attribute → List (Owner × Elements)
attribute_patterns label attributes =
    map (λ (a : t.Attribute). (record { label = label; attribute = Some a.id }, a.value)) attributes

-- the patterns of an entry, each with its owner
abbrev pub entry_patterns : t.Entry → List (Owner × Elements)
entry_patterns (t.message m) =
    map (λ es. (record { label = m.id; attribute = None }, es)) (option_to_list m.value) ++ attribute_patterns m.id m.attributes
entry_patterns (t.term m) =
    (record { label = hyphen ∷ m.id; attribute = None }, m.value) ∷ attribute_patterns (hyphen ∷ m.id) m.attributes
entry_patterns (t.comment c) = []
entry_patterns (t.group_comment c) = []
entry_patterns (t.resource_comment c) = []
entry_patterns (t.junk s) = []

-- the flaws of the patterns of all entries, in their order
abbrev pub entries_flaws : {F : Type 0} → Ids F → List t.Entry → List (Owner × Flaw)
entries_flaws ids es = flat_map (λ p. map (λ f. (p.0, f)) (pattern_flaws ids p.1)) (flat_map entry_patterns es)

-- the flaws of a catalog
abbrev pub catalog_flaws : List Text → List Text → List (Owner × Flaw)
catalog_flaws functions sources = entries_flaws (catalog_ids functions sources) (lists sources)
