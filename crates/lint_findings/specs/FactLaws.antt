-- What each fact of a node means, and each variable that only the reference shows, as statements.
use Rattle.std.specs.Prelude.{◌≡◌, ℕ, ◌<◌, Bool, false, List, ◌∷◌, drop, All, Option, Some, None}
use Rattle.std.specs.List.{Contains}
use Rattle.fluent_grammar.specs.Words.{Text, quote, is_among}
use Rattle.fluent_grammar.specs.Tree as t
use Rattle.fluent_grammar.specs.Tree.{Elements, Expression, Variants, VariantKey, Inline, Inlines, Nameds, MaybeArguments}
use Rattle.fluent_meaning.specs.Ids.{Ids, message, term, find}
use Rattle.fluent_number.specs.declared.plural.PluralCategory.{PluralCategory}
use Rattle.fluent_number.specs.declared.plural.PluralRuleType.{PluralRuleType}
use Rattle.fluent_plurals.specs.declared.plurals.LanguagePlurals.{LanguagePlurals}
use Rattle.lint_findings.specs.Comparison.{missing_variable, differences, message_patterns, variables_of}
use Rattle.lint_findings.specs.Facts.{Fact, quoted_placeable, unused_argument, unknown_value, lacking_category, nearly_category, categories_of, node_facts, other_text}
use Rattle.lint_findings.specs.FlawWords.{key_text}
use Rattle.lint_findings.specs.MissingCategories.{category_named, variant_keys, whole_category}
use Rattle.lint_findings.specs.NearLaws.{IsSlip}
use Rattle.lint_findings.specs.Nodes.{Node, expression, select}
use Rattle.lint_findings.specs.QuotedLaws.{IsPlaceableAt}
use Rattle.lint_findings.specs.TermUses.{term_nodes}

-- ---- arguments of terms

-- a node refers to the term of this id
abbrev pub IsReferenceTo : Text → Node → Type 0
IsReferenceTo id node = (a : Option Text) × (c : MaybeArguments) × (node ≡ expression (t.term_reference id a c))

-- A text of a term has this variable, as a selector or otherwise.
abbrev pub HasVariable : t.Term → Text → Type 0
HasVariable m x = Contains (term_nodes m) (expression (t.variable_reference x))

-- a select on a variable, in a text of a term, has a variant with this key
abbrev pub HasVariant : t.Term → Text → Text → Type 0
HasVariant m x s =
    (vs : Variants) × (k : VariantKey) × Contains (term_nodes m) (select (t.variable_reference x) vs)
    × Contains (variant_keys vs) k × (key_text k ≡ s)

-- a node refers to a term that has these nodes, and lacks something
abbrev pub RefersToOneWithout : {F : Type 0} → Ids F → Node → Text → List Node → (t.Term → Type 0) → Type 0
RefersToOneWithout ids node id nodes Has =
    IsReferenceTo id node × (m : t.Term) × (find ids id ≡ Some (term m)) × (nodes ≡ term_nodes m) × (Has m → ⊥)

-- ---- attributes of terms

-- a node is a select on this attribute of the term of this id
abbrev pub IsSelectOn : Text → Text → Node → Type 0
IsSelectOn id name node = (c : MaybeArguments) × (vs : Variants) × (node ≡ select (t.term_reference id (Some name) c) vs)

-- the term of this id has an attribute of this name that is this text, and nothing else
abbrev pub IsAttributeText : {F : Type 0} → Ids F → Text → Text → Text → Type 0
IsAttributeText ids id name s =
    (m : t.Term) × (find ids id ≡ Some (term m)) × (a : t.Attribute) × Contains m.attributes a × (a.id ≡ name)
    × (a.value ≡ t.text s t.no_elements)

-- ---- categories

-- A language has a category for none of the whole numbers below 1,000.
abbrev pub IsNeverTaken : LanguagePlurals → PluralRuleType → PluralCategory → Type 0
IsNeverTaken plurals rule c = (n : ℕ) → n < 1000 → whole_category plurals rule n ≡ c → ⊥

-- a text names a plural category: one that CLDR has, whether the language has it or not
abbrev pub IsCategory : Text → Type 0
IsCategory s = (c : PluralCategory) × (category_named s ≡ Some c)

-- ---- facts

-- what is so if this is a fact of a node
abbrev pub IsTrueOf : {F : Type 0} → Ids F → Option LanguagePlurals → Node → Fact → Type 0
IsTrueOf ids plurals node (quoted_placeable q) =
    (raw : Text) × (node ≡ expression (t.string_literal raw)) × IsPlaceableAt (drop q.inside (quote ∷ raw)) q.reference
IsTrueOf ids plurals node (unused_argument id nodes x) = RefersToOneWithout ids node id nodes (λ m. HasVariable m x)
IsTrueOf ids plurals node (unknown_value id nodes x raw s) = RefersToOneWithout ids node id nodes (λ m. HasVariant m x s)
IsTrueOf ids plurals node (lacking_category cs c) =
    (language : LanguagePlurals) × (rule : PluralRuleType) × (plurals ≡ Some language) × IsNeverTaken language rule c
    × (cs ≡ categories_of language rule)
IsTrueOf ids plurals node (nearly_category s) = (category_named s ≡ None) × (near : Text) × IsSlip s near × IsCategory near
IsTrueOf ids plurals node (other_text id name s key) = IsSelectOn id name node × IsAttributeText ids id name s × (key ≡ s → ⊥)

-- Each fact of each node is so.
abbrev pub FactsAreTrue : Type 0 → Type 0
FactsAreTrue F =
    (ids : Ids F) (plurals : Option LanguagePlurals) (node : Node) → All (IsTrueOf ids plurals node) (node_facts ids plurals node)

-- ---- variables that are shown

mutual
  -- A pattern shows a variable in some variant: in a placeable, or given to a function there.
  pub data Shows : Elements → Text → Type 0 where
    in_placeable : {e : Expression} {es : Elements} {x : Text} → ExpressionShows e x → Shows (t.placeable e es) x
    after_placeable : {e : Expression} {es : Elements} {x : Text} → Shows es x → Shows (t.placeable e es) x
    after_text : {s : Text} {es : Elements} {x : Text} → Shows es x → Shows (t.text s es) x

  pub data ExpressionShows : Expression → Text → Type 0 where
    in_variant : {i : Inline} {vs : Variants} {x : Text} → VariantsShow vs x → ExpressionShows (t.select i vs) x
    in_inline : {i : Inline} {x : Text} → InlineShows i x → ExpressionShows (t.inline i) x

  pub data VariantsShow : Variants → Text → Type 0 where
    in_this : {k : VariantKey} {es : Elements} {d : Bool} {vs : Variants} {x : Text} → Shows es x → VariantsShow (t.variant k es d vs) x
    in_later : {k : VariantKey} {es : Elements} {d : Bool} {vs : Variants} {x : Text} → VariantsShow vs x → VariantsShow (t.variant k es d vs) x

  pub data InlineShows : Inline → Text → Type 0 where
    itself : {x : Text} → InlineShows (t.variable_reference x) x
    in_nested : {e : Expression} {x : Text} → ExpressionShows e x → InlineShows (t.nested e) x
    given_to : {id : Text} {ps : Inlines} {ns : Nameds} {x : Text} → InlinesShow ps x → InlineShows (t.function_reference id (t.arguments ps ns)) x

  pub data InlinesShow : Inlines → Text → Type 0 where
    first : {i : Inline} {ps : Inlines} {x : Text} → InlineShows i x → InlinesShow (t.positional i ps) x
    next : {i : Inline} {ps : Inlines} {x : Text} → InlinesShow ps x → InlinesShow (t.positional i ps) x

-- a text of a message shows a variable
abbrev pub MessageShows : t.Message → Text → Type 0
MessageShows o x = (es : Elements) × Contains (message_patterns o) es × Shows es x

-- The message of the reference shows a variable that is none of those which the catalog's is shown with.
abbrev pub IsLost : {F : Type 0} → Ids F → Ids F → Text → Text → Type 0
IsLost ids reference id x =
    (o : t.Message) × (find reference id ≡ Some (message o)) × MessageShows o x × (is_among x (variables_of ids id) ≡ false)

-- Each variable that is reported as missing is lost.
abbrev pub MissingVariablesAreShown : Type 0 → Type 0
MissingVariablesAreShown F =
    (ids reference : Ids F) (id x : Text) → Contains (differences ids reference id) (missing_variable x) → IsLost ids reference id x
