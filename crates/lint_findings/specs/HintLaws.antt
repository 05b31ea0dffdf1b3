-- What is true of each hint that names something, as statements: it is there, and a near name is a slip away.
use Rattle.std.specs.Prelude.{◌≡◌, List, [], ◌∷◌, ◌++◌, All, Option, Some, codes}
use Rattle.std.specs.List.{Contains}
use Rattle.fluent_grammar.specs.Words.{Text, dollar, dot, hyphen}
use Rattle.fluent_grammar.specs.Tree as t
use Rattle.fluent_errors.specs.Errors.{unknown, no_value, missing_default, cyclic, too_many_placeables, to_function, to_message, to_term, to_variable}
use Rattle.fluent_meaning.specs.Ids.{Ids, message, term, find}
use Rattle.fluent_number.specs.declared.plural.PluralCategory.{PluralCategory}
use Rattle.fluent_number.specs.declared.plural.PluralRuleType.{PluralRuleType}
use Rattle.fluent_plurals.specs.declared.plurals.LanguagePlurals.{LanguagePlurals}
use Rattle.lint_findings.specs.Comparison.{Difference, missing_message, obsolete_message, missing_value, obsolete_value, missing_attribute, obsolete_attribute, unknown_variable, missing_variable, unused_variable, untranslated}
use Rattle.lint_findings.specs.ComparisonFindings.{difference_hint}
use Rattle.lint_findings.specs.FactLaws.{HasVariable, HasVariant, IsCategory, IsAttributeText}
use Rattle.lint_findings.specs.Facts.{Fact, quoted_placeable, unused_argument, unknown_value, lacking_category, nearly_category, node_facts, fact_remark, category_hint, categories_of, other_text, text_hint}
use Rattle.lint_findings.specs.FlawHints.{flaw_hint, untranslated_text}
use Rattle.lint_findings.specs.Flaws.{Flaw, unresolved, duplicate_key}
use Rattle.lint_findings.specs.NearLaws.{AsksFor}
use Rattle.lint_findings.specs.Nodes.{Node}
use Rattle.lint_findings.specs.SyntaxErrors.{in_backticks}

-- ---- hints of references

-- an id stands for a message, or for a term
abbrev pub HasMessage : {F : Type 0} → Ids F → Text → Type 0
HasMessage ids id = (m : t.Message) × (find ids id ≡ Some (message m))

abbrev pub HasTerm : {F : Type 0} → Ids F → Text → Type 0
HasTerm ids id = (m : t.Term) × (find ids id ≡ Some (term m))

-- its message has an attribute
abbrev pub HasAttribute : {F : Type 0} → Ids F → Text → t.Attribute → Type 0
HasAttribute ids id a = (m : t.Message) × (find ids id ≡ Some (message m)) × Contains m.attributes a

-- what the hint says of a message that is missing is so; how a variable is written is so of any name
pub data SaysOfMessage {F : Type 0} (ids reference : Ids F) (id : Text) : Text → Type 0 where
  not_translated : HasMessage reference id → SaysOfMessage ids reference id (untranslated_text id)
  near_message : {hint : Text} → AsksFor (HasMessage ids) [] id hint → SaysOfMessage ids reference id hint
  a_variable : SaysOfMessage ids reference id (codes "a variable is written " ++ in_backticks (dollar ∷ id))
  a_term : HasTerm ids id → SaysOfMessage ids reference id (codes "`-" ++ (id ++ codes "` is a term"))

-- of a term that is missing
pub data SaysOfTerm {F : Type 0} (ids : Ids F) (id : Text) : Text → Type 0 where
  near_term : {hint : Text} → AsksFor (HasTerm ids) (hyphen ∷ []) id hint → SaysOfTerm ids id hint
  a_message : HasMessage ids id → SaysOfTerm ids id (codes "`" ++ (id ++ codes "` is a message"))

-- of a message that has no value
pub data SaysOfValue {F : Type 0} (ids : Ids F) (id : Text) : Text → Type 0 where
  an_attribute : {a : t.Attribute} → HasAttribute ids id a → SaysOfValue ids id (codes "it has the attribute " ++ in_backticks (dot ∷ a.id))

-- What the hint of a flaw says is so; that of a select without a default says how one is written.
abbrev pub SaysOfFlaw : {F : Type 0} → Ids F → Ids F → Flaw → Text → Type 0
SaysOfFlaw ids reference (unresolved (unknown (to_message id a))) hint = SaysOfMessage ids reference id hint
SaysOfFlaw ids reference (unresolved (unknown (to_term id a))) hint = SaysOfTerm ids id hint
SaysOfFlaw ids reference (unresolved (unknown (to_function id))) hint = ⊥
SaysOfFlaw ids reference (unresolved (unknown (to_variable id))) hint = ⊥
SaysOfFlaw ids reference (unresolved (no_value id)) hint = SaysOfValue ids id hint
SaysOfFlaw ids reference (unresolved missing_default) hint = hint ≡ codes "write it before a variant, as `*[other]`"
SaysOfFlaw ids reference (unresolved cyclic) hint = ⊥
SaysOfFlaw ids reference (unresolved too_many_placeables) hint = ⊥
SaysOfFlaw ids reference (duplicate_key k) hint = ⊥

-- What the hint of each flaw says is so.
abbrev pub FlawHintsAreSo : Type 0 → Type 0
FlawHintsAreSo F =
    (ids reference : Ids F) (flaw : Flaw) (hint : Text) → flaw_hint ids reference flaw ≡ Some hint → SaysOfFlaw ids reference flaw hint

-- ---- hints of facts

-- an id stands for a term that has something
abbrev pub HasTermWith : {F : Type 0} → Ids F → Text → (t.Term → Type 0) → Type 0
HasTermWith ids id Has = (m : t.Term) × (find ids id ≡ Some (term m)) × Has m

-- the language has these categories, and no other but `other`
abbrev pub ListsCategories : Option LanguagePlurals → List PluralCategory → Type 0
ListsCategories plurals cs = (language : LanguagePlurals) × (rule : PluralRuleType) × (plurals ≡ Some language) × (cs ≡ categories_of language rule)

-- what the hint of a fact says is so
abbrev pub SaysOfFact : {F : Type 0} → Ids F → Option LanguagePlurals → Fact → Text → Type 0
SaysOfFact ids plurals (quoted_placeable q) hint = hint ≡ codes "inside of quotes nothing is filled in"
SaysOfFact ids plurals (unused_argument id nodes x) hint = HasTermWith ids id (λ m. AsksFor (HasVariable m) [] x hint)
SaysOfFact ids plurals (unknown_value id nodes x raw s) hint = HasTermWith ids id (λ m. AsksFor (HasVariant m x) [] s hint)
SaysOfFact ids plurals (lacking_category cs c) hint = (hint ≡ category_hint cs) × ListsCategories plurals cs
SaysOfFact ids plurals (nearly_category s) hint = AsksFor IsCategory [] s hint
SaysOfFact ids plurals (other_text id name s key) hint = (hint ≡ text_hint s key) × IsAttributeText ids id name s

-- What the hint of each fact of each node says is so.
abbrev pub FactHintsAreSo : Type 0 → Type 0
FactHintsAreSo F = (ids : Ids F) (plurals : Option LanguagePlurals) (node : Node) →
    All (λ fact. (hint : Text) → (fact_remark fact).hint ≡ Some hint → SaysOfFact ids plurals fact hint) (node_facts ids plurals node)

-- ---- hints of differences

-- A hint of a difference names a variable that the message of the reference is shown with.
abbrev pub SaysOfDifference : List Text → Difference → Text → Type 0
SaysOfDifference known (unknown_variable x) hint = AsksFor (Contains known) (dollar ∷ []) x hint
SaysOfDifference known missing_message hint = ⊥
SaysOfDifference known obsolete_message hint = ⊥
SaysOfDifference known missing_value hint = ⊥
SaysOfDifference known obsolete_value hint = ⊥
SaysOfDifference known (missing_attribute a) hint = ⊥
SaysOfDifference known (obsolete_attribute a) hint = ⊥
SaysOfDifference known (missing_variable x) hint = ⊥
SaysOfDifference known (unused_variable x) hint = ⊥
SaysOfDifference known untranslated hint = ⊥

-- What the hint of each difference says is so.
abbrev pub DifferenceHintsAreSo : Type 0
DifferenceHintsAreSo = (known : List Text) (d : Difference) (hint : Text) → difference_hint known d ≡ Some hint → SaysOfDifference known d hint
