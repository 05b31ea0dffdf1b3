-- What it means that a select lacks a plural category, as a statement.
use Rattle.std.specs.Prelude.{◌≡◌, ℕ, ◌<◌}
use Rattle.std.specs.List.{Contains}
use Rattle.fluent_grammar.specs.Tree as t
use Rattle.fluent_grammar.specs.Tree.{Inline, Variants}
use Rattle.fluent_number.specs.declared.plural.PluralCategory.{PluralCategory}
use Rattle.fluent_number.specs.declared.plural.PluralRuleType.{PluralRuleType}
use Rattle.fluent_plurals.specs.declared.plurals.LanguagePlurals.{LanguagePlurals}
use Rattle.fluent_value.specs.Matching.{category_text}
use Rattle.lint_findings.specs.MissingCategories.{missing_categories, selector_rule, variant_keys, whole_category}

-- a variant is for a category
abbrev pub HasVariantFor : Variants → PluralCategory → Type 0
HasVariantFor vs c = Contains (variant_keys vs) (t.identifier_key (category_text c))

-- some whole number below 1,000 has a category by a rule: as a count, or as an ordinal
abbrev pub IsCommonNumber : LanguagePlurals → PluralRuleType → PluralCategory → Type 0
IsCommonNumber plurals rule c = (n : ℕ) × n < 1000 × (whole_category plurals rule n ≡ c)

-- A select has no variant for a category that it is said to lack, and by the rule of its selector some whole number below
-- 1,000 has it.
abbrev pub MissingCategoriesAreTaken : Type 0
MissingCategoriesAreTaken =
    (plurals : LanguagePlurals) (i : Inline) (vs : Variants) (c : PluralCategory) → Contains (missing_categories plurals i vs) c →
    (HasVariantFor vs c → ⊥) × IsCommonNumber plurals (selector_rule i) c
