-- The plural categories that a select lacks.
use Rattle.std.specs.Prelude.{ℕ, pos, Bool, false, not, ◌&&◌, ◌||◌, if◌then◌else◌, List, [], ◌∷◌, filter, Option, Some, None, is_some, codes}
use Rattle.std.specs.List.{list_any, range_with_len}
use Rattle.std.specs.Str.{bytes_eq}
use Rattle.fluent_grammar.specs.Escapes.{unescaped}
use Rattle.fluent_grammar.specs.Words.{Text}
use Rattle.fluent_grammar.specs.Tree as t
use Rattle.fluent_grammar.specs.Tree.{Inline, Nameds, Variants, VariantKey}
use Rattle.fluent_number.specs.Number.{Number, number_from_integer}
use Rattle.fluent_number.specs.Reading.{read_number}
use Rattle.fluent_number.specs.Operands.{operands_of}
use Rattle.fluent_number.specs.declared.plural.PluralCategory.{PluralCategory}
use Rattle.fluent_number.specs.declared.plural.PluralCategory.TheVariants.{ZERO, ONE, TWO, FEW, MANY, OTHER}
use Rattle.fluent_number.specs.declared.plural.PluralRuleType.{PluralRuleType}
use Rattle.fluent_number.specs.declared.plural.PluralRuleType.TheVariants.{CARDINAL, ORDINAL}
use Rattle.fluent_value.specs.Matching.{category_text}
use Rattle.fluent_plurals.specs.Plurals.{plurals_by}
use Rattle.fluent_plurals.specs.declared.plurals.LanguagePlurals.{LanguagePlurals}
use Rattle.lint_findings.specs.Builtins.{returns_number}

-- `other` is never missing: each select has a default variant.
abbrev pub categories : List PluralCategory
categories = ZERO ∷ ONE ∷ TWO ∷ FEW ∷ MANY ∷ []

abbrev pub same_category : PluralCategory → PluralCategory → Bool
same_category c d = bytes_eq (category_text c) (category_text d)

-- ---- what a language has

-- the category of a whole number
abbrev pub whole_category : LanguagePlurals → PluralRuleType → ℕ → PluralCategory
whole_category plurals rule n = plurals_by plurals rule (operands_of (number_from_integer (pos n)))

-- Some whole number below 1,000 has the category. Categories that only fractions and larger numbers have are hardly
-- ever translated: `many` in French is for a million.
unfoldable pub is_common : LanguagePlurals → PluralRuleType → PluralCategory → Bool
is_common plurals rule c = list_any (λ n. same_category (whole_category plurals rule n) c) (range_with_len 0 1000)

-- the category of the number that a text is
abbrev pub is_category_of : LanguagePlurals → PluralRuleType → PluralCategory → Option Number → Bool
is_category_of plurals rule c None = false
is_category_of plurals rule c (Some number) = same_category (plurals_by plurals rule (operands_of number)) c

-- Whether a language has a category: some whole number below 1,000 has it, or a million, or one and a half.
abbrev pub is_taken : LanguagePlurals → PluralRuleType → PluralCategory → Bool
is_taken plurals rule c =
    is_common plurals rule c
    || (is_category_of plurals rule c (read_number (codes "1000000"))
    || is_category_of plurals rule c (read_number (codes "1.5")))

-- Whether nothing but `one` and `two` is common beside `other`. Then, as in Hebrew, few nouns have a form for two.
abbrev pub is_lone_two : LanguagePlurals → PluralRuleType → PluralCategory → Bool
is_lone_two plurals rule TWO = not (is_common plurals rule ZERO || (is_common plurals rule FEW || is_common plurals rule MANY))
is_lone_two plurals rule c = false

-- whether a select should have a variant for a category
abbrev pub is_asked : LanguagePlurals → PluralRuleType → PluralCategory → Bool
is_asked plurals rule c = is_common plurals rule c && not (is_lone_two plurals rule c)

-- ---- what a select has

abbrev pub variant_keys : Variants → List VariantKey
variant_keys t.no_variants = []
variant_keys (t.variant k es d vs) = k ∷ variant_keys vs

-- the category that a text names
abbrev pub category_named : Text → Option PluralCategory
category_named s =
    if bytes_eq s (codes "zero") then Some ZERO
    else if bytes_eq s (codes "one") then Some ONE
    else if bytes_eq s (codes "two") then Some TWO
    else if bytes_eq s (codes "few") then Some FEW
    else if bytes_eq s (codes "many") then Some MANY
    else if bytes_eq s (codes "other") then Some OTHER
    else None

abbrev pub is_category_name : Text → Bool
is_category_name s = is_some (category_named s)

abbrev pub is_key_of : PluralCategory → VariantKey → Bool
is_key_of c (t.identifier_key s) = bytes_eq (category_text c) s
is_key_of c (t.number_key s) = false

abbrev pub has_category : List VariantKey → PluralCategory → Bool
has_category keys c = list_any (is_key_of c) keys

abbrev pub is_ordinal_text : Inline → Bool
is_ordinal_text (t.string_literal raw) = bytes_eq (unescaped raw) (codes "ordinal")
is_ordinal_text _ = false

abbrev pub has_ordinal_type : Nameds → Bool
has_ordinal_type t.no_nameds = false
has_ordinal_type (t.named name e ns) = (bytes_eq name (codes "type") && is_ordinal_text e) || has_ordinal_type ns

-- The rules for ordinals if the selector calls a function of the library that returns a number, with `type: "ordinal"`,
-- and otherwise those for counts.
abbrev pub selector_rule : Inline → PluralRuleType
selector_rule (t.function_reference id (t.arguments ps ns)) =
    if returns_number id && has_ordinal_type ns then ORDINAL else CARDINAL
selector_rule _ = CARDINAL

-- ---- what a select lacks

-- A select that has a variant for a category, other than `other`, lacks those that it should have and has no variant
-- for.
abbrev pub missing_categories : LanguagePlurals → Inline → Variants → List PluralCategory
missing_categories plurals selector vs =
    let keys = variant_keys vs in
    if list_any (has_category keys) categories
    then filter (λ c. not (has_category keys c) && is_asked plurals (selector_rule selector) c) categories
    else []
