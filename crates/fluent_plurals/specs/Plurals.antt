-- The plural source of a language.
use Rattle.std.specs.Prelude.{ℕ, Bool, true, false, List, [], ◌∷◌, Option, Some, None, if◌then◌else◌}
use Rattle.fluent_number.specs.declared.plural.PluralRuleType.TheVariants.{CARDINAL, ORDINAL}
use Rattle.fluent_value.specs.Matching.{Plurals}
use Rattle.fluent_plurals.specs.Conditions.{category_by}
use Rattle.fluent_plurals.specs.Sets.{cardinal_rules, ordinal_rules}
use Rattle.fluent_plurals.specs.Lookup.{Entry, first_of}
use Rattle.fluent_plurals.specs.Tags.{is_tag}
use Rattle.fluent_plurals.specs.Languages.{languages}
use Rattle.fluent_plurals.specs.declared.sets.Cardinal.TheVariants as cardinal_set
use Rattle.fluent_plurals.specs.declared.sets.Ordinal.TheVariants as ordinal_set
use Rattle.fluent_plurals.specs.declared.plurals.LanguagePlurals.{LanguagePlurals}

-- the category of a number by the rules of a language
abbrev pub plurals_by : LanguagePlurals → Plurals
plurals_by plurals CARDINAL operands = category_by (cardinal_rules plurals.cardinal) operands
plurals_by plurals ORDINAL operands = category_by (ordinal_rules plurals.ordinal) operands

-- no rules: each number is `other`
abbrev pub root : LanguagePlurals
root = record { cardinal = cardinal_set.Root; ordinal = ordinal_set.Root }

abbrev pub english_rules : LanguagePlurals
english_rules = record { cardinal = cardinal_set.En; ordinal = ordinal_set.En }

-- A language that the table doesn't have has the rules of the root, as CLDR says.
abbrev pub rules_of : Option Entry → LanguagePlurals
rules_of None = root
rules_of (Some entry) = record { cardinal = entry.1; ordinal = entry.2 }

-- the rules of the language that a tag names; a text that is no tag has none
abbrev pub plurals_for : List ℕ → Option LanguagePlurals
plurals_for tag = if is_tag tag then Some (rules_of (first_of languages tag)) else None

abbrev pub is_entry : Option Entry → Bool
is_entry None = false
is_entry (Some entry) = true

-- whether the table has rules for the language that a tag names
abbrev pub has_own_rules : List ℕ → Bool
has_own_rules tag = is_entry (first_of languages tag)

-- the first of two that is there
abbrev pub first_some : Option LanguagePlurals → Option LanguagePlurals → Option LanguagePlurals
first_some None other = other
first_some (Some plurals) other = Some plurals

-- the rules of the first of some locales that is a tag
abbrev pub plurals_of : List (List ℕ) → Option LanguagePlurals
plurals_of [] = None
plurals_of (locale ∷ locales) = first_some (plurals_for locale) (plurals_of locales)
