-- The definitions at a few values, by computing.
use Rattle.std.proofs.Common.{◌≡◌, Bool, true, false, List, [], ◌∷◌, refl, codes, Some, None, Option}
use Rattle.std.specs.Prelude.{option_map, ◌&&◌, ◌||◌, not}
use Rattle.fluent_number.specs.Digits.{Text, last_digits}
use Rattle.fluent_number.specs.Operands.{operands_of}
use Rattle.fluent_number.specs.Reading.{read_number}
use Rattle.fluent_number.specs.declared.plural.PluralCategory.{PluralCategory}
use Rattle.fluent_number.specs.declared.plural.PluralCategory.TheVariants.{ZERO, FEW, MANY, OTHER}
use Rattle.fluent_number.specs.declared.plural.PluralRuleType.{PluralRuleType}
use Rattle.fluent_number.specs.declared.plural.PluralRuleType.TheVariants.{CARDINAL, ORDINAL}
use Rattle.fluent_plurals.specs.Languages.{languages}
use Rattle.fluent_plurals.specs.Lookup.{Entry, begins_with_tag}
use Rattle.fluent_plurals.specs.Plurals.{english_rules, has_own_rules, plurals_by, plurals_for, plurals_of, root}
use Rattle.fluent_plurals.specs.Tags.{is_tag}
use Rattle.fluent_plurals.specs.declared.plurals.LanguagePlurals.{LanguagePlurals}
use Rattle.fluent_plurals.specs.declared.sets.Cardinal.TheVariants as cardinal
use Rattle.fluent_plurals.specs.declared.sets.Ordinal.TheVariants as ordinal

-- a tag of the entries begins with this one
abbrev begins_any : Text → List Entry → Bool
begins_any tag [] = false
begins_any tag (entry ∷ entries) = begins_with_tag tag entry.0 || begins_any tag entries

-- no entry hides a later one, whose tag is longer
abbrev hides_none : List Entry → Bool
hides_none [] = true
hides_none (entry ∷ entries) = not (begins_any entry.0 entries) && hides_none entries

longest_is_first : hides_none languages ≡ true
longest_is_first = refl

english_tag : plurals_for (codes "en-GB") ≡ Some english_rules
english_tag = refl

portuguese : plurals_for (codes "pt") ≡ Some (record { cardinal = cardinal.Pt; ordinal = ordinal.Root })
portuguese = refl

of_portugal : plurals_for (codes "pt_PT.UTF-8") ≡ Some (record { cardinal = cardinal.It; ordinal = ordinal.Root })
of_portugal = refl

of_angola : plurals_for (codes "PT-AO") ≡ Some (record { cardinal = cardinal.Pt; ordinal = ordinal.Root })
of_angola = refl

undetermined : plurals_for (codes "und") ≡ Some root
undetermined = refl

without_rules : plurals_for (codes "oc-FR") ≡ Some root
without_rules = refl

no_tag : plurals_for (codes "") ≡ None
no_tag = refl

own_rules : has_own_rules (codes "pt-AO") ≡ true
own_rules = refl

rules_of_the_root : has_own_rules (codes "oc") ≡ false
rules_of_the_root = refl

-- all of these texts are tags, or none is
abbrev all_tags : List Text → Bool
all_tags [] = true
all_tags (text ∷ texts) = is_tag text && all_tags texts

abbrev any_tag : List Text → Bool
any_tag [] = false
any_tag (text ∷ texts) = is_tag text || any_tag texts

tags : all_tags (codes "oc" ∷ codes "root" ∷ codes "sr@latin" ∷ codes "oc_FR.UTF-8" ∷ codes "zh-Hant_TW" ∷ codes "de-u-nu-latn" ∷ codes "ca-ES-valencia" ∷ codes "qu-419" ∷ codes "language" ∷ []) ≡ true
tags = refl

no_tags : any_tag (codes "" ∷ codes "C" ∷ codes "o1" ∷ codes "oc-" ∷ codes "oc--FR" ∷ codes "oc FR" ∷ codes "-oc" ∷ codes "languages" ∷ codes "oc-languages" ∷ codes "oc-.UTF-8" ∷ codes "@latin" ∷ []) ≡ false
no_tags = refl

first_tag : plurals_of (codes "?" ∷ codes "en" ∷ codes "pl" ∷ []) ≡ Some english_rules
first_tag = refl

no_first_tag : plurals_of (codes "?" ∷ []) ≡ None
no_first_tag = refl

-- the category of the number that a text is, in a language
abbrev category : Text → PluralRuleType → Text → Option PluralCategory
category tag rule text = by (plurals_for tag) where
  by : Option LanguagePlurals → Option PluralCategory
  by None = None
  by (Some plurals) = option_map (λ number. plurals_by plurals rule (operands_of number)) (read_number text)

few_files : category (codes "pl") CARDINAL (codes "22") ≡ Some FEW
unfolding read_number operands_of last_digits
few_files = refl

many_files : category (codes "pl") CARDINAL (codes "12") ≡ Some MANY
unfolding read_number operands_of last_digits
many_files = refl

part_of_a_file : category (codes "pl") CARDINAL (codes "1.5") ≡ Some OTHER
unfolding read_number operands_of last_digits
part_of_a_file = refl

shown_whole : category (codes "lv") CARDINAL (codes "0.2") ≡ Some OTHER
unfolding read_number operands_of last_digits
shown_whole = refl

arabic : category (codes "ar") CARDINAL (codes "103") ≡ Some FEW
unfolding read_number operands_of last_digits
arabic = refl

welsh : category (codes "cy") ORDINAL (codes "7") ≡ Some ZERO
unfolding read_number operands_of last_digits
welsh = refl
