-- The plural categories that common numbers have, as code lists them.
use Rattle.std.specs.Prelude.{◌≡◌, Bool, false, not, ◌&&◌, ◌||◌, Option, Some, None}
use Rattle.fluent_number.specs.declared.plural.PluralCategory.{PluralCategory}
use Rattle.fluent_number.specs.declared.plural.PluralCategory.TheVariants.{ZERO, ONE, TWO, FEW, MANY, OTHER}
use Rattle.fluent_number.specs.declared.plural.PluralRuleType.{PluralRuleType}
use Rattle.fluent_number.specs.declared.plural.PluralRuleType.TheVariants.{CARDINAL, ORDINAL}
use Rattle.fluent_plurals.specs.declared.plurals.LanguagePlurals.{LanguagePlurals}
use Rattle.lint_findings.specs.MissingCategories.{is_common}
use Rattle.lint_flaws.specs.declared.common.Categories.{Categories}
use Rattle.lint_flaws.specs.declared.common.CommonCategories.{CommonCategories}

-- whether a category is one of these
abbrev pub has : Categories → PluralCategory → Bool
has these ZERO = these.zero
has these ONE = these.one
has these TWO = these.two
has these FEW = these.few
has these MANY = these.many
has these OTHER = these.other

-- whether a category is listed for rules of this kind
abbrev pub is_listed : CommonCategories → PluralRuleType → PluralCategory → Bool
is_listed common CARDINAL c = has common.cardinal c
is_listed common ORDINAL c = has common.ordinal c

-- whether this is `two`, and nothing but `one` and `two` is listed beside `other`
abbrev pub is_lone_two : CommonCategories → PluralRuleType → PluralCategory → Bool
is_lone_two common rule TWO = not (is_listed common rule ZERO || (is_listed common rule FEW || is_listed common rule MANY))
is_lone_two common rule c = false

-- whether a select should have a variant for a category
abbrev pub asks : CommonCategories → PluralRuleType → PluralCategory → Bool
asks common rule c = is_listed common rule c && not (is_lone_two common rule c)

-- just those are listed that are common in a language
abbrev pub AreCommon : LanguagePlurals → CommonCategories → Type 0
AreCommon plurals common = (rule : PluralRuleType) (c : PluralCategory) → is_listed common rule c ≡ is_common plurals rule c

-- the same, if there are rules
abbrev pub AreCommonBy : Option LanguagePlurals → CommonCategories → Type 0
AreCommonBy None common = Unit {0}
AreCommonBy (Some plurals) common = AreCommon plurals common
