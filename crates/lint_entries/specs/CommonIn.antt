-- The plural categories that are common in a language, if there are rules of one.
use Rattle.std.specs.Prelude.{◌≡◌, Option, Some}
use Rattle.fluent_plurals.specs.declared.plurals.LanguagePlurals.{LanguagePlurals}
use Rattle.lint_flaws.specs.Common.{AreCommon}
use Rattle.lint_flaws.specs.declared.common.CommonCategories.{CommonCategories}

abbrev pub AreCommonIn : Option LanguagePlurals → CommonCategories → Type 0
AreCommonIn plurals common = (p : LanguagePlurals) → plurals ≡ Some p → AreCommon p common
