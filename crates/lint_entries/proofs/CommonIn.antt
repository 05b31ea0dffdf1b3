-- The two ways to say which plural categories are common.
use Rattle.std.proofs.Common.{Option, Some, None, refl, subst}
use Rattle.std.proofs.lemmas.Option.{same_Some}
use Rattle.fluent_plurals.specs.declared.plurals.LanguagePlurals.{LanguagePlurals}
use Rattle.lint_flaws.specs.Common.{AreCommon, AreCommonBy}
use Rattle.lint_flaws.specs.declared.common.CommonCategories.{CommonCategories}
use Rattle.lint_entries.specs.CommonIn.{AreCommonIn}

pub by_rules : (plurals : Option LanguagePlurals) (common : CommonCategories) → AreCommonIn plurals common → AreCommonBy plurals common
by_rules None common h = tt
by_rules (Some p) common h = h p refl

pub in_language : (plurals : Option LanguagePlurals) (common : CommonCategories) → AreCommonBy plurals common → AreCommonIn plurals common
in_language None common h p is = absurd cc
in_language (Some q) common h p is = subst (λ r. AreCommon r common) (same_Some q p is) h
