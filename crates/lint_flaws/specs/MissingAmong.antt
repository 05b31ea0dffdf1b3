-- The categories that a select lacks, of a list of categories.
use Rattle.std.specs.Prelude.{◌≡◌, Bool, not, ◌&&◌, if◌then◌else◌, List, [], filter, IfOk, Result, Vec}
use Rattle.std.specs.Global.{Global}
use Rattle.std.specs.List.{list_any}
use denote.Ref.{Bor}
use Rattle.fluent_ast.specs.Borrowed.{inline_of, variants_of}
use Rattle.fluent_ast.specs.declared.InlineExpression.{InlineExpression}
use Rattle.fluent_ast.specs.declared.Variant.{Variant}
use Rattle.fluent_grammar.specs.Tree.{Inline, Variants, VariantKey}
use Rattle.fluent_grammar.specs.Words.{Text}
use Rattle.fluent_number.specs.declared.plural.PluralCategory.{PluralCategory}
use Rattle.fluent_number.specs.declared.plural.PluralRuleType.{PluralRuleType}
use Rattle.fluent_plurals.specs.declared.plurals.LanguagePlurals.{LanguagePlurals}
use Rattle.lint_findings.specs.MissingCategories.{variant_keys, has_category, missing_categories, selector_rule}
use Rattle.lint_flaws.specs.Common.{AreCommon, asks}
use Rattle.lint_flaws.specs.declared.common.CommonCategories.{CommonCategories}

-- whether a category is asked for, and none of these keys is for it
abbrev pub lacks : (PluralCategory → Bool) → List VariantKey → PluralCategory → Bool
lacks asked keys c = not (has_category keys c) && asked c

-- With all categories but `other`, and those that are asked for in a language, these are `missing_categories`.
abbrev pub missing_among : List PluralCategory → (PluralRuleType → PluralCategory → Bool) → Inline → Variants → List PluralCategory
missing_among categories asked selector vs =
    let keys = variant_keys vs in
    if list_any (has_category keys) categories
    then filter (lacks (asked (selector_rule selector)) keys) categories
    else []

-- ---- of selects as code has them

-- whether a category is asked for, and no variant is for it
abbrev pub is_lacking : CommonCategories → PluralRuleType → List (Variant (Bor Text)) → PluralCategory → Bool
is_lacking common rule vs c = lacks (asks common rule) (variant_keys (variants_of vs)) c

abbrev pub missing_of : LanguagePlurals → InlineExpression (Bor Text) → List (Variant (Bor Text)) → List PluralCategory
missing_of plurals selector vs = missing_categories plurals (inline_of selector) (variants_of vs)

-- If all went well: what a select lacks in each language in which these are common.
abbrev pub AreMissing : {E : Type 0} → Result (Vec PluralCategory Global) E → CommonCategories → InlineExpression (Bor Text) → List (Variant (Bor Text)) → Type 0
AreMissing result common selector vs =
    (plurals : LanguagePlurals) → AreCommon plurals common → IfOk result (λ missing. missing.items ≡ missing_of plurals selector vs)

abbrev pub missing_in : List PluralCategory → CommonCategories → InlineExpression (Bor Text) → List (Variant (Bor Text)) → List PluralCategory
missing_in categories common selector vs = missing_among categories (asks common) (inline_of selector) (variants_of vs)
