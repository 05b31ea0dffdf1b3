use Rattle.std.proofs.Common.{◌≡◌, ◌∙◌, not, ◌&&◌, ◌||◌, if◌then◌else◌, List, [], IfOk, refl, ap, subst}
use Rattle.std.specs.List.{list_any}
use Rattle.std.proofs.lemmas.List.Elements.{filter_agree}
use Rattle.fluent_ast.specs.Borrowed.{inline_of, variants_of}
use Rattle.fluent_grammar.specs.Tree.{Inline, Variants}
use Rattle.fluent_number.specs.declared.plural.PluralCategory.{PluralCategory}
use Rattle.fluent_number.specs.declared.plural.PluralCategory.TheVariants.{ZERO, ONE, TWO, FEW, MANY, OTHER}
use Rattle.fluent_number.specs.declared.plural.PluralRuleType.{PluralRuleType}
use Rattle.fluent_plurals.specs.declared.plurals.LanguagePlurals.{LanguagePlurals}
use Rattle.lint_findings.specs.MissingCategories.{categories, variant_keys, has_category, is_asked, is_common, missing_categories, selector_rule}
use Rattle.lint_findings.specs.MissingCategories as m
use Rattle.lint_flaws.specs.Common as l
use Rattle.lint_flaws.specs.Common.{AreCommon, asks}
use Rattle.lint_flaws.specs.MissingAmong.{lacks, missing_among}
use Rattle.lint_flaws.specs.declared.common.CommonCategories.{CommonCategories}
use Rattle.lint_flaws.proofs.missing.missing_categories.Goals as goal

-- what is asked for by those that are listed is what is asked for in the language
same_lone : (plurals : LanguagePlurals) (common : CommonCategories) → AreCommon plurals common → (rule : PluralRuleType) (c : PluralCategory) → l.is_lone_two common rule c ≡ m.is_lone_two plurals rule c
same_lone plurals common h rule TWO =
    ap (λ b. not (b || (l.is_listed common rule FEW || l.is_listed common rule MANY))) (h rule ZERO)
    ∙ ap (λ b. not (is_common plurals rule ZERO || (b || l.is_listed common rule MANY))) (h rule FEW)
    ∙ ap (λ b. not (is_common plurals rule ZERO || (is_common plurals rule FEW || b))) (h rule MANY)
same_lone plurals common h rule ZERO = refl
same_lone plurals common h rule ONE = refl
same_lone plurals common h rule FEW = refl
same_lone plurals common h rule MANY = refl
same_lone plurals common h rule OTHER = refl

same_asked : (plurals : LanguagePlurals) (common : CommonCategories) → AreCommon plurals common → (rule : PluralRuleType) (c : PluralCategory) → asks common rule c ≡ is_asked plurals rule c
same_asked plurals common h rule c =
    ap (λ b. b && not (l.is_lone_two common rule c)) (h rule c) ∙ ap (λ b. is_common plurals rule c && not b) (same_lone plurals common h rule c)

by_language : (plurals : LanguagePlurals) (common : CommonCategories) → AreCommon plurals common → (selector : Inline) (vs : Variants) →
    missing_among categories (asks common) selector vs ≡ missing_categories plurals selector vs
by_language plurals common h selector vs =
    let keys = variant_keys vs in
    let rule = selector_rule selector in
    ap (λ xs. if list_any (has_category keys) categories then xs else [])
    (filter_agree (lacks (asks common rule) keys) (lacks (is_asked plurals rule) keys) (λ c. ap (λ b. not (has_category keys c) && b) (same_asked plurals common h rule c)) categories)

pub returns : goal.returns
returns c = λ plurals h.
    let P : List PluralCategory → Type 0 = λ xs. IfOk c.missing_among.result (λ missing. missing.items ≡ xs) in
    subst P (by_language plurals c.args.common.now h (inline_of c.args.selector.now) (variants_of c.args.variants.now)) c.missing_among.ensures
