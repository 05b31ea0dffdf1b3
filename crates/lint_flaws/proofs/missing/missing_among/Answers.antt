use Rattle.std.proofs.Common.{◌≡◌, ◌∙◌, Bool, true, if◌then◌else◌, List, [], IfOk, sym, ap, subst}
use Rattle.std.specs.Prelude.{filter}
use Rattle.std.specs.List.{list_any}
use Rattle.fluent_grammar.specs.Tree.{Inline, Variants}
use Rattle.fluent_number.specs.declared.plural.PluralCategory.{PluralCategory}
use Rattle.fluent_number.specs.declared.plural.PluralRuleType.{PluralRuleType}
use Rattle.fluent_ast.specs.Borrowed.{inline_of, variants_of}
use Rattle.lint_findings.specs.MissingCategories.{variant_keys, has_category, selector_rule}
use Rattle.lint_flaws.specs.Common.{asks}
use Rattle.lint_flaws.specs.MissingAmong.{lacks, missing_among}
use Rattle.lint_flaws.proofs.missing.missing_among.Goals as goal

-- if one of the variants is for one of the categories
with_any : (categories : List PluralCategory) (common : PluralRuleType → PluralCategory → Bool) (selector : Inline) (vs : Variants) (rule : PluralRuleType) (any : Bool) → rule ≡ selector_rule selector →
    any ≡ list_any (has_category (variant_keys vs)) categories → any ≡ true → filter (lacks (common rule) (variant_keys vs)) categories ≡ missing_among categories common selector vs
with_any categories common selector vs rule any same is there =
    let left = filter (lacks (common (selector_rule selector)) (variant_keys vs)) categories in
    ap (λ r. filter (lacks (common r) (variant_keys vs)) categories) same ∙ sym (ap (λ b. if b then left else []) (sym is ∙ there))

pub returns : goal.returns
returns c =
    let P : List PluralCategory → Type 0 = λ xs. IfOk c.lacking.result (λ missing. missing.items ≡ xs) in
    subst P (with_any c.args.categories.now (asks c.args.common.now) (inline_of c.args.selector.now) (variants_of c.args.variants.now) c.in_ok-rule.rule c.has_any.result c.in_ok-rule.ensures c.has_any.ensures c.if-not-has_any.false)
    c.lacking.ensures
