-- A select has no variant for a category that it is said to lack, and by its rule some whole number below 1,000 has it.
use Rattle.std.proofs.Common.{◌≡◌, ◌∙◌, ℕ, zero, suc, ◌+◌, ◌<◌, Bool, true, false, not, ◌&&◌, ◌||◌, if◌then◌else◌, List, [], ◌∷◌, filter, Option, Some, None, refl, sym, ap, subst, arith, All, Contains}
use Rattle.std.specs.Cmp.Lexicographic.{same_text}
use Rattle.std.specs.List.{list_any, range_with_len}
use Rattle.std.proofs.lemmas.Bool.{false≢true}
use Rattle.std.proofs.lemmas.List.Elements.{All-contains, filter_passes}
use Rattle.fluent_grammar.proofs.Cases.{cases, and-left, and-right}
use Rattle.fluent_grammar.specs.Tree as t
use Rattle.fluent_grammar.specs.Tree.{Inline, Variants, VariantKey}
use Rattle.fluent_number.specs.declared.plural.PluralCategory.{PluralCategory}
use Rattle.fluent_number.specs.declared.plural.PluralCategory.TheVariants.{ZERO, ONE, TWO, FEW, MANY, OTHER}
use Rattle.fluent_number.specs.declared.plural.PluralRuleType.{PluralRuleType}
use Rattle.fluent_plurals.specs.declared.plurals.LanguagePlurals.{LanguagePlurals}
use Rattle.fluent_value.specs.Matching.{category_text}
use Rattle.lint_findings.specs.CategoryLaws.{HasVariantFor, IsCommonNumber, MissingCategoriesAreTaken}
use Rattle.lint_findings.specs.MissingCategories.{categories, category_named, has_category, is_asked, is_common, is_key_of, is_lone_two, missing_categories, same_category, selector_rule, variant_keys, whole_category}
use Rattle.lint_findings.proofs.FactsAreTrue.{fails, same_bytes}
use Rattle.lint_findings.proofs.MissingVariables.{either}

-- what passes for a range passes for a number of it
some_in_range : (p : ℕ → Bool) (a k : ℕ) → list_any p (range_with_len a k) ≡ true → (n : ℕ) × n < a + k × (p n ≡ true)
some_in_range p a zero e = absurd (false≢true e)
some_in_range p a (suc k) e =
    either (p a) (list_any p (range_with_len (a + 1) k)) e
    (λ h. (a, omega arith, h))
    (λ h. let rest = some_in_range p (a + 1) k h in (rest.0, omega (arith, rest.1), rest.2))

some_same : {A : Type 0} {w v : A} → Some w ≡ Some v → w ≡ v
some_same e = cc

named : (c : PluralCategory) → category_named (category_text c) ≡ Some c
named ZERO = refl
named ONE = refl
named TWO = refl
named FEW = refl
named MANY = refl
named OTHER = refl

same_named : (c d : PluralCategory) → same_category c d ≡ true → c ≡ d
same_named c d h =
    let texts : category_text c ≡ category_text d = same_text (category_text c) (category_text d) (sym h) in
    some_same (sym (named c) ∙ ap category_named texts ∙ named d)

common_number : (plurals : LanguagePlurals) (rule : PluralRuleType) (c : PluralCategory) → is_common plurals rule c ≡ true → IsCommonNumber plurals rule c
unfolding is_common
common_number plurals rule c h =
    let found = some_in_range (λ n. same_category (whole_category plurals rule n) c) 0 1000 h in
    (found.0, found.1, same_named (whole_category plurals rule found.0) c found.2)

none_there : {P : Type 0} (c : PluralCategory) → Contains [] c → P
none_there c h = absurd (omega (arith, h.1))

not_true : (b : Bool) → not b ≡ true → b ≡ false
not_true true e = absurd (false≢true e)
not_true false e = refl

module _ (plurals : LanguagePlurals) (i : Inline) (vs : Variants) (c : PluralCategory) where
  abbrev is_missing : PluralCategory → Bool
  is_missing d = not (has_category (variant_keys vs) d) && is_asked plurals (selector_rule i) d

  taken : is_missing c ≡ true → (HasVariantFor vs c → ⊥) × IsCommonNumber plurals (selector_rule i) c
  taken h =
      let none = not_true (has_category (variant_keys vs) c) (and-left (not (has_category (variant_keys vs) c)) (is_asked plurals (selector_rule i) c) h) in
      let asked = and-right (not (has_category (variant_keys vs) c)) (is_asked plurals (selector_rule i) c) h in (
        (λ at. fails (is_key_of c) (variant_keys vs) (t.identifier_key (category_text c)) none at (same_bytes (category_text c))),
        common_number plurals (selector_rule i) c (and-left (is_common plurals (selector_rule i) c) (not (is_lone_two plurals (selector_rule i) c)) asked),
      )

  missing_taken : Contains (missing_categories plurals i vs) c → (HasVariantFor vs c → ⊥) × IsCommonNumber plurals (selector_rule i) c
  missing_taken at = cases (list_any (has_category (variant_keys vs)) categories)
      (λ h. taken (All-contains (λ d. is_missing d ≡ true) (filter is_missing categories) c (filter_passes is_missing categories) (subst (λ (ds : List PluralCategory). Contains ds c) (ap (λ b. if b then filter is_missing categories else []) h) at)))
      (λ h. none_there c (subst (λ (ds : List PluralCategory). Contains ds c) (ap (λ b. if b then filter is_missing categories else []) h) at))

pub missing_categories_are_taken : MissingCategoriesAreTaken
missing_categories_are_taken plurals i vs c at = missing_taken plurals i vs c at
