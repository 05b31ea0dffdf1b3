-- The laws of plural rules.
use Rattle.std.specs.Prelude.{◌≡◌}
use Rattle.fluent_number.specs.Number.{Number}
use Rattle.fluent_number.specs.Operands.{operands_of}
use Rattle.fluent_number.specs.Plurals.{english}
use Rattle.fluent_number.specs.declared.plural.PluralRuleType.{PluralRuleType}
use Rattle.fluent_plurals.specs.Plurals.{english_rules, plurals_by}

-- The rules of `en` give each number the category that `EnglishPlurals` gives it.
abbrev pub EnglishIsTheSame : Type 0
EnglishIsTheSame = (rule : PluralRuleType) (number : Number) → plurals_by english_rules rule (operands_of number) ≡ english rule (operands_of number)
