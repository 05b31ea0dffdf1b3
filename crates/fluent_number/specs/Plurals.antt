-- The plural rules of English.
use Rattle.std.specs.Prelude.{ℕ, ◌%◌, ◌&&◌, ◌==◌, not, if◌then◌else◌}
use Rattle.fluent_number.specs.declared.plural.PluralOperands.{PluralOperands}
use Rattle.fluent_number.specs.declared.plural.PluralRuleType.{PluralRuleType}
use Rattle.fluent_number.specs.declared.plural.PluralRuleType.TheVariants.{CARDINAL, ORDINAL}
use Rattle.fluent_number.specs.declared.plural.PluralCategory.{PluralCategory}
use Rattle.fluent_number.specs.declared.plural.PluralCategory.TheVariants.{ONE, TWO, FEW, OTHER}

-- "1 day", and "1.0 days" or "2 days"
abbrev pub english_cardinal : PluralOperands → PluralCategory
english_cardinal o = if o.i == 1 && o.v == 0 then ONE else OTHER

-- whole numbers end as in "1st", "2nd", "3rd" and "4th", but "11th", "12th" and "13th"
abbrev pub english_ordinal_of_whole : ℕ → PluralCategory
english_ordinal_of_whole i =
    if i % 10 == 1 && not (i % 100 == 11) then ONE
    else (if i % 10 == 2 && not (i % 100 == 12) then TWO
    else (if i % 10 == 3 && not (i % 100 == 13) then FEW else OTHER))

abbrev pub english_ordinal : PluralOperands → PluralCategory
english_ordinal o = if o.t == 0 && o.w == 0 then english_ordinal_of_whole o.i else OTHER

abbrev pub english : PluralRuleType → PluralOperands → PluralCategory
english CARDINAL o = english_cardinal o
english ORDINAL o = english_ordinal o
