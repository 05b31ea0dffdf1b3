use Rattle.std.proofs.Common.{◌≡◌, ℕ, ◌*◌, ◌^◌, ◌/◌, ◌%◌, ◌==◌, ap, ◌∙◌, arith}
use Rattle.std.proofs.Math.Bool.{and-true}
use Rattle.std.specs.Prelude.{if◌then◌else◌, pos}
use Rattle.fluent_number.specs.Digits.{last_digits}
use Rattle.fluent_number.specs.Number.{number_from_integer}
use Rattle.fluent_number.specs.Operands.{operands_of}
use Rattle.fluent_number.specs.Plurals.{english_cardinal}
use Rattle.fluent_number.specs.declared.plural.PluralCategory.TheVariants.{ONE, OTHER}
use Rattle.example_callers.proofs.number.count_category.Goals as goal

-- the whole part of an integer is the integer
whole_units : (n : ℕ) → n * 10 ^ 18 / 10 ^ 18 ≡ n
whole_units n = omega arith

-- it has no fraction
no_units_left : (n : ℕ) → n * 10 ^ 18 % 10 ^ 18 ≡ 0
no_units_left n = omega arith

-- a whole number shows no digits after the point
category_is : (n : ℕ) → english_cardinal (operands_of (number_from_integer (pos n))) ≡ (if n == 1 then ONE else OTHER)
unfolding operands_of last_digits
category_is n = rw (whole_units n, no_units_left n) (ap (λ b. if b then ONE else OTHER) (and-true (n == 1)))

pub returns : goal.returns
returns c =
    c.english_category.ensures
    ∙ ap english_cardinal (c.from.ensures ∙ ap operands_of c.from-number.ensures)
    ∙ category_is c.args.count
