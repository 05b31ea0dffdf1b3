-- The conditions of plural rules, as Unicode's plural rules (UTS 35, part 3) write them, and what they mean.
use Rattle.std.specs.Prelude.{ℕ, Bool, true, false, not, ◌&&◌, ◌||◌, nat_le, List, [], ◌∷◌, if◌then◌else◌}
use Rattle.std.specs.Prelude as on
use Rattle.fluent_number.specs.Decimal.{whole_of, fraction_of}
use Rattle.fluent_number.specs.declared.plural.PluralOperands.{PluralOperands}
use Rattle.fluent_number.specs.declared.plural.PluralCategory.{PluralCategory}
use Rattle.fluent_number.specs.declared.plural.PluralCategory.TheVariants.{OTHER}

infix 30 ◌‥◌
infixl 29 ◌∪◌
infix 30 ◌modulo◌
infix 28 ◌equals◌
infix 28 ◌differs_from◌
infix 28 ◌∈◌
infix 28 ◌∉◌
infixl 20 ◌and◌
infixl 18 ◌or◌
infix 16 ◌when◌
-- What a relation looks at: an operand, or its remainder. No number is written in compact form here, as "1M" for a
-- million, so the operand `e` is 0.
pub data Expression : Type 0 where
  n : Expression
  i : Expression
  v : Expression
  w : Expression
  f : Expression
  t : Expression
  e : Expression
  ◌modulo◌ : Expression → ℕ → Expression

-- One number, those from one to another, or both of two sets.
pub data Values : Type 0 where
  only : ℕ → Values
  ◌‥◌ : ℕ → ℕ → Values
  ◌∪◌ : Values → Values → Values

pub data Condition : Type 0 where
  ◌∈◌ : Expression → Values → Condition
  ◌∉◌ : Expression → Values → Condition
  ◌and◌ : Condition → Condition → Condition
  ◌or◌ : Condition → Condition → Condition

abbrev pub ◌equals◌ : Expression → ℕ → Condition
x equals k = x ∈ only k

abbrev pub ◌differs_from◌ : Expression → ℕ → Condition
x differs_from k = x ∉ only k

-- The number is one of the values.
abbrev pub is_among : Values → ℕ → Bool
is_among (only k) x = on.nat_eq x k
is_among (from ‥ to) x = nat_le from x && nat_le x to
is_among (these ∪ those) x = is_among these x || is_among those x

-- The operand is a whole number. Only `n` can have a fraction, and then no remainder of it is whole.
abbrev pub is_whole : Expression → PluralOperands → Bool
is_whole n o = on.nat_eq (fraction_of o.n) 0
is_whole (x modulo m) o = is_whole x o
is_whole i o = true
is_whole v o = true
is_whole w o = true
is_whole f o = true
is_whole t o = true
is_whole e o = true

-- The value, if it is whole.
abbrev pub value_of : Expression → PluralOperands → ℕ
value_of n o = whole_of o.n
value_of i o = o.i
value_of v o = o.v
value_of w o = o.w
value_of f o = o.f
value_of t o = o.t
value_of e o = 0
value_of (x modulo m) o = on.◌%◌ (value_of x o) m

-- A fraction is among no values, which are whole numbers.
abbrev pub holds : Condition → PluralOperands → Bool
holds (x ∈ values) o = is_whole x o && is_among values (value_of x o)
holds (x ∉ values) o = not (is_whole x o && is_among values (value_of x o))
holds (this and that) o = holds this o && holds that o
holds (this or that) o = holds this o || holds that o

-- A category, and the numbers that it is for.
pub data Rule : Type 0 where
  ◌when◌ : PluralCategory → Condition → Rule

-- The category of the first rule whose condition holds, and `other` if none does.
abbrev pub category_by : List Rule → PluralOperands → PluralCategory
category_by [] o = OTHER
category_by ((category when condition) ∷ rules) o = if holds condition o then category else category_by rules o
