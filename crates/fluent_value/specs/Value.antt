-- Values as plain data: a text is the list of its bytes, and a value of a program's own type is its meaning.
use Rattle.std.specs.Prelude.{◌≡◌, ℕ, Bool, true, false, IsTrue, List, Option, None, Some}
use Rattle.fluent_number.specs.Number.{Number}
use Rattle.fluent_number.specs.Reading.{read_number}

pub data Value (S : Type 0) : Type 0 where
  text : List ℕ → Value S
  number : Number → Value S
  custom : S → Value S
  none : Value S
  error : Value S

-- a number, or else the text
abbrev pub or_text : {S : Type 0} → List ℕ → Option Number → Value S
or_text s None = text s
or_text s (Some n) = number n

-- the number that a text is, or the text
abbrev pub number_or_text : {S : Type 0} → List ℕ → Value S
number_or_text s = or_text s (read_number s)

-- what becomes of a value that may be absent, by what becomes of one that is there and what of none
abbrev pub from_option : {T V : Type 0} → (T → V → Type 0) → (V → Type 0) → Option T → V → Type 0
from_option becomes is_none None v = is_none v
from_option becomes is_none (Some t) v = becomes t v

-- Equality of values: texts and numbers that are the same, and values of a program's own type by its own test. Nothing else is
-- equal, and `none` and `error` aren't even equal to themselves.
abbrev pub Alike : {S : Type 0} → (S → S → Bool) → Value S → Value S → Type 0
Alike same (text s) (text r) = s ≡ r
Alike same (text s) (number n) = ⊥
Alike same (text s) (custom c) = ⊥
Alike same (text s) none = ⊥
Alike same (text s) error = ⊥
Alike same (number n) (text s) = ⊥
Alike same (number n) (number m) = n ≡ m
Alike same (number n) (custom c) = ⊥
Alike same (number n) none = ⊥
Alike same (number n) error = ⊥
Alike same (custom c) (text s) = ⊥
Alike same (custom c) (number n) = ⊥
Alike same (custom c) (custom d) = IsTrue (same c d)
Alike same (custom c) none = ⊥
Alike same (custom c) error = ⊥
Alike same none v = ⊥
Alike same error v = ⊥

-- what equals itself
abbrev pub is_comparable : {S : Type 0} → Value S → Bool
is_comparable (text s) = true
is_comparable (number n) = true
is_comparable (custom c) = true
is_comparable none = false
is_comparable error = false
