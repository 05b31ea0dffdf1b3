-- What the functions and the formatter of these rows give.
use Rattle.std.specs.Prelude.{ℕ, List, [], ◌∷◌, ◌++◌, Option, None, Some, codes, length, pos}
use Rattle.fluent_number.specs.Number.{number_from_integer}
use Rattle.fluent_value.specs.Args.{argument}
use Rattle.fluent_value.specs.Value.{Value, text, number, custom, none, error}
use Rattle.rows_patterns.specs.declared.own.Function.{Function}
use Rattle.rows_patterns.specs.declared.own.Function.TheVariants as of

module _ {S : Type 0} where
  -- how many bytes the first value has, if it is a text
  abbrev pub length_of : List (Value S) → Value S
  length_of [] = error
  length_of (text s ∷ vs) = number (number_from_integer (pos (length s)))
  length_of (number n ∷ vs) = error
  length_of (custom c ∷ vs) = error
  length_of (none ∷ vs) = error
  length_of (error ∷ vs) = error

  -- the first value
  abbrev pub first_of : List (Value S) → Value S
  first_of [] = none
  first_of (v ∷ vs) = v

  -- a value that is there, or else an error
  abbrev pub or_error : Option (Value S) → Value S
  or_error None = error
  or_error (Some v) = v

  -- what each function gives
  abbrev pub called : Function → List (Value S) → List (List ℕ × Value S) → Value S
  called of.Length positional named = length_of positional
  called of.First positional named = first_of positional
  called of.Named positional named = or_error (argument (codes "v") named)

  -- a text in brackets
  abbrev pub bracketed : Value S → Option (List ℕ)
  bracketed (text s) = Some ((91 ∷ []) ++ s ++ (93 ∷ []))
  bracketed (number n) = None
  bracketed (custom c) = None
  bracketed none = None
  bracketed error = None
