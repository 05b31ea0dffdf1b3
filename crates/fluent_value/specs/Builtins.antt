-- What the functions that every program may have give.
use Rattle.std.specs.Prelude.{ℕ, List, [], ◌∷◌}
use Rattle.fluent_number.specs.Merge.{merged}
use Rattle.fluent_number.specs.Number.{Number}
use Rattle.fluent_value.specs.Args.{argument, text_of, number_of}
use Rattle.fluent_value.specs.Value.{Value, text, number, custom, none, error}

-- a number with the options that arguments set
abbrev pub with_options : {S : Type 0} → List (List ℕ × Value S) → Number → Number
with_options named n = record n { options = merged (λ name. text_of (argument name named)) (λ name. number_of (argument name named)) n.options }

-- NUMBER: the first value with the options that the named ones set, or an error if it is no number
abbrev pub number_called : {S : Type 0} → List (Value S) → List (List ℕ × Value S) → Value S
number_called [] named = error
number_called (text s ∷ vs) named = error
number_called (number n ∷ vs) named = number (with_options named n)
number_called (custom c ∷ vs) named = error
number_called (none ∷ vs) named = error
number_called (error ∷ vs) named = error
