-- What stays the same while a pattern is resolved.
use Rattle.std.specs.Prelude.{Bool, List, Option}
use Rattle.fluent_grammar.specs.Words.{Text}
use Rattle.fluent_value.specs.Value.{Value}
use Rattle.fluent_meaning.specs.Ids.{Meaning}
use Rattle.fluent_value.specs.Matching.{Plurals}
use Rattle.fluent_value.specs.Shown.{shown_text}

-- S is what a value of a program's own type means, and F what a function of the program means.
pub record Environment (S : Type 0) (F : Type 0) : Type 0 where
  -- what an id stands for
  pub find : Text → Option (Meaning F)
  -- what a function gives for positional and named arguments
  pub call : F → List (Value S) → List (Text × Value S) → Value S
  -- whether isolation is on
  pub isolating : Bool
  -- what becomes of a text element
  pub transformed : Text → Text
  -- the formatter's text of a value, if a formatter is set and answers one
  pub formatted : Value S → Option Text
  -- the plural source
  pub plurals : Plurals
  -- the text of a value of a program's own type
  pub shown : S → Text

-- the text of a value
abbrev pub value_text : {S F : Type 0} → Environment S F → Value S → Text
value_text env v = shown_text env.formatted env.shown v
