-- What DATETIME gives.
use Rattle.std.specs.Prelude.{ℕ, List, [], ◌∷◌}
use Rattle.fluent_date.specs.Merge.{merged}
use Rattle.fluent_date.specs.Options.{Options}
use Rattle.fluent_date.specs.declared.date_time.FluentDateTime.{FluentDateTime}
use Rattle.fluent_value.specs.Args.{argument, number_of, text_of}
use Rattle.fluent_value.specs.Value.{Value, text, number, custom, none, error}

-- options with those that arguments set
abbrev pub merged_by : List (List ℕ × Value FluentDateTime) → Options → Options
merged_by named = merged (λ name. text_of (argument name named)) (λ name. number_of (argument name named))

-- a date with the options that arguments set
abbrev pub with_options : List (List ℕ × Value FluentDateTime) → FluentDateTime → FluentDateTime
with_options named d = record d { options = merged_by named d.options }

-- DATETIME: the first value with the options that the named ones set, or an error if it is no date
abbrev pub date_called : List (Value FluentDateTime) → List (List ℕ × Value FluentDateTime) → Value FluentDateTime
date_called [] named = error
date_called (text s ∷ vs) named = error
date_called (number n ∷ vs) named = error
date_called (custom d ∷ vs) named = custom (with_options named d)
date_called (none ∷ vs) named = error
date_called (error ∷ vs) named = error
