-- Which languages are used, for a caller that names them by numbers.
use Rattle.std.specs.Prelude.{ℕ, ◌==◌, List, [], ◌++◌, Option, Some, None, if◌then◌else◌, length, take, drop}
use Rattle.fluent_c.specs.Answering.{texts_of}
use Rattle.fluent_c.specs.declared.TheConstants.{FLUENT_FILTERING, FLUENT_MATCHING, FLUENT_LOOKUP}
use Rattle.fluent_c.specs.declared.answering.FluentSource.{FluentSource}
use Rattle.fluent_languages.specs.Negotiation.{positions}
use Rattle.fluent_languages.specs.declared.negotiation.NegotiationStrategy.{NegotiationStrategy}
use Rattle.fluent_languages.specs.declared.negotiation.NegotiationStrategy.TheVariants.{Filtering, Matching, Lookup}

-- the strategy of a number
abbrev pub strategy_of : ℕ → Option NegotiationStrategy
strategy_of number =
    if number == FLUENT_FILTERING then Some Filtering
    else (if number == FLUENT_MATCHING then Some Matching
    else (if number == FLUENT_LOOKUP then Some Lookup else None))

-- the positions that a strategy finds, and none if there is no strategy
abbrev pub positions_by : Option NegotiationStrategy → List FluentSource → List FluentSource → List ℕ
positions_by None requested available = []
positions_by (Some strategy) requested available = positions strategy (texts_of requested) (texts_of available)

-- those that the strategy of a number finds
abbrev pub used : ℕ → List FluentSource → List FluentSource → List ℕ
used number = positions_by (strategy_of number)

-- a caller's places with the first of some numbers in them, as many as there is room for
abbrev pub filled : List ℕ → List ℕ → List ℕ
filled places numbers = take (length places) numbers ++ drop (length numbers) places
