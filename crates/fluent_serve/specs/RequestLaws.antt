-- Laws of request lines and answers, as statements.
use Rattle.std.specs.Prelude.{◌≡◌, ◌++◌, option_map}
use Rattle.fluent_serve.specs.Text.{Text}
use Rattle.fluent_serve.specs.Lines.{EndsWhole}
use Rattle.fluent_serve.specs.Requests.{request_of, with_values}
use Rattle.fluent_serve.specs.Frames.{answers}

-- The answers to two streams joined are the answers joined, if the first stream is empty or ends in a line feed.
abbrev pub StreamsJoin : Type 0
StreamsJoin = (answer : Text → Text) (first second : Text) → EndsWhole first → answers answer (first ++ second) ≡ answers answer first ++ answers answer second

-- What a line asks for, with values, is what it asks for with texts, and then a value in the place of each text.
abbrev pub ValuesAreRead : Type 0 → Type 0
ValuesAreRead V = (value_of : Text → V) (line : Text) → request_of value_of line ≡ option_map (with_values value_of) (request_of (λ s. s) line)
