-- The ends of a text: what is left of it after a construct, and the place of a refusal.
use Rattle.std.specs.Prelude.{◌≡◌, ◌<◌, true, false, ◌++◌, length}
use Rattle.fluent_grammar.specs.Words.{Text, line_feed, close_brace, begins_with}
use Rattle.fluent_grammar.specs.Refusal.{Kind, Reading, got, refused}
use Rattle.fluent_grammar.specs.Refusal as r

-- a text ends in this one
pub record EndsIn (rest text : Text) : Type 0 where
  pub front : Text
  pub whole : text ≡ front ++ rest

-- the rest, or the place of the refusal, is an end of the text
abbrev pub Within : {A : Type 0} → Reading A → Text → Type 0
Within (got a rest) text = EndsIn rest text
Within (refused fault) text = EndsIn fault.at text

-- a node that was read is not empty
abbrev pub Took : {A : Type 0} → Reading A → Text → Type 0
Took (got a rest) text = length rest < length text
Took (refused fault) text = Unit {0}

-- What a refusal says of the byte at its place: a token that is expected isn't there, a closing brace out of place is,
-- and so is the line feed in a string.
abbrev pub Told : Kind → Text → Type 0
Told (r.expected_token c) at = begins_with c at ≡ false
Told r.unterminated_string_literal at = begins_with line_feed at ≡ true
Told r.unbalanced_closing_brace at = begins_with close_brace at ≡ true
Told _ at = Unit {0}
