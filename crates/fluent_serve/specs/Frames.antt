-- Answers, and the bytes that they are written as.
use Rattle.std.specs.Prelude.{List, [], ◌∷◌, ◌++◌, length, Option, Some, None, codes, decimal}
use Rattle.std.specs.List.{flat_map}
use Rattle.fluent_serve.specs.Text.{Text, line_feed}
use Rattle.fluent_serve.specs.Lines.{lines_of}
use Rattle.fluent_serve.specs.Requests.{Request, request_of}

-- a text, and the texts of the errors that came up
pub record Reply : Type 0 where
  pub text : Text
  pub errors : List Text

pub data Answer : Type 0 where
  -- the line is no request
  bad : Answer
  -- there is nothing by that name
  none : Answer
  ok : Reply → Answer

abbrev pub ended : Text → Text
ended s = s ++ line_feed ∷ []

-- `ok`, the length of the text in bytes and the number of errors; the text; a line for each error
abbrev pub frame_of : Answer → Text
frame_of bad = ended (codes "bad")
frame_of none = ended (codes "none")
frame_of (ok reply) =
    codes "ok " ++ (decimal (length reply.text) ++ (codes " " ++ (ended (decimal (length reply.errors))
    ++ (ended reply.text ++ flat_map ended reply.errors))))

abbrev pub found : Option Reply → Answer
found None = none
found (Some reply) = ok reply

-- the answer to a request, if `find` says what there is for it
abbrev pub answer_to : {V : Type 0} → (Request V → Option Reply) → Option (Request V) → Answer
answer_to find None = bad
answer_to find (Some request) = found (find request)

-- what is written for one line
unfoldable pub answer_line : {V : Type 0} → (Text → V) → (Request V → Option Reply) → Text → Text
answer_line value_of find line = frame_of (answer_to find (request_of value_of line))

-- what is written for lines
abbrev pub answers_to : (Text → Text) → List Text → Text
answers_to answer lines = flat_map answer lines

-- what is written for a stream of bytes
abbrev pub answers : (Text → Text) → Text → Text
answers answer bytes = answers_to answer (lines_of bytes)
