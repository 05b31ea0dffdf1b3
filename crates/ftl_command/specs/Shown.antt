-- What `ftl format` writes of a message.
use Rattle.std.specs.Prelude.{List, ◌++◌, Option, codes}
use Rattle.std.specs.List.{flat_map}
use Rattle.fluent_answers.specs.Answers.{reply_to}
use Rattle.fluent_answers.specs.Sources.{Settings, environment_of}
use Rattle.fluent_grammar.specs.Words.{Text}
use Rattle.fluent_serve.specs.Frames.{Reply, ended}
use Rattle.fluent_serve.specs.Requests.{Request, with_values}
use Rattle.fluent_value.specs.Matching.{Plurals}
use Rattle.fluent_value.specs.Value.{number_or_text}

-- What sources have for a request: the text of a message, or of its first attribute of a name, and its errors. It is what
-- `ftl run` answers with. The value of an argument is the number that its text is, or else the text.
abbrev pub reply_asked : {S : Type 0} → Type 0 → Plurals → (S → Text) → Settings → List Text → Request Text → Option Reply
reply_asked F plurals shown settings sources request =
    reply_to (environment_of {F = F} plurals shown settings sources) (with_values number_or_text request)

-- the line of an error on standard error
abbrev pub error_line : Text → Text
error_line e = ended (codes "ftl: " ++ e)

-- what is written on standard output and on standard error
pub record Shown : Type 0 where
  pub text : Text
  pub errors : Text

-- the text and a line feed, and a line for each error
abbrev pub shown : Reply → Shown
shown reply = record { text = ended reply.text; errors = flat_map error_line reply.errors }
