-- From sources and settings to the answers to request lines.
use Rattle.std.specs.Prelude.{List, [], map, Option, Some, None, option_map}
use Rattle.fluent_grammar.specs.Words.{Text}
use Rattle.fluent_grammar.specs.Tree.{Elements}
use Rattle.fluent_errors.specs.Texts.{resolver_text}
use Rattle.fluent_value.specs.Args.{all_set}
use Rattle.fluent_value.specs.Matching.{Plurals}
use Rattle.fluent_value.specs.Value.{Value, number_or_text}
use Rattle.fluent_meaning.specs.Environment.{Environment}
use Rattle.fluent_meaning.specs.Ids.{Meaning, number_function, function, message, term, attribute_named}
use Rattle.fluent_meaning.specs.Steps.{Done}
use Rattle.fluent_meaning.specs.Substitution.{answer_written}
use Rattle.fluent_serve.specs.Requests.{Request}
use Rattle.fluent_serve.specs.Frames as frames
use Rattle.fluent_serve.specs.Frames.{Reply, answer_line}
use Rattle.fluent_answers.specs.Sources.{Settings, environment_of}

-- the pattern that a request asks for: a message's value, or its first attribute of that name
abbrev pub pattern_asked : {F : Type 0} → Option Text → Option (Meaning F) → Option Elements
pattern_asked attribute None = None
pattern_asked attribute (Some number_function) = None
pattern_asked attribute (Some (function f)) = None
pattern_asked attribute (Some (term m)) = None
pattern_asked None (Some (message m)) = m.value
pattern_asked (Some name) (Some (message m)) = attribute_named name m.attributes

-- a text, with the texts of the errors that came up
abbrev pub told : Done Text → Reply
told a = record { text = a.value; errors = map resolver_text a.errors }

-- what there is for a request: each has its own hundred placeables, and the last value of an argument's name counts
abbrev pub reply_to : {S F : Type 0} → Environment S F → Request (Value S) → Option Reply
reply_to env r = option_map (λ es. told (answer_written env (all_set [] r.arguments) es)) (pattern_asked r.attribute (env.find r.id))

-- what is written for one line
abbrev pub line_from : {S F : Type 0} → Environment S F → Text → Text
line_from env = answer_line number_or_text (reply_to env)

-- what is written for a stream of request lines: nothing passes from one line to the next
abbrev pub answers_from : {S F : Type 0} → Environment S F → Text → Text
answers_from env bytes = frames.answers (line_from env) bytes

-- the same, by sources and settings
abbrev pub line_answered : {S : Type 0} → Type 0 → Plurals → (S → Text) → Settings → List Text → Text → Text
line_answered F plurals shown settings sources = line_from (environment_of {F = F} plurals shown settings sources)

abbrev pub answers : {S : Type 0} → Type 0 → Plurals → (S → Text) → Settings → List Text → Text → Text
answers F plurals shown settings sources bytes = frames.answers (line_answered F plurals shown settings sources) bytes
