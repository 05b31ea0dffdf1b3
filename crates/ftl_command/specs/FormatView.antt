-- What a message is written as, by the code's own values.
use Rattle.std.specs.Prelude.{◌≡◌, List, Option, option_copied, option_map, string_bytes}
use denote.Ref.{Bor}
use Rattle.fluent_answers.specs.Sources.{environment_of}
use Rattle.fluent_errors.specs.Errors.{Reported}
use Rattle.fluent_grammar.specs.Words.{Text}
use Rattle.fluent_serve.specs.Frames.{Reply}
use Rattle.fluent_serve.specs.Requests.{Request}
use Rattle.fluent_meaning.specs.Environment.{Environment}
use Rattle.fluent_run.specs.DeskView.{message_reply, arguments_view as values_view}
use Rattle.fluent_run.specs.ReplyView.{error_text, reply_view}
use Rattle.fluent_run.specs.declared.reply.Reply as code
use Rattle.fluent_run.specs.RunView.{no_text, settings_view}
use Rattle.fluent_run.specs.declared.settings.Settings.{Settings}
use Rattle.fluent_serve.specs.RequestView.{arguments_view}
use Rattle.fluent_serve.specs.Texts.{texts}
use Rattle.fluent_value.specs.Value.{Value}
use Rattle.fluent_value.specs.declared.args.FluentArgs.{FluentArgs}
use Rattle.fluent_value.specs.declared.custom.NoCustom.{NoCustom}
use Rattle.fluent_value.specs.declared.function.NoFunction.{NoFunction}
use Rattle.fluent_value.specs.declared.plurals.MemoizerKind.{Ghosts as KindGhosts}
use Rattle.ftl_command.specs.Shown.{Shown, error_line, reply_asked, shown}
use Rattle.ftl_command.specs.declared.message.Formatted.{Formatted}

abbrev pub formatted_view : Formatted → Shown
formatted_view f = record { text = string_bytes f.text; errors = string_bytes f.errors }

-- a request for a message, or for an attribute of it, with these arguments
abbrev pub request_of : Text → Option (Bor Text) → List (Bor Text × Bor Text) → Request Text
request_of id attribute arguments = record { id = id; attribute = option_copied attribute; arguments = arguments_view arguments }

-- what stays the same while sources are asked, by what a plural source means
abbrev pub environment_from : {M : Type 0} → KindGhosts M → M → Settings → List (Bor Text) → Environment (Unit {0}) NoFunction
environment_from kind plurals settings sources =
    environment_of (kind.category_of plurals) (kind.stringified plurals (Unit {0}) no_text) (settings_view settings) (texts sources)

-- what a message of sources gives for these arguments
abbrev pub message_from : {M : Type 0} → KindGhosts M → M → Settings → List (Bor Text) → Text → Option (Bor Text) → List (Text × Value (Unit {0})) → Option Reply
message_from kind plurals settings sources id attribute args =
    message_reply (environment_from kind plurals settings sources) id (option_copied attribute) args

-- the code's reply is that
abbrev pub IsReply : {M : Type 0} → KindGhosts M → M → Settings → List (Bor Text) → Text → Option (Bor Text) → FluentArgs NoCustom → Option code.Reply → Type 0
IsReply kind plurals settings sources id attribute args reply =
    option_map reply_view reply ≡ message_from kind plurals settings sources id attribute (values_view args)

-- the code's text and lines are those that are written of a reply, if there is one
abbrev pub IsWrittenAs : Option Reply → Option Formatted → Type 0
IsWrittenAs reply formatted = option_map formatted_view formatted ≡ option_map shown reply

-- they are those that are written for a request to sources
abbrev pub IsWritten : {M : Type 0} → KindGhosts M → M → Settings → List (Bor Text) → Text → Option (Bor Text) → List (Bor Text × Bor Text) → Option Formatted → Type 0
IsWritten kind plurals settings sources id attribute arguments formatted =
    IsWrittenAs (reply_asked NoFunction (kind.category_of plurals) (kind.stringified plurals (Unit {0}) no_text) (settings_view settings) (texts sources)
    (request_of id attribute arguments)) formatted

-- the line of an error that was reported
abbrev pub line_told : Reported → Text
line_told e = error_line (error_text e)
