-- What the code's texts and errors stand for.
use Rattle.std.specs.Prelude.{◌≡◌, List, map, string_bytes}
use Rattle.fluent_errors.specs.Errors.{Reported, overriding, damaged, unresolved}
use Rattle.fluent_errors.specs.Texts.{bundle_text, resolver_text}
use Rattle.fluent_errors.specs.View.{bundle_view}
use Rattle.fluent_errors.specs.declared.bundle.FluentError.{FluentError}
use Rattle.fluent_grammar.specs.Words.{Text}
use Rattle.fluent_meaning.specs.Steps.{Done}
use Rattle.fluent_serve.specs.Frames as frames
use Rattle.fluent_run.specs.declared.reply.ErrorLine.{ErrorLine}
use Rattle.fluent_run.specs.declared.reply.Reply.{Reply}

-- an error as an answer reports it: of resolving, by its own text alone
abbrev pub error_text : Reported → Text
error_text (overriding kind id) = bundle_text (overriding kind id)
error_text (damaged e) = bundle_text (damaged e)
error_text (unresolved e) = resolver_text e

-- what an error's line says
abbrev pub line_of : ErrorLine → Text
line_of line = error_text (bundle_view line.0.now)

-- what errors' lines say
abbrev pub error_texts : List FluentError → List Text
error_texts errors = map error_text (map bundle_view errors)

-- a text and errors, as plain data
abbrev pub reply_of : Text → List FluentError → frames.Reply
reply_of text errors = record { text = text; errors = error_texts errors }

-- a reply, as plain data
abbrev pub reply_view : Reply → frames.Reply
reply_view r = reply_of (string_bytes r.text) r.errors.items

-- a text and its errors are what was written
abbrev pub IsDone : Done Text → Reply → Type 0
IsDone done reply = (string_bytes reply.text ≡ done.value) × (map bundle_view reply.errors.items ≡ map unresolved done.errors)
