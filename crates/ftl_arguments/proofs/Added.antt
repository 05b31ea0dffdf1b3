-- A command with one more argument, or with help that follows its options, and a program with one more command.
use Rattle.std.proofs.Common.{◌≡◌, ◌∙◌, Bor, Option, ap, ap₂}
use Rattle.std.specs.Prelude.{◌||◌}
use Rattle.clap.specs.Simple.{shape_of_fields}
use Rattle.clap.specs.Words.{AddsArg, AddsSubcommand, App, Rule, Shape, Text, app_of, with_subcommand}
use Rattle.clap.specs.declared.builder.arg.Arg.{Arg}
use Rattle.clap.specs.declared.builder.command.Command.{Command}
use Rattle.clap.specs.declared.builder.command.Command.TheViews.{out-Command as fields_of}
use Rattle.ftl_arguments.specs.Commands.{IsLocal, IsShaped, with_argument}

pub added : (shape : Shape) (rule : Rule) (old new : Command) (a : Arg) → AddsArg old a new → IsShaped shape old → IsLocal rule a
    → IsShaped (with_argument shape rule) new
added shape rule old new a adds is local = (
  ap (λ (app : App). app.top) (adds.shape local.1) ∙ ap₂ with_argument is.0 local.0,
  adds.globals ∙ ap₂ (λ one other. one || other) is.1 local.1,
)

pub helped : (shape : Shape) (old new : Command) (text : Option (Bor Text)) → fields_of new ≡ record (fields_of old) { after_help = text } → IsShaped shape old
    → IsShaped shape new
helped shape old new text e is = (ap shape_of_fields e ∙ is.0, ap (λ fields. fields.has_globals) e ∙ is.1)

pub one_more : (shape : Shape) (old sub new : Command) → AddsSubcommand old sub new → IsShaped shape sub → app_of new ≡ with_subcommand (app_of old) shape
one_more shape old sub new adds is = adds.shape is.1 ∙ ap (with_subcommand (app_of old)) is.0
