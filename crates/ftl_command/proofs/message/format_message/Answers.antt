use Rattle.std.proofs.Common.{◌∙◌, ap, option_map}
use Rattle.std.proofs.lemmas.Result.{IfOk-weaker}
use Rattle.ftl_command.specs.FormatView.{message_from}
use Rattle.ftl_command.specs.Shown.{shown}
use Rattle.ftl_command.proofs.message.format_message.Goals as goal

pub returns : goal.returns
returns g c =
    let asked = message_from g.M.MemoizerKind c.args.plurals.now c.args.settings c.args.sources.now c.args.id.now c.args.attribute in
    IfOk-weaker c.written.result _ _ (λ formatted is. is ∙ ap (option_map shown) (c.in_ok-reply.ensures ∙ ap asked c.in_ok-arguments.ensures)) c.written.ensures
