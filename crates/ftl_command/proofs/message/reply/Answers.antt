use Rattle.std.proofs.Common.{◌∙◌, ap, option_copied}
use Rattle.std.proofs.lemmas.Result.{IfOk-weaker}
use Rattle.fluent_run.proofs.Environments.{desk-same}
use Rattle.fluent_run.specs.DeskView.{arguments_view, message_reply}
use Rattle.ftl_command.proofs.message.reply.Goals as goal

pub returns : goal.returns
returns g c =
    let m = g.M.MemoizerKind in
    let same = desk-same m.category_of m.stringified c.in_ok-desk.desk c.args.plurals.now c.args.settings _ c.deref.result.now c.in_ok-resources.resources.items c.args.sources.now
    c.deref.ensures.value c.in_ok-resources.ensures c.in_ok-desk.ensures in
    IfOk-weaker c.format.result _ _ (λ reply is. is ∙ ap (λ env. message_reply env c.args.id.now (option_copied c.args.attribute) (arguments_view c.args.arguments.now)) same) c.format.ensures
