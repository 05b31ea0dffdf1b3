use Rattle.fluent_resource.proofs.Loops.{if_ok-map}
use Rattle.fluent_run.proofs.Replies.{done-told}
use Rattle.fluent_run.specs.DeskView.{answer_in, gives_error}
use Rattle.fluent_run.proofs.desk.Desk+M.reply_to.Goals as goal

pub returns : goal.returns
returns g c =
    let done = answer_in g.M.MemoizerKind gives_error c.args.self.now c.args.arguments.now c.args.pattern.now in
    if_ok-map c.resolve.result (λ reply is. done-told done reply is) c.resolve.ensures
