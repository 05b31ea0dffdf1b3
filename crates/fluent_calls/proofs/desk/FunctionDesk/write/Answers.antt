use Rattle.std.proofs.Common.{ap, subst, ◌∙◌}
use Rattle.fluent_answers.specs.Answers.{told}
use Rattle.fluent_meaning.specs.Substitution.{answer_written}
use Rattle.fluent_run.proofs.Replies.{done-told}
use Rattle.fluent_run.specs.Dated.{dated_view}
use Rattle.fluent_run.specs.DeskView.{elements_of}
use Rattle.fluent_calls.specs.CallsView.{desk_environment}
use Rattle.fluent_calls.specs.Functions.{Table}
use Rattle.fluent_calls.specs.Outcomes.{Resolves}
use Rattle.fluent_calls.proofs.desk.FunctionDesk.write.Goals as goal

pub returns-in-Text : goal.returns-in-Text
returns-in-Text g c =
    let args = c.args in
    let written = λ (table : Table).
    answer_written (desk_environment g.M.MemoizerKind.category_of g.K.Otherwise.otherwise args.self.now table) (g.A.Lookup.arguments args.arguments.now) (elements_of args.pattern.now) in
    done-told (written (dated_view c.new-answers.result)) c.in-Text.reply
    (subst (Resolves g.M.MemoizerKind.category_of g.K.Otherwise.otherwise args.self.now (g.A.Lookup.arguments args.arguments.now) c.new-answers.result args.pattern.now) c.in-Text.is c.in_ok-reply.ensures)
    ∙ ap (λ table. told (written table)) c.new-answers.ensures
