use Rattle.std.proofs.Common.{◌++◌, Some, None, ap, ◌∙◌, option_copied}
use Rattle.fluent_run.specs.DeskView.{elements_of, environment_in}
use Rattle.fluent_run.proofs.Lines.{line-bad, line-asked}
use Rattle.fluent_serve.proofs.Outcomes.{on_ok_map}
use Rattle.fluent_serve.specs.RequestView.{arguments_behind}
use Rattle.fluent_run.proofs.desk.Desk+M.push_answer.Goals as goal

pub returns-in_default-clause-ok : goal.returns-in_default-clause-ok
returns-in_default-clause-ok g c =
    let env = environment_in g.M.MemoizerKind.category_of g.M.MemoizerKind.stringified c.args.self.now in
    on_ok_map c.push_to.result (λ is. is ∙ ap (λ s. c.args.out.now.items ++ s) (line-bad env c.args.line.now c.in_default.ensures)) c.push_to.ensures.ok

pub returns-in-Some-pattern_named-clause-ok : goal.returns-in-Some-pattern_named-clause-ok
returns-in-Some-pattern_named-clause-ok g c =
    let env = environment_in g.M.MemoizerKind.category_of g.M.MemoizerKind.stringified c.args.self.now in
    let asked = c.in-Some.asked in
    let same = line-asked env c.args.line.now asked.id.now (option_copied asked.attribute) (arguments_behind asked.arguments) (Some (elements_of c.in-Some-pattern_named.pattern.now)) c.in-Some.ensures c.in-Some-pattern_named.ensures in
    on_ok_map c.push_reply.result (λ is. is ∙ ap (λ s. c.args.out.now.items ++ s) same) c.push_reply.ensures.ok

pub returns-in-None-clause-ok : goal.returns-in-None-clause-ok
returns-in-None-clause-ok g c =
    let env = environment_in g.M.MemoizerKind.category_of g.M.MemoizerKind.stringified c.args.self.now in
    let asked = c.in-Some.asked in
    let same = line-asked env c.args.line.now asked.id.now (option_copied asked.attribute) (arguments_behind asked.arguments) None c.in-Some.ensures c.in-None.ensures in
    on_ok_map c.push_nothing.result (λ is. is ∙ ap (λ s. c.args.out.now.items ++ s) same) c.push_nothing.ensures.ok
