use Rattle.std.proofs.Common.{List, [], ◌++◌, ap, option_map, sym, ◌∙◌}
use Rattle.fluent_grammar.specs.Words.{Text}
use Rattle.fluent_serve.specs.Frames.{frame_of, ok}
use Rattle.fluent_run.proofs.AskedLines.{like-asked, valued-asked, valued-bad}
use Rattle.fluent_run.proofs.OneText.{lone-told}
use Rattle.fluent_run.specs.DeskView.{arguments_view, elements_of, environment_in, pattern_answer, reply_by, values_by_name}
use Rattle.fluent_run.specs.ReplyView.{reply_of}
use Rattle.fluent_serve.proofs.Outcomes.{on_ok_map}
use Rattle.fluent_serve.specs.RequestView.{arguments_behind}
use Rattle.fluent_value.specs.Value.{Value}
use Rattle.fluent_run.proofs.desk.Desk+M.push_reply.Goals as goal

pub returns-in-Some-clause-ok : goal.returns-in-Some-clause-ok
returns-in-Some-clause-ok g c =
    let m = g.M.MemoizerKind in
    let es = elements_of c.args.pattern.now in
    let env = environment_in m.category_of m.stringified c.args.self.now in
    let text = ok (reply_of c.in-Some.text.now []) in
    let same = like-asked (pattern_answer m c.args.self.now es) (λ more. text) (arguments_behind c.args.arguments)
    (λ more. sym (ap ok (lone-told env (values_by_name more) es c.in-Some.text.now (sym c.in-Some.ensures)))) in
    on_ok_map c.push_lone.result (λ is. is ∙ ap (λ a. c.args.out.now.items ++ frame_of a) same) c.push_lone.ensures.ok

pub returns-in_default-2-clause-ok : goal.returns-in_default-2-clause-ok
returns-in_default-2-clause-ok g c =
    let m = g.M.MemoizerKind in
    let es = elements_of c.args.pattern.now in
    let none = sym (ap (λ o. option_map arguments_view o) c.in_default-2.is) ∙ c.in_ok-values.ensures in
    let bad = valued-bad (pattern_answer m c.args.self.now es) (arguments_behind c.args.arguments) none in
    on_ok_map c.push_to.result (λ is. is ∙ ap (λ a. c.args.out.now.items ++ frame_of a) bad) c.push_to.ensures.ok

pub returns-clause-ok : goal.returns-clause-ok
returns-clause-ok g c =
    let m = g.M.MemoizerKind in
    let es = elements_of c.args.pattern.now in
    let answer = λ (args : List (Text × Value (Unit {0}))). ok (reply_by m.category_of m.stringified c.args.self.now args es) in
    let some = sym (ap (λ o. option_map arguments_view o) c.in-Some-2.is) ∙ c.in_ok-values.ensures in
    let same = ap ok c.in_ok-reply.ensures ∙ valued-asked answer (arguments_view c.in-Some-2.values) (arguments_behind c.args.arguments) some in
    on_ok_map c.push_to-2.result (λ is. is ∙ ap (λ a. c.args.out.now.items ++ frame_of a) same) c.push_to-2.ensures.ok
