use Rattle.std.proofs.Common.{[], ◌++◌, ap, sym, ◌∙◌, refl}
use Rattle.fluent_serve.specs.Frames.{frame_of, ok}
use Rattle.fluent_run.proofs.AskedLines.{bad-asked, same-asked}
use Rattle.fluent_run.specs.ReplyView.{reply_of}
use Rattle.fluent_serve.proofs.Outcomes.{on_ok_map}
use Rattle.fluent_serve.specs.RequestView.{arguments_behind}
use Rattle.fluent_run.proofs.desk.push_lone.Goals as goal

pub returns-then-are_arguments-clause-ok : goal.returns-then-are_arguments-clause-ok
returns-then-are_arguments-clause-ok c =
    let text = ok (reply_of c.args.text.now []) in
    let same = same-asked (λ more. text) text (arguments_behind c.args.arguments) (sym c.if-are_arguments.true ∙ c.are_arguments.ensures) (λ more. refl) in
    on_ok_map c.push_text.result (λ is. is ∙ ap (λ a. c.args.out.now.items ++ frame_of a) same) c.push_text.ensures.ok

pub returns-else-are_arguments-clause-ok : goal.returns-else-are_arguments-clause-ok
returns-else-are_arguments-clause-ok c =
    let bad = bad-asked (λ more. ok (reply_of c.args.text.now [])) (arguments_behind c.args.arguments) (sym c.if-are_arguments.false ∙ c.are_arguments.ensures) in
    on_ok_map c.push_to.result (λ is. is ∙ ap (λ a. c.args.out.now.items ++ frame_of a) bad) c.push_to.ensures.ok
