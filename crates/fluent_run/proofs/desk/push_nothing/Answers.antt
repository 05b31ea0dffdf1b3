use Rattle.std.proofs.Common.{◌++◌, ap, sym, ◌∙◌, refl}
use Rattle.fluent_serve.specs.Frames.{frame_of, none}
use Rattle.fluent_run.proofs.AskedLines.{bad-asked, same-asked}
use Rattle.fluent_serve.proofs.Outcomes.{on_ok_map}
use Rattle.fluent_serve.specs.RequestView.{arguments_behind}
use Rattle.fluent_run.proofs.desk.push_nothing.Goals as goal

pub returns-then-are_arguments-clause-ok : goal.returns-then-are_arguments-clause-ok
returns-then-are_arguments-clause-ok c =
    let same = same-asked (λ more. none) none (arguments_behind c.args.arguments) (sym c.if-are_arguments.true ∙ c.are_arguments.ensures) (λ more. refl) in
    on_ok_map c.push_to.result (λ is. is ∙ ap (λ a. c.args.out.now.items ++ frame_of a) same) c.push_to.ensures.ok

pub returns-else-are_arguments-clause-ok : goal.returns-else-are_arguments-clause-ok
returns-else-are_arguments-clause-ok c =
    let bad = bad-asked (λ more. none) (arguments_behind c.args.arguments) (sym c.if-are_arguments.false ∙ c.are_arguments.ensures) in
    on_ok_map c.push_to-else-are_arguments.result (λ is. is ∙ ap (λ a. c.args.out.now.items ++ frame_of a) bad) c.push_to-else-are_arguments.ensures.ok
