use Rattle.std.proofs.Common.{ap, subst, sym, ◌∙◌}
use Rattle.fluent_kept.specs.Answers.{Answers}
use Rattle.fluent_kept.proofs.handle.FluentBundle.ask.Goals as goal

pub returns-clause-answer : goal.returns-clause-answer
returns-clause-answer c =
    let same = c.replace.ensures.value in
    let taken = c.in_ok-bundle.ensures in (
      ap (λ h. h.held) (sym same) ∙ taken.0,
      subst (λ catalog. Answers catalog c.args.question.now c.ask-answer.result) (taken.1 ∙ ap (λ h. h.catalog) same) c.ask-answer.ensures.0,
    )
