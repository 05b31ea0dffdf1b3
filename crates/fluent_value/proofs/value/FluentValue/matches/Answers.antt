use Rattle.std.proofs.Common.{ap, sym, ◌∙◌}
use Rattle.std.proofs.lemmas.Bool.Decides.{same_from_decides}
use Rattle.fluent_number.specs.Number.{number_of}
use Rattle.fluent_number.proofs.Equal.{numbers_decide}
use Rattle.fluent_value.specs.Matching.{matches}
use Rattle.fluent_value.specs.Value.{number as a_number}
use Rattle.fluent_value.specs.View.{value_view}
use Rattle.fluent_value.proofs.Decided.{number-decides}
use Rattle.fluent_value.proofs.value.FluentValue.matches.Goals as goal

pub returns-in-Number-Number : goal.returns-in-Number-Number
returns-in-Number-Number g c =
    let key = c.in-Number-Number.key in
    let number = c.in-Number-Number.number in
    let plurals = g.S.ValueScope.plurals c.args.scope.now in
    let view = value_view g.C.FluentType.meaning in
    c.eq-in-Number-Number.ensures
    ∙ same_from_decides _ _ (numbers_decide key number) (number-decides (number_of key) (number_of number))
    ∙ sym (ap (λ v. matches plurals (view v) (view c.args.other.now)) c.in-Number-Number.is-0
    ∙ ap (λ v. matches plurals (a_number (number_of key)) (view v)) c.in-Number-Number.is-1)
