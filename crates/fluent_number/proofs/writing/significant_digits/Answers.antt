use Rattle.std.proofs.Common.{◌≢◌, ◌%◌, sym, ap, ◌∙◌}
use Rattle.fluent_number.specs.Digits.{last_digits, without_end_zeros}
use Rattle.fluent_number.proofs.Cut.{no_end_zeros, not_thirty_two}
use Rattle.fluent_number.proofs.EndZeros.{no_digits}
use Rattle.fluent_number.proofs.writing.significant_digits.Goals as goal

pub returns-then-fraction-eq0-clause-digits : goal.returns-then-fraction-eq0-clause-digits
returns-then-fraction-eq0-clause-digits c =
    no_digits ∙ ap (λ n. without_end_zeros (last_digits 18 n)) (sym c.if-fraction-eq0.true)

pub returns-clause-digits : goal.returns-clause-digits
returns-clause-digits c =
    let first = c.cut_zeros-count.ensures in
    let second = c.cut_zeros-count-2.ensures in
    let third = c.cut_zeros-count-3.ensures in
    let fourth = c.cut_zeros-count-4.ensures in
    let last = c.cut_zeros.ensures in
    let ends : c.cut_zeros.result.1 % 10 ≢ 0 = last.fewer (fourth.fewer (third.fewer (second.fewer (first.fewer (not_thirty_two c.args.fraction c.requires c.if-fraction-eq0.false))))) in
    sym (no_end_zeros c.cut_zeros.result.0 c.cut_zeros.result.1 last.some last.below ends)
    ∙ last.same ∙ fourth.same ∙ third.same ∙ second.same ∙ first.same
