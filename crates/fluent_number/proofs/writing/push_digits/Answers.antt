use Rattle.std.proofs.Common.{◌+◌, ◌^◌, ◌<◌, ap, ◌∙◌, decimal, drop, length, arith, rules}
use Rattle.fluent_number.proofs.EndZeros.{decimal_one_and, power_le}
use Rattle.fluent_number.proofs.writing.push_digits.Goals as goal

pub overflow_add-power_of_ten : goal.overflow_add-power_of_ten
overflow_add-power_of_ten c =
    let most = power_le c.args.count c.requires.short in
    let fits : c.power_of_ten.result + c.args.digits < 2 ^ 64 = omega (arith, most, c.power_of_ten.ensures.value, c.requires.below) in
    search (rules, fits)

pub range_from-requires : goal.range_from-requires
range_from-requires c =
    let spelled = c.format-one_and_digits.ensures.text ∙ ap (λ n. decimal (n + c.args.digits)) c.power_of_ten.ensures.value ∙ decimal_one_and c.args.count c.args.digits c.requires.short c.requires.below in
    let ascii = c.format-one_and_digits.ensures.ascii 1 in
    let long = ap length spelled in
    λ _. (omega (arith, long), λ _ high. absurd (omega (arith, high, ascii)))

pub returns : goal.returns
returns c =
    let spelled = c.format-one_and_digits.ensures.text ∙ ap (λ n. decimal (n + c.args.digits)) c.power_of_ten.ensures.value ∙ decimal_one_and c.args.count c.args.digits c.requires.short c.requires.below in
    let cut = c.range_from.ensures.value ∙ ap (drop 1) spelled in
    let pushed = rw cut at c.push_str.ensures.bytes in
    search (rules, pushed)
