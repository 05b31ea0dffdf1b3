use Rattle.std.proofs.Common.{◌≡◌, ◌∙◌, drop, sym, ap, arith}
use Rattle.std.proofs.lemmas.Grind.{common_steps}
use Rattle.lint_texts.specs.NumberParts.{zeros_len}
use Rattle.lint_texts.proofs.NumberSteps.{cut_zeros, zeros_are}
use Rattle.lint_texts.proofs.numbers.without_zeros.Goals as goal

pub range_from-requires : goal.range_from-requires
range_from-requires c = λ _.
    (cut_zeros c.args.digits.now c.zeros_len.result (c.zeros_len.ensures ∙ ap zeros_len c.as_bytes.ensures.value)).boundary c.utf8.digits

pub returns : goal.returns
returns c =
    let s = c.args.digits.now in
    let e : c.zeros_len.result ≡ zeros_len s = c.zeros_len.ensures ∙ ap zeros_len c.as_bytes.ensures.value in
    let at : c.range_from.result.now ≡ drop c.zeros_len.result s = grind (arith, common_steps, c.range_from.ensures.value) in
    at ∙ ap (λ n. drop n s) e ∙ sym (zeros_are s)
