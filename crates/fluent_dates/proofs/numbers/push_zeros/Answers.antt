use Rattle.std.proofs.Common.{◌∙◌, ◌++◌, ap, sym, replicate, string_bytes, append_assoc}
use Rattle.fluent_dates.specs.Numbers.{native, natives}
use Rattle.fluent_dates.proofs.WritingSteps.{natives_next}
use Rattle.fluent_dates.proofs.numbers.push_zeros.Goals as goal

pub loop-preserved : goal.loop-preserved
loop-preserved c =
    let g = c.args.glyphs.now in
    let k = c.loop.counter in
    let start = string_bytes c.args.text.now in
    c.in_ok-push_digit.ensures
    ∙ ap (λ s. s ++ native g 48) c.loop.invariant
    ∙ append_assoc start (natives g (replicate k 48)) (native g 48)
    ∙ ap (λ s. start ++ s) (sym (natives_next g k))
