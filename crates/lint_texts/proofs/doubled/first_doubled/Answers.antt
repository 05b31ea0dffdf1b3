use Rattle.std.proofs.Common.{◌≡◌, ◌∙◌, get_or, string_bytes, ap, sym}
use Rattle.lint_findings.specs.Doubled.{doubled_in}
use Rattle.lint_texts.proofs.Passing.{found_here, found_later}
use Rattle.lint_texts.proofs.doubled.first_doubled.Goals as goal

pub loop-text-preserved : goal.loop-text-preserved
loop-text-preserved c =
    let xs = c.args.texts.now in
    let i = c.loop-text.text-index in
    let x = c.text-item.result in
    let text : string_bytes (get_or xs i x) ≡ c.as_str.result.now = sym (c.as_str.ensures.value ∙ ap string_bytes c.text-item.is) in
    found_later string_bytes xs i x c.loop-text-test.true doubled_in (ap doubled_in text ∙ sym c.in_default.ensures) ∙ c.loop-text.invariant

pub returns-in-Some : goal.returns-in-Some
returns-in-Some c =
    let xs = c.args.texts.now in
    let i = c.loop-text.text-index in
    let x = c.text-item.result in
    let text : string_bytes (get_or xs i x) ≡ c.as_str.result.now = sym (c.as_str.ensures.value ∙ ap string_bytes c.text-item.is) in
    sym (found_here string_bytes xs i x c.loop-text-test.true doubled_in c.in-Some.at.now (ap doubled_in text ∙ sym c.in-Some.ensures)) ∙ c.loop-text.invariant
