use Rattle.std.proofs.Common.{◌∙◌, ◌+◌, ◌++◌, map, drop, sym, ap, append_assoc}
use Rattle.lint_findings.specs.Addresses as a
use Rattle.lint_texts.specs.InCode.{address_view}
use Rattle.lint_texts.proofs.AddressSteps.{address_next}
use Rattle.lint_texts.proofs.addresses.push_each.Goals as goal

pub loop-place-preserved : goal.loop-place-preserved
loop-place-preserved c =
    let s = c.args.text.now in
    let i = c.loop-place.place in
    let old = map address_view c.loop-place.addresses.items in
    ap (λ z. z ++ a.addresses_in (drop (i + 1) s)) c.in_ok-push_if_there.ensures
    ∙ append_assoc old (a.address_at (drop i s)) (a.addresses_in (drop (i + 1) s))
    ∙ ap (λ z. old ++ z) (sym (address_next s i c.loop-place-test.true))
    ∙ c.loop-place.invariant
