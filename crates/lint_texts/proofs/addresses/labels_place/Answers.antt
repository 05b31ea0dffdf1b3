use Rattle.std.proofs.Common.{◌≡◌, ◌-◌, true, drop, get_or, sym, arith}
use Rattle.std.specs.Prelude.{◌==◌}
use Rattle.std.proofs.lemmas.Bool.Decides.{nat_tests}
use Rattle.fluent_grammar.specs.Words.{dot}
use Rattle.lint_findings.specs.Addresses.{dots}
use Rattle.lint_texts.proofs.AddressSteps.{at_most_one, cut_after_dot, labels_from, two_left}
use Rattle.lint_texts.proofs.addresses.labels_place.Goals as goal
use Rattle.lint_texts.proofs.addresses.labels_place.Goals.{then-is_dotted, else-is_dotted}

pub returns-else-not-host-place-clause-value : goal.returns-else-not-host-place-clause-value
returns-else-not-host-place-clause-value c =
    let s = c.args.host.now in
    let n = c.loop-place.place in
    let some = c.loop-place-test.true in
    let le = c.loop-place.invariant.0 in
    let one = c.loop-place.invariant.1 in
    elim c.if-is_dotted.branch [
      | then-is_dotted w ↦
          let is : (get_or s (n - 1) 0 == dot) ≡ true = grind (arith, nat_tests, w.value-is, c.if-not-host-place.false) in
          sym (labels_from s n le (at_most_one c.loop-place.is_dotted (dots (drop n s)) one) (λ more. two_left s n c.loop-place.is_dotted some le one w.if-is_dotted.true is))
      | else-is_dotted w ↦ absurd (grind (arith, nat_tests, w.value-is, c.if-not-host-place.false))
    ]

pub returns-else-not-host-place-clause-cuts : goal.returns-else-not-host-place-clause-cuts
returns-else-not-host-place-clause-cuts c =
    let s = c.args.host.now in
    let n = c.loop-place.place in
    elim c.if-is_dotted.branch [
      | then-is_dotted w ↦
          let is : (get_or s (n - 1) 0 == dot) ≡ true = grind (arith, nat_tests, w.value-is, c.if-not-host-place.false) in
          cut_after_dot s n c.loop-place.invariant.0 is
      | else-is_dotted w ↦ absurd (grind (arith, nat_tests, w.value-is, c.if-not-host-place.false))
    ]

pub returns-after-loop-place-clause-value : goal.returns-after-loop-place-clause-value
returns-after-loop-place-clause-value c =
    let s = c.args.host.now in
    let n = c.loop-place.place in
    sym (labels_from s n c.loop-place.invariant.0 (at_most_one c.loop-place.is_dotted (dots (drop n s)) c.loop-place.invariant.1) (λ some. absurd (omega (arith, some, c.loop-place-test.false))))
