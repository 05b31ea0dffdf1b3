use Rattle.std.proofs.Common.{◌∙◌, sym, arith, get_or, ◌-◌}
use Rattle.std.proofs.lemmas.Bool.{ne_eqb}
use Rattle.std.proofs.lemmas.List.Sums.{prefix_len-le-length}
use Rattle.lint_findings.specs.Addresses.{is_host_byte}
use Rattle.lint_texts.proofs.AddressSteps.{cut_host, trimmed, untrimmed}
use Rattle.lint_texts.proofs.addresses.host_len.Goals as goal

pub loop-len-preserved : goal.loop-len-preserved
loop-len-preserved c =
    let s = c.args.text.now in
    let n = c.loop-len.len in (
      omega (arith, c.loop-len.invariant.0),
      trimmed s n c.loop-len-test.true (omega (arith, c.loop-len.invariant.0, prefix_len-le-length is_host_byte s)) c.if-text-len-eq46.true ∙ c.loop-len.invariant.1,
    )

pub returns-else-text-len-eq46-clause-value : goal.returns-else-text-len-eq46-clause-value
returns-else-text-len-eq46-clause-value c =
    let s = c.args.text.now in
    let n = c.loop-len.len in
    sym (untrimmed s n c.loop-len-test.true (omega (arith, c.loop-len.invariant.0, prefix_len-le-length is_host_byte s)) (ne_eqb (get_or s (n - 1) 0) 46 c.if-text-len-eq46.false))
    ∙ c.loop-len.invariant.1

pub returns-else-text-len-eq46-clause-cuts : goal.returns-else-text-len-eq46-clause-cuts
returns-else-text-len-eq46-clause-cuts c = cut_host c.args.text.now c.loop-len.len c.loop-len.invariant.0
