use Rattle.std.proofs.Common.{◌≡◌, ◌∙◌, ◌+◌, ◌-◌, arith, sym, take}
use Rattle.std.proofs.lemmas.Bool.{false≢true}
use Rattle.std.proofs.lemmas.Slice.Eq.{bytes_eq-Decides}
use Rattle.fluent_value.specs.Args.{argument}
use Rattle.fluent_kept.specs.Given.{given_view}
use Rattle.fluent_kept.proofs.LastNamed.{is_last, is_other}
use Rattle.fluent_kept.proofs.given.last_named.Goals as goal

pub returns-then-eq-clause-last : goal.returns-then-eq-clause-last
returns-then-eq-clause-last c =
    let xs = c.args.list.now in
    let n = c.loop-place.place in
    let e : n ≡ n - 1 + 1 = omega arith in
    let whole : argument c.args.name.now (given_view (take (n - 1 + 1) xs)) ≡ argument c.args.name.now (given_view xs) = rw e at c.loop-place.invariant.1 in
    let same = (bytes_eq-Decides _ _).0 (sym c.eq.ensures ∙ c.if-eq.true) ∙ c.as_bytes.ensures.value in
    sym (is_last xs (n - 1) _ c.args.name.now (omega arith) same) ∙ whole

pub loop-place-preserved : goal.loop-place-preserved
loop-place-preserved c =
    let xs = c.args.list.now in
    let n = c.loop-place.place in
    let e : n ≡ n - 1 + 1 = omega arith in
    let whole : argument c.args.name.now (given_view (take (n - 1 + 1) xs)) ≡ argument c.args.name.now (given_view xs) = rw e at c.loop-place.invariant.1 in
    let differs = sym c.eq.ensures ∙ c.if-eq.false in
    (omega arith, sym (is_other xs (n - 1) _ c.args.name.now (omega arith) (λ same. absurd (false≢true (sym differs ∙ (bytes_eq-Decides _ _).1 (same ∙ sym c.as_bytes.ensures.value))))) ∙ whole)
