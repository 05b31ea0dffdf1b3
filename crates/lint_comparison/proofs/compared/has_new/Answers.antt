use Rattle.std.proofs.Common.{◌∙◌, refl, sym, ap, arith}
use Rattle.std.proofs.lemmas.List.{drop_all}
use Rattle.lint_nodes.specs.HasNames.{texts}
use Rattle.lint_findings.specs.Comparison.{has_new}
use Rattle.lint_comparison.proofs.NewNames.{known_passed, new_found}
use Rattle.lint_comparison.proofs.compared.has_new.Goals as goal

pub loop-name-init : goal.loop-name-init
loop-name-init c = λ ys has. refl

pub loop-name-preserved : goal.loop-name-preserved
loop-name-preserved c = λ ys has.
    sym (known_passed c.args.names.now c.loop-name.name-index _ ys c.loop-name-test.true (sym (c.has.ensures.listed ys has) ∙ c.if-not-has.false))
    ∙ c.loop-name.invariant ys has

pub returns-then-not-has : goal.returns-then-not-has
returns-then-not-has c = λ ys has.
    sym (new_found c.args.names.now c.loop-name.name-index _ ys c.loop-name-test.true (sym (c.has.ensures.listed ys has) ∙ c.if-not-has.true))
    ∙ c.loop-name.invariant ys has

pub returns : goal.returns
returns c = λ ys has.
    let none = drop_all c.loop-name.name-index c.args.names.now (omega (arith, c.loop-name-test.false)) in
    sym (ap (λ l. has_new (texts l) ys) none) ∙ c.loop-name.invariant ys has
