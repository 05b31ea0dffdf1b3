use Rattle.std.proofs.Common.{subst, take}
use Rattle.std.proofs.lemmas.List.{take_all}
use Rattle.lint_nodes.specs.HasNames.{texts}
use Rattle.lint_entries.specs.Terms.{AreTermsOf}
use Rattle.lint_entries.proofs.TermSets.{one_more_term}
use Rattle.lint_entries.proofs.terms.ReferredTerms.of.Goals as goal

pub loop-id-preserved : goal.loop-id-preserved
loop-id-preserved c =
    one_more_term c.add.new.self c.args.ids.now c.loop-id.id-index _ c.loop-id-test.true (c.in_ok-add.ensures (texts (take c.loop-id.id-index c.args.ids.now)) c.loop-id.invariant)

pub returns : goal.returns
returns c = subst (λ xs. AreTermsOf c.loop-id.terms (texts xs)) (take_all c.loop-id.id-index c.args.ids.now c.loop-id-test.false) c.loop-id.invariant
