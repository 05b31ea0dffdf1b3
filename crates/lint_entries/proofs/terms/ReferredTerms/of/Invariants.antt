use Rattle.std.proofs.Common.{take}
use Rattle.lint_nodes.specs.HasNames.{texts}
use Rattle.lint_entries.specs.Terms.{AreTermsOf}
use Rattle.lint_entries.proofs.terms.ReferredTerms.of.Given as goal

abbrev pub invariant-loop-id : goal.invariant-loop-id
invariant-loop-id l = AreTermsOf l.terms (texts (take l.id-index l.ids))
