use Rattle.lint_entries.proofs.TermSets.{one_added}
use Rattle.lint_entries.proofs.terms.ReferredTerms.add.Goals as goal

pub returns : goal.returns
returns c = λ ids has. one_added c.args.id c.args.self.now.ids c.insert.new.self ids c.in_ok-insert.ensures.updates.0 has
