use Rattle.lint_entries.proofs.NameSets.{one_more}
use Rattle.lint_entries.proofs.names.Names.insert.Goals as goal

pub returns-clause-added : goal.returns-clause-added
returns-clause-added c = λ before has. one_more c.args.name c.args.self.now.names c.insert.new.self before c.in_ok-insert.ensures.updates has
