use Rattle.std.proofs.Common.{sym, rules}
use Rattle.fluent_date_tables.proofs.PartSteps.{before_at, before_none}
use Rattle.fluent_date_tables.proofs.parts.before.Goals as goal

pub returns-in-Some : goal.returns-in-Some
returns-in-Some c =
    let found = before_at c.args.text.now c.in-Some.at (search rules) (search rules) (search rules) in
    rw found (search rules)

pub returns-in-None : goal.returns-in-None
returns-in-None c = sym (before_none c.args.text.now (search rules))
