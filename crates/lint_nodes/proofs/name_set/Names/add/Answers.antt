use Rattle.lint_nodes.proofs.NamesAdded.{added_new}
use Rattle.lint_nodes.proofs.name_set.Names.add.Goals as goal

pub returns-in_ok-push : goal.returns-in_ok-push
returns-in_ok-push c = λ xs has.
    added_new c.args.name c.args.self.now (record { list = c.push.new.self; set = c.insert.new.self }) c.in_ok-insert.field-0 xs has c.in_ok-insert.ensures.added c.if-branch.true
    c.in_ok-push.ensures.items c.in_ok-insert.ensures.updates.0
