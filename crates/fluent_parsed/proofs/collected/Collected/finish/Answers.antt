use Rattle.std.proofs.Common.{◌≡◌, ◌∙◌, ◌<◌, vec_len, sym, arith}
use Rattle.fluent_parsed.specs.ErrorView.{error_view}
use Rattle.fluent_parsed.proofs.CollectedEntries.{mapped_none, mapped_some, test_none, test_some}
use Rattle.fluent_parsed.proofs.collected.Collected.finish.Goals as goal

pub returns-then-is_empty-clause-tree : goal.returns-then-is_empty-clause-tree
returns-then-is_empty-clause-tree g c = c.in-Ok.ensures.body

pub returns-then-is_empty-clause-errors : goal.returns-then-is_empty-clause-errors
returns-then-is_empty-clause-errors g c =
    let none : vec_len c.push_comment.new.self.errors ≡ 0 = test_none _ (sym c.is_empty.ensures ∙ c.if-is_empty.true) in
    mapped_none error_view c.push_comment.new.self.errors.items c.args.self.errors.items c.push_comment.ensures.errors (omega (arith, c.push_comment.new.self.errors.ok.0))

pub returns-clause-tree : goal.returns-clause-tree
returns-clause-tree g c = c.in-Ok.ensures.body

pub returns-clause-errors : goal.returns-clause-errors
returns-clause-errors g c =
    let some : 0 < vec_len c.push_comment.new.self.errors = test_some _ (sym c.is_empty.ensures ∙ c.if-is_empty.false) in
    mapped_some error_view c.push_comment.new.self.errors.items c.args.self.errors.items c.push_comment.ensures.errors (omega (arith, c.push_comment.new.self.errors.ok.0))
