use Rattle.std.proofs.Common.{false}
use Rattle.fluent_ids.proofs.Steps.{seen_more}
use Rattle.fluent_run.proofs.listing.Listing.add.Goals as goal

pub returns-in_ok-push_line-clause-seen : goal.returns-in_ok-push_line-clause-seen
returns-in_ok-push_line-clause-seen g c = seen_more false c.args.self.now.seen c.insert.new.self c.args.id c.in_ok-insert.ensures.updates

pub returns-else-branch-clause-seen : goal.returns-else-branch-clause-seen
returns-else-branch-clause-seen g c = seen_more false c.args.self.now.seen c.insert.new.self c.args.id c.in_ok-insert.ensures.updates
