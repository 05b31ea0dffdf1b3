use Rattle.std.proofs.Common.{refl}
use Rattle.lint_findings.specs.View.{remark_view}
use Rattle.lint_flaws.proofs.Said.{pushed}
use Rattle.lint_flaws.proofs.adding.push_remark.Goals as goal

pub returns : goal.returns
returns c = pushed c.args.found.now.items c.push.new.self.items c.args.remark (remark_view c.args.remark) c.in_ok-push.ensures.items refl
