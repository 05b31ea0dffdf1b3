use Rattle.std.proofs.Common.{◌∙◌}
use Rattle.ftl_project.proofs.Lines.{line_found}
use Rattle.ftl_project.proofs.baseline.Baseline.has.Goals as goal

pub returns : goal.returns
returns c = c.contains.ensures ∙ line_found c.args.self.now.lines.keys c.args.line.now
