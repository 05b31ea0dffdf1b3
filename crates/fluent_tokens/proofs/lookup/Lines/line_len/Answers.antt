use Rattle.std.proofs.Common.{◌∙◌, drop}
use Rattle.fluent_tokens.proofs.LineEnds.{line_is, line_cuts}
use Rattle.fluent_tokens.proofs.lookup.Lines.line_len.Goals as goal

pub returns-clause-value : goal.returns-clause-value
returns-clause-value c = line_is (drop c.args.place c.args.self.now.text.now) _ (c.saturating_sub.ensures ∙ c.find.ensures.holds.end)

pub returns-clause-cuts : goal.returns-clause-cuts
returns-clause-cuts c = line_cuts (drop c.args.place c.args.self.now.text.now) _ (c.saturating_sub.ensures ∙ c.find.ensures.holds.end)
