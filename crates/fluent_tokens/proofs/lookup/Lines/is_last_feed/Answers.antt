use Rattle.std.proofs.Common.{◌∙◌, List, drop, ap}
use Rattle.fluent_tokens.specs.declared.row.Row.{Row}
use Rattle.fluent_tokens.specs.Lookup.{feeds_last}
use Rattle.fluent_tokens.proofs.OneLines.{feed_told}
use Rattle.fluent_tokens.proofs.lookup.Lines.is_last_feed.Goals as goal

pub returns-clause-value : goal.returns-clause-value
returns-clause-value c =
    let place = c.args.place in
    let row = c.find-row.result in
    let holds = c.find-row.ensures.holds in
    c.feeds_last.ensures ∙ ap (λ (rows : List Row). feeds_last row rows place) c.later.ensures ∙ feed_told (drop place c.args.self.now.text.now) place row _ holds.end holds.behind
