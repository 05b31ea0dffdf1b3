use Rattle.std.proofs.Common.{[], ap, ◌∙◌}
use Rattle.fluent_kept.proofs.desk.plain_desk.Goals as goal

pub returns : goal.returns
returns c = λ catalog is.
    let made = c.in_ok-made.ensures in
    record {
      environment = made.calls catalog is [];
      ids = made.ids catalog is;
      entries = made.entries catalog is;
      stack = ap (λ budget. budget.bytes) made.stack ∙ ap (λ k. k.stack) is.sources;
    }
