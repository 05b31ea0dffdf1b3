use Rattle.std.proofs.Common.{◌∙◌, [], ap, append-nil, sym}
use Rattle.std.proofs.lemmas.Iterator.{YieldsList-from_chars}
use Rattle.std.proofs.lemmas.Iterator.Consumers.{YieldsList-end}
use Rattle.std.proofs.lemmas.List.{map-id}
use Rattle.fluent_dates.specs.Items.{at_start, read}
use Rattle.fluent_dates.proofs.items.items_of.Goals as goal

pub returns : goal.returns
returns c =
    let all = YieldsList-end (YieldsList-from_chars c.args.pattern.now c.utf8.pattern cc) c.loop-c.yielded _ c.loop-c.yielded_by _ _ c.in-None.is c.next.ensures.steps in
    c.in_ok-flush.ensures
    ∙ c.loop-c.invariant []
    ∙ ap (read at_start) (append-nil c.loop-c.yielded ∙ sym (map-id c.loop-c.yielded) ∙ all.0)
