use Rattle.std.proofs.Common.{◌≡◌, ◌∙◌, ◌++◌, [], OnOk, ap, append-nil, string_bytes, subst, sym}
use Rattle.std.proofs.lemmas.Iterator.{YieldsList-from_chars}
use Rattle.std.proofs.lemmas.Iterator.Consumers.{YieldsList-end}
use Rattle.std.proofs.lemmas.List.{map-id}
use Rattle.fluent_dates.specs.Items.{at_start, items_of, read}
use Rattle.fluent_dates.specs.Writing.{written}
use Rattle.fluent_dates.proofs.streaming.push_pattern.Goals as goal

pub returns : goal.returns
returns c =
    let all = YieldsList-end (YieldsList-from_chars c.args.pattern.now c.utf8.pattern cc) c.loop-c.yielded _ c.loop-c.yielded_by _ _ c.in-None.is c.next.ensures.steps in
    let whole = ap (read at_start) (append-nil c.loop-c.yielded ∙ sym (map-id c.loop-c.yielded) ∙ all.0) in
    let text = c.loop-c.invariant [] ∙ ap (λ items. string_bytes c.args.text.now ++ written c.args.row.now c.args.value.now (items_of c.args.pattern.now) items) whole in
    subst (λ t. OnOk c.flush.result (string_bytes c.flush.new.text ≡ t)) text c.flush.ensures
