use Rattle.std.proofs.Common.{◌++◌, take, ap, subst, sym, ◌∙◌}
use Rattle.std.proofs.lemmas.List.{take_all}
use Rattle.fluent_meaning.specs.Ids.{entries_by_id, find}
use Rattle.fluent_run.specs.DeskView.{plain_ids}
use Rattle.fluent_run.specs.Listed.{Lists}
use Rattle.fluent_run.specs.Listing.{message_lines}
use Rattle.fluent_run.specs.ResourceIds.{all_by_id}
use Rattle.fluent_run.proofs.Listed.{lists_none}
use Rattle.fluent_run.proofs.ResourceIds.{all_by_id-next}
use Rattle.fluent_run.proofs.listing.message_lines.Goals as goal

pub loop-resource-init : goal.loop-resource-init
loop-resource-init g c = lists_none c.args.ids.now c.new-listing.result c.new-listing.ensures.text c.new-listing.ensures.seen

pub loop-resource-preserved : goal.loop-resource-preserved
loop-resource-preserved g c =
    let rs = c.args.resources.now in
    let i = c.loop-resource.resource-index in
    let before = all_by_id (take i rs) in
    subst (λ es. Lists c.args.ids.now es c.add_all.new.self)
    (ap (λ es. before ++ entries_by_id es) c.tree.ensures ∙ sym (all_by_id-next rs i c.resource-item.result c.loop-resource-test.true c.resource-item.is))
    (c.in_ok-add_all.ensures before c.loop-resource.invariant)

pub returns : goal.returns
returns g c =
    c.loop-resource.invariant.text
    ∙ ap (λ rs. message_lines (find (plain_ids c.args.ids.now)) (all_by_id rs)) (take_all c.loop-resource.resource-index c.args.resources.now c.loop-resource-test.false)
