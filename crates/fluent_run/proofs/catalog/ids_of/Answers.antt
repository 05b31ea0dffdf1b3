use Rattle.std.proofs.Common.{[], ◌∷◌, ap, sym, ◌∙◌}
use Rattle.std.proofs.lemmas.List.{take_all}
use Rattle.fluent_run.specs.ResourceIds.{all_by_id, by_id}
use Rattle.fluent_run.proofs.ResourceIds.{ids-next}
use Rattle.fluent_meaning.specs.Ids.{number_pair, with_ids}
use Rattle.fluent_run.proofs.catalog.ids_of.Goals as goal

pub loop-resource-preserved : goal.loop-resource-preserved
loop-resource-preserved g c =
    let r = c.resource-item.result in
    c.in_ok-add.ensures
    ∙ ap (λ ids. with_ids c.args.overriding ids (by_id r)) c.loop-resource.invariant
    ∙ sym (ids-next (number_pair ∷ []) c.args.resources.now c.loop-resource.resource-index r c.loop-resource-test.true c.resource-item.is c.args.overriding)

pub returns : goal.returns
returns g c =
    c.loop-resource.invariant
    ∙ ap (λ rs. with_ids c.args.overriding (number_pair ∷ []) (all_by_id rs)) (take_all c.loop-resource.resource-index c.args.resources.now c.loop-resource-test.false)
