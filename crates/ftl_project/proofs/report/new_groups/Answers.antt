use Rattle.std.proofs.Common.{◌∙◌, [], ◌∷◌, ◌++◌, ap}
use Rattle.std.proofs.lemmas.List.{map-append}
use Rattle.std.specs.List.{flat_map}
use Rattle.std.specs.Vec.Iter.{into_iter_items, into_iter_len}
use Rattle.ftl_project.specs.Baselines.{lines_of}
use Rattle.ftl_project.specs.Left.{new_group}
use Rattle.ftl_project.specs.Reports.{group_view, groups_view}
use Rattle.ftl_project.specs.declared.report.Group.{Group}
use Rattle.ftl_project.proofs.Lines.{new_groups_each}
use Rattle.ftl_project.proofs.Taken.{given_at_last, given_next}
use Rattle.ftl_project.proofs.report.new_groups.Goals as goal

pub loop-group-preserved : goal.loop-group-preserved
loop-group-preserved c =
    let at = c.loop-group in
    let now = at.left.items in
    let one = c.in_ok-new_in.field-0 in
    given_next (λ (g : Group). new_group (lines_of c.args.baseline.now) (group_view g) ∷ []) _
    (groups_view now) (groups_view c.push.new.self.items) (into_iter_items at.group-iterator) (into_iter_items c.next.new.self)
    c.in-Some.group (into_iter_len at.group-iterator) (into_iter_len c.next.new.self) at.invariant c.in-Some.ensures.steps.0 c.in-Some.ensures.steps.1
    (ap groups_view c.in_ok-push.ensures.items ∙ map-append group_view now (one ∷ [])
    ∙ ap (λ g. groups_view now ++ g ∷ []) c.in_ok-new_in.ensures)

pub returns : goal.returns
returns c =
    let at = c.loop-group in
    let lines = lines_of c.args.baseline.now in
    let new = λ (g : Group). new_group lines (group_view g) ∷ [] in
    given_at_last new _ (groups_view at.left.items) (into_iter_items at.group-iterator) (into_iter_len at.group-iterator) at.invariant c.in-None.ensures.steps.0
    ∙ ap (λ gs. groups_view gs ++ flat_map new (into_iter_items c.into_iter-group-iterator.result)) c.in_ok-left.ensures.items
    ∙ ap (λ gs. flat_map new gs) c.into_iter-group-iterator.ensures.into_iter_gives.0
    ∙ new_groups_each lines c.args.groups.items
