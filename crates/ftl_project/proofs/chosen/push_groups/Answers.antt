use Rattle.std.proofs.Common.{◌∙◌, [], ◌∷◌, ◌++◌, ap}
use Rattle.std.proofs.lemmas.List.{map-append}
use Rattle.std.specs.List.{flat_map}
use Rattle.std.specs.Vec.Iter.{into_iter_items, into_iter_len}
use Rattle.ftl_project.specs.GroupsFound.{group_of_language}
use Rattle.ftl_project.specs.Paths.{paths}
use Rattle.ftl_project.specs.Reports.{group_view, groups_view}
use Rattle.ftl_project.specs.declared.language.Linted.{Linted}
use Rattle.ftl_project.proofs.Taken.{given_at_last, given_next, given_ones}
use Rattle.ftl_project.proofs.chosen.push_groups.Goals as goal

pub loop-language-preserved : goal.loop-language-preserved
loop-language-preserved c =
    let at = c.loop-language in
    let now = at.groups.items in
    let one = c.in_ok-group_of.field-0 in
    given_next (λ (x : Linted). group_of_language c.args.project.now (paths c.args.only.now) x ∷ []) _
    (groups_view now) (groups_view c.push.new.self.items) (into_iter_items at.language-iterator) (into_iter_items c.next.new.self)
    c.in-Some.language (into_iter_len at.language-iterator) (into_iter_len c.next.new.self) at.invariant c.in-Some.ensures.steps.0 c.in-Some.ensures.steps.1
    (ap groups_view c.in_ok-push.ensures.items ∙ map-append group_view now (one ∷ [])
    ∙ ap (λ g. groups_view now ++ g ∷ []) c.in_ok-group_of.ensures)

pub returns : goal.returns
returns c =
    let at = c.loop-language in
    let old = groups_view c.args.groups.now.items in
    let one = group_of_language c.args.project.now (paths c.args.only.now) in
    let given = λ (x : Linted). one x ∷ [] in
    given_at_last given _ (groups_view at.groups.items) (into_iter_items at.language-iterator) (into_iter_len at.language-iterator) at.invariant c.in-None.ensures.steps.0
    ∙ ap (λ ls. old ++ flat_map given ls) c.into_iter-language-iterator.ensures.into_iter_gives.0
    ∙ ap (λ l. old ++ l) (given_ones one c.args.languages.items)
