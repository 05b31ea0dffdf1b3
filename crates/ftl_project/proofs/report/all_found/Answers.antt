use Rattle.std.proofs.Common.{◌≡◌, ◌∙◌, ◌++◌, ◌∷◌, [], List, length, refl, sym, ap, append-nil, append_assoc, arith}
use Rattle.std.proofs.lemmas.List.Concat.{flat_map-append}
use Rattle.std.specs.Vec.Iter.{into_iter_items}
use Rattle.lint_findings.specs.View.{file_findings_view, findings_view}
use Rattle.ftl_project.specs.Reports.{all_found, groups_view}
use Rattle.ftl_project.proofs.report.all_found.Goals as goal

nothing_left : {X : Type 0} (l : List X) → length l ≡ 0 → l ≡ []
nothing_left [] h = refl
nothing_left (x ∷ xs) h = absurd (omega arith)

pub loop-group-preserved : goal.loop-group-preserved
loop-group-preserved c =
    let at = c.loop-group in
    let one = c.in-Some.group in
    let rest = into_iter_items c.next.new.self in
    let left = all_found (groups_view rest) in
    let now = at.all.items in
    let steps : into_iter_items at.group-iterator ≡ one ∷ rest = c.in-Some.ensures.steps.0 in (
      ap (λ fs. findings_view fs ++ left) c.in_ok-append.ensures.items
          ∙ ap (λ fs. fs ++ left) (flat_map-append file_findings_view now one.found.items)
          ∙ append_assoc (findings_view now) (findings_view one.found.items) left
          ∙ ap (λ gs. findings_view now ++ all_found (groups_view gs)) (sym steps)
          ∙ at.invariant.0,
      let was = at.invariant.1 in
          let gone = c.in-Some.ensures.steps.1 in
          let short = ap length steps in
          omega arith,
    )

pub returns : goal.returns
returns c =
    let at = c.loop-group in
    let now = findings_view at.all.items in
    let none = c.in-None.ensures.steps in
    let empty : into_iter_items at.group-iterator ≡ [] = nothing_left _ (sym at.invariant.1 ∙ none.0) in
    sym (append-nil now) ∙ ap (λ gs. now ++ all_found (groups_view gs)) (sym empty) ∙ at.invariant.0
    ∙ ap (λ fs. findings_view fs ++ all_found (groups_view (into_iter_items c.into_iter-group-iterator.result))) c.new-all.ensures.items
    ∙ ap (λ gs. all_found (groups_view gs)) c.into_iter-group-iterator.ensures.into_iter_gives.0
