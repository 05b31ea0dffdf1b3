use Rattle.std.proofs.Common.{◌≡◌, ◌∷◌, [], ◌++◌, List, length, map, refl, sym, ap, ◌∙◌, append-nil, arith}
use Rattle.std.specs.Vec.Iter.{into_iter_items}
use Rattle.lint_findings.specs.View.{finding_view, remark_view}
use Rattle.lint_findings.specs.declared.remark.Remark.{Remark}
use Rattle.lint_findings.specs.Finding as f
use Rattle.lint_entries.specs.Made.{made_of}
use Rattle.lint_entries.specs.declared.finding.EntryPoint.{EntryPoint}
use Rattle.lint_entries.proofs.Pushed.{first_added, pushed}
use Rattle.lint_entries.proofs.nodes.push_remarks.Goals as goal

nothing_left : {X : Type 0} (l : List X) → length l ≡ 0 → l ≡ []
nothing_left [] h = refl
nothing_left (x ∷ xs) h = absurd (omega arith)

abbrev found : EntryPoint → List Remark → List f.Finding
found place remarks = map (made_of place) (map remark_view remarks)

pub loop-remark-preserved : goal.loop-remark-preserved
loop-remark-preserved c =
    let at = c.loop-remark in
    let place = c.args.place.now in
    let one = c.in-Some.remark in
    let steps : into_iter_items at.remark-iterator ≡ one ∷ into_iter_items c.next.new.self = c.in-Some.ensures.steps.0 in
    let made = made_of place (remark_view one) in (
      first_added (map finding_view at.findings.items) (made ∷ []) (found place (into_iter_items c.next.new.self))
          (pushed at.findings.items c.push.new.self.items c.in_ok-finding.field-0 made c.in_ok-push.ensures.items c.in_ok-finding.ensures)
          (ap (found place) steps)
          ∙ at.invariant.0,
      let was = at.invariant.1 in
          let gone = c.in-Some.ensures.steps.1 in
          let short = ap length steps in
          omega arith,
    )

pub returns : goal.returns
returns c =
    let at = c.loop-remark in
    let now = map finding_view at.findings.items in
    let place = c.args.place.now in
    let none = c.in-None.ensures.steps in
    let empty : into_iter_items at.remark-iterator ≡ [] = nothing_left _ (sym at.invariant.1 ∙ none.0) in
    sym (append-nil now) ∙ ap (λ l. now ++ found place l) (sym empty) ∙ at.invariant.0
    ∙ ap (λ l. map finding_view c.args.findings.now.items ++ found place l) c.into_iter-remark-iterator.ensures.into_iter_gives.0
