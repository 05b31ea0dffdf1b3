use Rattle.std.proofs.Common.{◌≡◌, ◌∙◌, ◌+◌, ◌++◌, ◌∷◌, add-one, ap, arith, drop, drop-cons, get_or, is_some, length, subst, sym, false, true}
use Rattle.std.specs.Option.{option_to_list}
use Rattle.std.specs.Vec.Iter.{into_iter_items, into_iter_len, into_iter_steps}
use Rattle.lint_findings.specs.View.{findings_view}
use Rattle.ftl_project.specs.Chosen.{chosen}
use Rattle.ftl_project.specs.GroupsFound.{reference_found}
use Rattle.ftl_project.specs.Paths.{paths}
use Rattle.ftl_project.proofs.ChosenPaths.{skip_unread, stop_found, take_read}
use Rattle.ftl_project.proofs.chosen.push_references.Goals.{then-is_some+in-Some+in_ok-push_chosen, then-is_some+in_default, else-is_some}
use Rattle.ftl_project.proofs.chosen.push_references.Goals as goal

pub loop-reference-preserved : goal.loop-reference-preserved
loop-reference-preserved c =
    let at = c.loop-reference in
    let only = paths c.args.only.now in
    let rs = c.args.references.now in
    let i = at.reference-index in
    let r = c.reference-item.result in
    let rest = drop (i + 1) rs in
    let now = findings_view at.found.items in
    let joined = c.if-is_some in
    let first : drop i rs ≡ get_or rs i r ∷ rest = rw add-one (drop-cons rs i r c.loop-reference-test.true) in
    let left : drop i rs ≡ r ∷ rest = first ∙ ap (λ x. x ∷ rest) (sym c.reference-item.is) in
    elim c.if-is_some.branch [
      | then-is_some+in-Some+in_ok-push_chosen w ↦
          let new = w.push_chosen.new.found.items in
          let steps = w.in-Some.ensures.cases in
          let long : into_iter_len w.next.new.self ≡ length (into_iter_items w.next.new.self) = omega (arith, at.invariant.1, steps.1, ap length steps.0) in (
            ap (λ found. findings_view found.items ++ chosen only (reference_found rest (into_iter_items joined.rest))) w.found-is
                ∙ ap (λ it. findings_view new ++ chosen only (reference_found rest (into_iter_items it))) w.rest-is
                ∙ take_read only now (findings_view new) (drop i rs) rest r w.in-Some.file (into_iter_items at.rest) (into_iter_items w.next.new.self)
                left (sym c.is_some.ensures ∙ w.if-is_some.true) steps.0 w.in_ok-push_chosen.ensures
                ∙ at.invariant.0,
            ap into_iter_len w.rest-is ∙ long ∙ sym (ap (λ it. length (into_iter_items it)) w.rest-is),
          )
      | then-is_some+in_default w ↦
          let ends : (into_iter_len at.rest ≡ 0) × (into_iter_len w.next.new.self ≡ 0) =
          subst (λ x. into_iter_steps at.rest x w.next.new.self) w.in_default.is w.next.ensures.cases in
          let same : into_iter_items at.rest ≡ into_iter_items w.next.new.self =
          subst (λ x. into_iter_items at.rest ≡ option_to_list x ++ into_iter_items w.next.new.self) w.in_default.is w.next.ensures.items in
          let none : length (into_iter_items at.rest) ≡ 0 = sym at.invariant.1 ∙ ends.0 in
          let still : length (into_iter_items w.next.new.self) ≡ 0 = ap length (sym same) ∙ none in (
            ap (λ found. findings_view found.items ++ chosen only (reference_found rest (into_iter_items joined.rest))) w.found-is
                ∙ ap (λ it. now ++ chosen only (reference_found rest (into_iter_items it))) w.rest-is
                ∙ stop_found only now (drop i rs) rest (into_iter_items at.rest) (into_iter_items w.next.new.self) none still
                ∙ at.invariant.0,
            ap into_iter_len w.rest-is ∙ ends.1 ∙ sym still ∙ sym (ap (λ it. length (into_iter_items it)) w.rest-is),
          )
      | else-is_some w ↦ (
        ap (λ found. findings_view found.items ++ chosen only (reference_found rest (into_iter_items joined.rest))) w.found-is
            ∙ ap (λ it. now ++ chosen only (reference_found rest (into_iter_items it))) w.rest-is
            ∙ skip_unread only now (drop i rs) rest r (into_iter_items at.rest) left (sym c.is_some.ensures ∙ w.if-is_some.false)
            ∙ at.invariant.0,
        ap into_iter_len w.rest-is ∙ at.invariant.1 ∙ sym (ap (λ it. length (into_iter_items it)) w.rest-is),
      )
    ]
