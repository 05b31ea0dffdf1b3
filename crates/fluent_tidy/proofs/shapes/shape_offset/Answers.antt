use Rattle.std.proofs.Common.{◌≡◌, ◌∙◌, ap, length, rules}
use Rattle.std.specs.Prelude.{unwrap_or}
use Rattle.fluent_tidy.specs.Reasons.{end_before}
use Rattle.fluent_tidy.proofs.FirstShapes.{end-is, is-here, is-later, no-parts}
use Rattle.fluent_tidy.proofs.shapes.shape_offset.Goals as goal

pub returns-then-branch : goal.returns-then-branch
returns-then-branch c =
    let source = c.args.source.now in
    let end : c.unwrap_or-end.result ≡ end_before source c.in-Some.more.now = end-is source c.in-Some.more.now c.unwrap_or-end.result (c.unwrap_or-end.ensures ∙ ap (λ o. unwrap_or o (length source)) (c.copied.ensures ∙ c.first.ensures.value)) in
    c.loop-start.invariant _ (is-here source c.loop-start.left.now c.in-Some.more.now _ c.unwrap_or-end.result _ c.in-Some.ensures.cases.0 end (search rules) c.in_ok-is_shape_between.ensures)

pub loop-start-preserved : goal.loop-start-preserved
loop-start-preserved c = λ offset first.
    let source = c.args.source.now in
    let end : c.unwrap_or-end.result ≡ end_before source c.in-Some.more.now = end-is source c.in-Some.more.now c.unwrap_or-end.result (c.unwrap_or-end.ensures ∙ ap (λ o. unwrap_or o (length source)) (c.copied.ensures ∙ c.first.ensures.value)) in
    c.loop-start.invariant offset (is-later source c.loop-start.left.now c.in-Some.more.now _ c.unwrap_or-end.result offset _ c.in-Some.ensures.cases.0 end (search rules) c.in_ok-is_shape_between.ensures first)

pub returns : goal.returns
returns c = c.loop-start.invariant 0 (no-parts c.args.source.now c.loop-start.left.now c.in_default.ensures.cases)
