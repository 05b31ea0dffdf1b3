use Rattle.std.proofs.Common.{◌++◌, string_bytes, ◌+◌, ap, sym, ◌∙◌, subst}
use Rattle.fluent_tidy.proofs.Kept.{Cutting, pushed, cutting_begins, cutting_boundary, cutting_ends, next_slice, never_none}
use Rattle.fluent_tidy.proofs.cutting.push_kept.Goals as goal
use Rattle.fluent_tidy.proofs.cutting.push_kept.Goals.{in-Some+in_ok-push_str, in_default}

pub loop-error-init : goal.loop-error-init
loop-error-init c = cutting_begins (string_bytes c.args.text.now) c.args.source.now c.args.found.now c.utf8.source c.requires

pub range-requires-clause-start_le_end : goal.range-requires-clause-start_le_end
range-requires-clause-start_le_end c =
    (next_slice _ _ _ _ _ _ c.error-item.result c.in-Some.slice c.loop-error.invariant c.loop-error-test.true c.error-item.is c.in-Some.is).ordered

pub range-requires-clause-start_boundary : goal.range-requires-clause-start_boundary
range-requires-clause-start_boundary c = λ _. cutting_boundary c.loop-error.invariant

pub range-requires-clause-end_boundary : goal.range-requires-clause-end_boundary
range-requires-clause-end_boundary c =
    (next_slice _ _ _ _ _ _ c.error-item.result c.in-Some.slice c.loop-error.invariant c.loop-error-test.true c.error-item.is c.in-Some.is).stop

pub loop-error-preserved : goal.loop-error-preserved
loop-error-preserved c = elim c.match-error.branch [
  | in-Some+in_ok-push_str w ↦
      let slice = next_slice _ _ _ _ _ _ c.error-item.result w.in-Some.slice c.loop-error.invariant c.loop-error-test.true c.error-item.is w.in-Some.is in
      subst (λ end. Cutting _ _ _ (string_bytes c.match-error.text) end (c.loop-error.error-index + 1)) (sym w.end-is)
      (slice.on (string_bytes c.match-error.text) (ap string_bytes w.text-is ∙ w.in_ok-push_str.ensures.bytes ∙ ap (λ z. string_bytes c.loop-error.text ++ z) w.range.ensures.value))
  | in_default w ↦ absurd (never_none _ _ _ _ _ _ c.error-item.result c.loop-error.invariant c.loop-error-test.true c.error-item.is w.in_default.is)
]

pub range_from-requires : goal.range_from-requires
range_from-requires c = λ _. cutting_boundary c.loop-error.invariant

pub returns : goal.returns
returns c =
    pushed c.push_str-2.result _ (string_bytes c.loop-error.text) c.range_from.result.now _ c.push_str-2.ensures.bytes
    (ap (λ z. string_bytes c.loop-error.text ++ z) c.range_from.ensures.value ∙ cutting_ends _ _ _ _ _ _ c.loop-error.invariant c.loop-error-test.false)
