use Rattle.std.proofs.Common.{◌≡◌, ◌∙◌, ◌++◌, sym, append-nil}
use Rattle.std.specs.Option.{option_to_list}
use Rattle.fluent_parser.proofs.Unread.{refusals_more, places_more}
use Rattle.fluent_parser.proofs.refusals.refusals_of.Goals as goal
use Rattle.fluent_parser.proofs.refusals.refusals_of.Goals.{in-Some+in_ok-push, in_default}

pub loop-start-preserved : goal.loop-start-preserved
loop-start-preserved g c =
    let text = c.as_str-text.result.now in
    let found = c.in_ok-refusal.field-0 in
    let old = c.loop-start.refusals.items in
    let items : c.match-branch-3.refusals.items ≡ old ++ option_to_list found = elim c.match-branch-3.branch [
      | in-Some+in_ok-push w ↦ rw (w.refusals-is, w.in-Some.is) w.in_ok-push.ensures.items
      | in_default w ↦ rw (w.refusals-is, w.in_default.is) (sym (append-nil old))
    ] in
    record {
      text = c.loop-start.invariant.text;
      parser = c.refusal_at.ensures.text ∙ c.loop-start.invariant.parser;
      refusals = rw items (refusals_more text c.args.starts.now c.loop-start.start-index old found c.loop-start-test.true c.loop-start.invariant.refusals c.in_ok-refusal.ensures.value);
      places = rw items (places_more text old found c.loop-start.invariant.places c.in_ok-refusal.ensures.places);
    }
