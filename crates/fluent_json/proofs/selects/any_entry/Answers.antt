use Rattle.fluent_json.specs.Selects.{in_entry}
use Rattle.fluent_json.proofs.Selected.{all_of_them, in_entries-any}
use Rattle.fluent_json.proofs.selects.any_entry.Goals as goal

pub returns : goal.returns
returns c =
    all_of_them in_entry c.args.entries.now c.loop-entry.entry-index c.loop-entry.found _ c.loop-entry-test.false c.loop-entry.invariant (in_entries-any c.args.entries.now)
