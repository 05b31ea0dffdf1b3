use Rattle.std.proofs.Common.{◌≡◌, ◌++◌, drop}
use Rattle.std.specs.Prelude.{string_bytes}
use Rattle.fluent_run.specs.Listing.{lines}
use Rattle.fluent_calls.specs.CallValues.{plain_all}
use Rattle.fluent_calls.specs.GatheringView.{all_known, all_lacking}
use Rattle.fluent_calls.proofs.Gathered.{joined}
use Rattle.fluent_calls.proofs.gathering.+gathering.Given as goal

-- The values so far and those of what is left are the whole, and so are the lines.
abbrev pub invariant-gather_values-loop-argument : goal.invariant-gather_values-loop-argument
invariant-gather_values-loop-argument g l =
    let left = drop l.argument-index l.argument-items in
    record {
      known : joined l.are_known (plain_all l.values.items) (all_known l.place l.answers left) ≡ all_known l.place l.answers l.argument-items;
      lacking : string_bytes l.found ++ lines (all_lacking l.place l.answers left) ≡ string_bytes l.initial.found ++ lines (all_lacking l.place l.answers l.argument-items);
    }
