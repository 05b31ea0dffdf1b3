-- No argument from the place on has the name.
use Rattle.std.proofs.Common.{◌≡◌, ◌≤◌, length, take}
use Rattle.fluent_value.specs.Args.{argument}
use Rattle.fluent_kept.specs.Given.{given_view}
use Rattle.fluent_kept.proofs.given.last_named.Given as goal

abbrev pub invariant-loop-place : goal.invariant-loop-place
invariant-loop-place l =
    (l.place ≤ length l.list) × (argument l.name (given_view (take l.place l.list)) ≡ argument l.name (given_view l.list))

abbrev pub decreases-loop-place : goal.decreases-loop-place
decreases-loop-place l = l.place
