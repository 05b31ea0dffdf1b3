use Rattle.std.proofs.Common.{◌≡◌, ◌<◌, ◌-◌}
use Rattle.fluent_dates.specs.Patterns.{last_from, last_place}
use Rattle.fluent_dates.proofs.places.last_place.Given as goal

-- the places that are left make the last one, and it is one of the eleven
abbrev pub invariant-loop-place : goal.invariant-loop-place
invariant-loop-place l =
    (last_from (11 - l.place) l.place l.last l.places l.others ≡ last_place l.initial.places l.initial.others) × (l.last < 11)
