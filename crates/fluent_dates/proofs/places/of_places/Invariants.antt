use Rattle.std.proofs.Common.{◌≡◌, ◌++◌, drop, length, take}
use Rattle.fluent_dates.specs.Patterns.{of_places}
use Rattle.fluent_dates.proofs.places.of_places.Given as goal

-- the fields kept until now, and those that are left, of the places that are left
abbrev pub invariant-loop-place : goal.invariant-loop-place
invariant-loop-place l =
    (length l.out ≡ 11) × (take l.place l.out ++ of_places (drop l.place l.fields) l.rest ≡ of_places l.fields l.places)
