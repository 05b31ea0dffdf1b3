use Rattle.std.proofs.Common.{◌≡◌, drop}
use Rattle.fluent_dates.specs.Patterns.{has_any}
use Rattle.fluent_dates.proofs.places.has_any.Given as goal

-- none of the places before this one has a field
abbrev pub invariant-loop-field : goal.invariant-loop-field
invariant-loop-field l = has_any (drop l.field-index l.fields) ≡ has_any l.fields
