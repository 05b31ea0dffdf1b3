use Rattle.std.proofs.Common.{◌≡◌, ◌++◌, drop, length, map, take}
use Rattle.fluent_dates.specs.Fields.{measure}
use Rattle.fluent_dates.proofs.fields.measures.Given as goal

-- the measures found until now, and those of the fields that are left
abbrev pub invariant-loop-place : goal.invariant-loop-place
invariant-loop-place l =
    (length l.found ≡ 11) × (take l.place l.found ++ map measure (drop l.place l.fields) ≡ map measure l.fields)
