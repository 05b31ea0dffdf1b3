use Rattle.std.proofs.Common.{◌≡◌, map, string_bytes, take}
use Rattle.fluent_run.specs.DeskView.{ids_added, plain_ids}
use Rattle.fluent_calls.specs.Functions.{with_names}
use Rattle.fluent_calls.proofs.catalog.ids_with.Given as goal

-- the ids of the resources, and the functions so far
abbrev pub invariant-loop-place : goal.invariant-loop-place
invariant-loop-place l = plain_ids l.ids ≡ with_names (map string_bytes (take l.place l.functions)) (ids_added l.overriding l.resources)
