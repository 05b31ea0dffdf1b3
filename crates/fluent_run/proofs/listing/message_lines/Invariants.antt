use Rattle.std.proofs.Common.{take}
use Rattle.fluent_run.specs.Listed.{Lists}
use Rattle.fluent_run.specs.ResourceIds.{all_by_id}
use Rattle.fluent_run.proofs.listing.message_lines.Given as goal

-- the entries of the resources so far were listed
abbrev pub invariant-loop-resource : goal.invariant-loop-resource
invariant-loop-resource g l = Lists l.ids (all_by_id (take l.resource-index l.resources)) l.listing
