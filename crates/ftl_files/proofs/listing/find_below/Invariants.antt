use Rattle.ftl_files.specs.Listing.{IsWalkBelow}
use Rattle.ftl_files.proofs.listing.find_below.Given as goal

-- what was found so far is below the folder
abbrev pub invariant-loop : goal.invariant-loop
invariant-loop g l = IsWalkBelow l.name l.walk
