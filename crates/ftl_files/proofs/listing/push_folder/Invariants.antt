use Rattle.ftl_files.specs.Listing.{AddsBelow}
use Rattle.ftl_files.proofs.listing.push_folder.Given as goal

-- what was added so far is below the folder
abbrev pub invariant-loop-entry : goal.invariant-loop-entry
invariant-loop-entry g l = AddsBelow l.folder l.fn.walk l.walk
