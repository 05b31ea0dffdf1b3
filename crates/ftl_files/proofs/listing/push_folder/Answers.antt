use Rattle.ftl_files.proofs.listing.push_folder.Goals as goal

pub returns-in_err-push_entry-in-Ok : goal.returns-in_err-push_entry-in-Ok
returns-in_err-push_entry-in-Ok g c = λ root below walk. c.push_entry.ensures root below (c.loop-entry.invariant root below walk)

pub loop-entry-preserved-in-Ok : goal.loop-entry-preserved-in-Ok
loop-entry-preserved-in-Ok g c = λ root below walk. c.push_entry.ensures root below (c.loop-entry.invariant root below walk)
