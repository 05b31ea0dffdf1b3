use Rattle.std.proofs.lemmas.Result.{IfOk-weaker}
use Rattle.ftl_files.proofs.ListingLemmas.{stands_for_listed}
use Rattle.ftl_files.proofs.listing.list_sources.Goals as goal

pub returns-then-is_folder-clause-stand : goal.returns-then-is_folder-clause-stand
returns-then-is_folder-clause-stand g c = IfOk-weaker c.list_below.result _ _ (stands_for_listed c.args.name.now) c.list_below.ensures.below
