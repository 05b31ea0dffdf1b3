use Rattle.ftl_files.proofs.ListingLemmas.{unlisted_added, unlisted_kept}
use Rattle.ftl_files.proofs.listing.push_below.Goals as goal

pub returns-in_ok-push-in-Err : goal.returns-in_ok-push-in-Err
returns-in_ok-push-in-Err g c =
    unlisted_added c.args.folder c.args.walk.now c.push_folder.new.walk (rw c.as_str.ensures.value at c.push_folder.ensures) c.push.new.self c.in_ok-push-in-Err.ensures.items

pub returns-in_err-push-in-Err : goal.returns-in_err-push-in-Err
returns-in_err-push-in-Err g c =
    unlisted_kept c.args.folder c.args.walk.now c.push_folder.new.walk (rw c.as_str.ensures.value at c.push_folder.ensures) c.push.new.self c.in_err-push-in-Err.ensures.items

pub returns-in_default : goal.returns-in_default
returns-in_default g c = rw c.as_str.ensures.value at c.push_folder.ensures
