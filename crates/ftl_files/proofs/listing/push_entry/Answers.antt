use Rattle.std.proofs.Common.{◌∙◌, ap, sym}
use Rattle.ftl_files.specs.Files.{is_source_name}
use Rattle.ftl_files.proofs.ListingLemmas.{folder_added, source_added}
use Rattle.ftl_files.proofs.listing.push_entry.Goals as goal

pub returns-in_ok-push : goal.returns-in_ok-push
returns-in_ok-push g c =
    folder_added c.args.folder.now c.file_name.result.now c.in_ok-path.path c.args.walk.now c.in_ok-path.ensures c.push.new.self c.in_ok-push.ensures.items

pub returns-in_ok-push-2 : goal.returns-in_ok-push-2
returns-in_ok-push-2 g c =
    source_added c.args.folder.now c.file_name.result.now c.in_ok-path.path c.args.walk.now c.in_ok-path.ensures c.push-then-is_source_name.new.self
    c.in_ok-push-2.ensures.items (sym (c.is_source_name.ensures ∙ ap is_source_name c.as_str.ensures.value) ∙ c.if-is_source_name.true)
