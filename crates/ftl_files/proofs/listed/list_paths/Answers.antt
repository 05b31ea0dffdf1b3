use Rattle.std.proofs.Common.{◌∙◌, refl}
use Rattle.ftl_files.specs.Listed.{no_path}
use Rattle.ftl_files.specs.Listing.{listed_names}
use Rattle.ftl_files.specs.States.{state_of}
use Rattle.ftl_files.specs.TidyView.{listed_view}
use Rattle.ftl_files.proofs.ListedLemmas.{listed_next}
use Rattle.ftl_files.proofs.listed.list_paths.Goals as goal

pub loop-path-init : goal.loop-path-init
loop-path-init g c = record { listed = rw c.new-listed.ensures no_path; kept = refl }

pub loop-path-preserved : goal.loop-path-preserved
loop-path-preserved g c = record {
  listed =
      listed_next (state_of g.F.Folder c.args.folder.now) (state_of g.F.Folder c.loop-path.folder) (state_of g.F.Folder c.list_path.new.folder) c.args.paths.now
      c.loop-path.path-index _ (listed_view c.loop-path.listed) _ (listed_names c.in_ok-listing.listing) c.loop-path-test.true c.loop-path.invariant.listed
      c.in_ok-listing.ensures.listed c.in_ok-listing.ensures.kept c.in_ok-add.ensures;
  kept = c.in_ok-listing.ensures.kept ∙ c.loop-path.invariant.kept;
}
