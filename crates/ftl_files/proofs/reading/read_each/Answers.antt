use Rattle.std.proofs.Common.{◌∙◌, refl}
use Rattle.ftl_files.specs.States.{state_of}
use Rattle.ftl_files.specs.Reading.{none_read}
use Rattle.ftl_files.specs.TidyView.{read_view}
use Rattle.ftl_files.proofs.ReadLemmas.{read_next}
use Rattle.ftl_files.proofs.reading.read_each.Goals as goal

pub loop-name-init : goal.loop-name-init
loop-name-init g c = record { read = rw c.new-read.ensures none_read; kept = refl }

pub loop-name-preserved : goal.loop-name-preserved
loop-name-preserved g c = record {
  read =
      read_next (state_of g.F.Folder c.args.folder.now) (state_of g.F.Folder c.loop-name.folder) (state_of g.F.Folder c.read_one.new.folder) c.args.names.now
      c.loop-name.name-index _ (read_view c.loop-name.read) _ c.loop-name-test.true c.loop-name.invariant.read c.in_ok-read_one.ensures.read;
  kept = c.in_ok-read_one.ensures.kept ∙ c.loop-name.invariant.kept;
}
