use Rattle.std.proofs.Common.{◌+◌, refl}
use Rattle.ftl_files.specs.States.{state_of}
use Rattle.ftl_files.specs.Tidying.{at_start}
use Rattle.ftl_files.specs.TidyView.{end_view, said_view}
use Rattle.ftl_files.proofs.TidyLemmas.{first_of, on_err, through_next}
use Rattle.ftl_files.proofs.tidying.tidy_all.Goals as goal

pub loop-name-init : goal.loop-name-init
loop-name-init g c = rw c.new-tidied.ensures at_start

pub loop-name-preserved : goal.loop-name-preserved
loop-name-preserved g c =
    through_next c.args.check (state_of g.F.Folder c.args.folder.now) (state_of g.F.Folder c.loop-name.folder) (state_of g.F.Folder c.tidy_file.new.folder) c.args.names.now
    c.loop-name.name-index _ (said_view c.loop-name.tidied) _ (end_view c.in_ok-end.end) c.loop-name-test.true c.loop-name.invariant c.in_ok-end.ensures.ended
    c.in_ok-add.ensures

pub returns-in_err-add-clause-stopped : goal.returns-in_err-add-clause-stopped
returns-in_err-add-clause-stopped g c =
    let start = state_of g.F.Folder c.args.folder.now in
    let there = state_of g.F.Folder c.tidy_file.new.folder in
    on_err c.from_residual-in_err-add.result
    (first_of c.args.check start there there c.args.names.now (c.loop-name.name-index + 1) _
    (through_next c.args.check start (state_of g.F.Folder c.loop-name.folder) there c.args.names.now c.loop-name.name-index _ (said_view c.loop-name.tidied) _ (end_view c.in_ok-end.end)
    c.loop-name-test.true c.loop-name.invariant c.in_ok-end.ensures.ended refl)
    refl)

pub returns-in_err-end-clause-stopped : goal.returns-in_err-end-clause-stopped
returns-in_err-end-clause-stopped g c =
    on_err c.from_residual.result
    (first_of c.args.check (state_of g.F.Folder c.args.folder.now) (state_of g.F.Folder c.loop-name.folder) (state_of g.F.Folder c.tidy_file.new.folder) c.args.names.now
    c.loop-name.name-index _ c.loop-name.invariant c.in_err-end.ensures.kept)
