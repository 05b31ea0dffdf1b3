use Rattle.std.proofs.Common.{take}
use Rattle.fluent_serve.specs.Texts.{texts}
use Rattle.ftl_files.specs.States.{state_of}
use Rattle.ftl_files.specs.TidyView.{said_view}
use Rattle.ftl_files.specs.Tidying.{GoesThrough}
use Rattle.ftl_files.proofs.tidying.tidy_all.Given as goal

-- the files so far are gone through
abbrev pub invariant-loop-name : goal.invariant-loop-name
invariant-loop-name g l =
    GoesThrough l.check (state_of g.F.Folder l.fn.folder) (texts (take l.name-index l.names)) (said_view l.tidied) (state_of g.F.Folder l.folder)
