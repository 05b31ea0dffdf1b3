use Rattle.std.proofs.Common.{◌≡◌, take}
use Rattle.fluent_serve.specs.Texts.{texts}
use Rattle.ftl_files.specs.States.{state_of}
use Rattle.ftl_files.specs.TidyView.{read_view}
use Rattle.ftl_files.specs.Reading.{ReadsThrough}
use Rattle.ftl_files.proofs.reading.read_each.Given as goal

-- the files so far are read, and what they hold is as it was
abbrev pub invariant-loop-name : goal.invariant-loop-name
invariant-loop-name g l = record {
  read : ReadsThrough (state_of g.F.Folder l.fn.folder) (texts (take l.name-index l.names)) (read_view l.read) (state_of g.F.Folder l.folder);
  kept : g.F.Folder.contents l.folder ≡ g.F.Folder.contents l.fn.folder;
}
