use Rattle.std.proofs.Common.{◌≡◌, take}
use Rattle.fluent_serve.specs.Texts.{texts}
use Rattle.ftl_files.specs.Listed.{AreListed}
use Rattle.ftl_files.specs.States.{state_of}
use Rattle.ftl_files.specs.TidyView.{listed_view}
use Rattle.ftl_files.proofs.listed.list_paths.Given as goal

-- the paths so far are listed, and what the files hold is as it was
abbrev pub invariant-loop-path : goal.invariant-loop-path
invariant-loop-path g l = record {
  listed : AreListed (state_of g.F.Folder l.fn.folder) (texts (take l.path-index l.paths)) (listed_view l.listed) (state_of g.F.Folder l.folder);
  kept : g.F.Folder.contents l.folder ≡ g.F.Folder.contents l.fn.folder;
}
