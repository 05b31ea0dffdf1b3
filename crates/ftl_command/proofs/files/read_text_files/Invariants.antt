use Rattle.std.proofs.Common.{◌≡◌, map, take, string_bytes}
use Rattle.fluent_serve.specs.Texts.{texts}
use Rattle.ftl_command.specs.Files.{AreHeld}
use Rattle.ftl_command.proofs.files.read_text_files.Given as goal

-- the files so far are held, and the folder is as it was
abbrev pub invariant-loop-file : goal.invariant-loop-file
invariant-loop-file g l = record {
  held : AreHeld (g.F.Folder.contents l.fn.folder) (texts (take l.file-index l.files)) (map string_bytes l.sources.items);
  kept : g.F.Folder.contents l.folder ≡ g.F.Folder.contents l.fn.folder;
  works : g.F.Folder.failures l.folder ≡ g.F.Folder.failures l.fn.folder;
}
