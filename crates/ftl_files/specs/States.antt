-- What is known of a folder, by its ghosts.
use Rattle.ftl_files.specs.Files.{State}
use Rattle.ftl_files.specs.declared.folder.Folder.{Ghosts as FolderGhosts}

abbrev pub state_of : {F : Type 0} → FolderGhosts F → F → State
state_of folders folder = record { contents = folders.contents folder; sources = folders.sources folder; failures = folders.failures folder }
