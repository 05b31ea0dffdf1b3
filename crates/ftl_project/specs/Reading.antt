-- Which files of a project are read, and what is said of those that can't be.
use Rattle.std.specs.Prelude.{◌≡◌, List, string_bytes}
use Rattle.fluent_grammar.specs.Words.{Text}
use Rattle.ftl_files.specs.Files.{State}
use Rattle.ftl_files.specs.Reading.{Read, ReadsThrough}
use Rattle.ftl_files.specs.States.{state_of}
use Rattle.ftl_files.specs.declared.folder.Folder.{Ghosts as FolderGhosts}
use Rattle.ftl_files.specs.declared.reported.Reported.{Reported}
use Rattle.ftl_project.specs.declared.sources.Sources.{Sources}

-- the lines of the files that could not be read, and which errors they report
pub record Unread : Type 0 where
  pub errors : Text
  pub reported : Reported

-- Files of some names are read, one after the other, and these are the lines of the others.
pub record AreRead (before after : State) (unread : Unread) : Type 0 where
  pub names : List Text
  pub read : Read
  pub through : ReadsThrough before names read after
  pub is : unread ≡ record { errors = read.errors; reported = read.reported }

-- So they are after the project's file was read and its folders were listed, by which no file changed.
pub record AreReadLater (before after : State) (unread : Unread) : Type 0 where
  pub middle : State
  pub kept : middle.contents ≡ before.contents
  pub read : AreRead middle after unread

-- ---- the code's values

abbrev pub unread_of : Sources → Unread
unread_of s = record { errors = string_bytes s.errors; reported = s.reported }

module _ {F : Type 0} (folders : FolderGhosts F) where
  abbrev pub AreReadOn : F → F → Sources → Type 0
  AreReadOn before after sources = AreRead (state_of folders before) (state_of folders after) (unread_of sources)
