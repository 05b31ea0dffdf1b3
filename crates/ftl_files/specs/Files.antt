-- What becomes of files, and of the count of failures.
use Rattle.std.specs.Prelude.{◌≡◌, ◌≢◌, ◌⊎◌, ℕ, ◌==◌, Bool, All, IsTrue, List, [], ◌∷◌, ◌++◌, Option, IfSome, Result, Ok, Err, codes}
use Rattle.std.specs.List.{ends_with}
use Rattle.fluent_serve.specs.Text.{Text}
use Rattle.fluent_serve.specs.Devices.{one_more}
use Rattle.ftl_files.specs.declared.folder.FileError.{FileError}
use Rattle.ftl_files.specs.declared.folder.FileError.TheVariants.{Memory, Unreadable}
use Rattle.ftl_files.specs.declared.folder.ReplaceError.{ReplaceError}
use Rattle.ftl_files.specs.declared.folder.ReplaceError.TheVariants.{Memory as NoMemory, Unwritable}

-- ---- what is known of a folder

pub record State : Type 0 where
  -- what the file of a name holds, if that is known
  pub contents : Text → Option Text
  -- the names that a name stands for, if they are known
  pub sources : Text → Option (List Text)
  -- how many calls have failed
  pub failures : ℕ

-- the outcome holds of a file's text: of what the file holds, if that is known
pub record OnFile (contents : Text → Option Text) (file : Text) (Outcome : Text → Type 0) : Type 0 where
  pub source : Text
  pub held : IfSome (contents file) (λ held. source ≡ held)
  pub outcome : Outcome source

-- The file of a name holds this text, if what it holds is known, and every other file what it held.
pub record IsReplaced (before after : Text → Option Text) (name text : Text) : Type 0 where
  pub holds : IfSome (after name) (λ held. held ≡ text)
  pub others : (other : Text) → other ≢ name → after other ≡ before other

-- the count of failures after a read or a list: want of memory is none
abbrev pub failures_after_file : {A : Type 0} → ℕ → Result A FileError → ℕ
failures_after_file old (Ok bytes) = old
failures_after_file old (Err Memory) = old
failures_after_file old (Err Unreadable) = one_more old

-- and after a replacement
abbrev pub failures_after_replace : {A : Type 0} → ℕ → Result A ReplaceError → ℕ
failures_after_replace old (Ok done) = old
failures_after_replace old (Err NoMemory) = old
failures_after_replace old (Err Unwritable) = one_more old

-- ---- what a name stands for

-- whether the name of a file ends as those of sources do
abbrev pub is_source_name : Text → Bool
is_source_name name = ends_with (λ a b. a == b) name (codes ".ftl")

-- a name begins with that of a folder
pub record IsBelow (folder name : Text) : Type 0 where
  pub rest : Text
  pub is : name ≡ folder ++ rest

-- and is that of a source
abbrev pub IsSourceBelow : Text → Text → Type 0
IsSourceBelow folder name = IsTrue (is_source_name name) × IsBelow folder name

-- the sources of a folder, and then the folders of it that can't be listed
pub record AreBelow (folder : Text) (names : List Text) : Type 0 where
  pub sources : List Text
  pub folders : List Text
  pub are : names ≡ sources ++ folders
  pub of_sources : All (IsSourceBelow folder) sources
  pub of_folders : All (IsBelow folder) folders

-- What a name stands for: itself alone, or what is below a folder of that name.
abbrev pub StandFor : Text → List Text → Type 0
StandFor name names = (names ≡ name ∷ []) ⊎ AreBelow name names
