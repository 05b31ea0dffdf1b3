-- The files that paths stand for.
use Rattle.std.specs.Prelude.{◌≡◌, ◌⊎◌, Bool, true, false, List, [], ◌∷◌, ◌++◌, IfSome, codes}
use Rattle.fluent_serve.specs.Text.{Text}
use Rattle.fluent_serve.specs.Devices.{HasFailed}
use Rattle.lint_findings.specs.Comparison.{union}
use Rattle.ftl_files.specs.Files.{StandFor, State}

-- the names of files, the lines of the paths that stand for none, and whether there is one
pub record Listed : Type 0 where
  pub names : List Text
  pub errors : Text
  pub no_file : Bool

abbrev pub nothing_listed : Listed
nothing_listed = record { names = []; errors = []; no_file = false }

-- `ftl: PATH: there is no .ftl file in it`
abbrev pub no_file_line : Text → Text
no_file_line path = codes "ftl: " ++ (path ++ codes ": there is no .ftl file in it\n")

-- and after one more path, which stands for these
abbrev pub listed_after : Listed → Text → List Text → Listed
listed_after l path [] = record l { errors = l.errors ++ no_file_line path; no_file = true }
listed_after l path (name ∷ names) = record l { names = l.names ++ name ∷ names }

-- each file once, by its name, as it is listed first
abbrev pub each_once : Listed → List Text
each_once l = union [] l.names

-- a path stands for these names, and for all that are known
pub record IsListedRight (path : Text) (names : List Text) (before : State) : Type 0 where
  pub stand : StandFor path names
  pub known : IfSome (before.sources path) (λ all. names ≡ all)

-- What a path is listed as. One that can't be listed stands for itself.
abbrev pub IsListedAs : Text → List Text → State → State → Type 0
IsListedAs path names before after = IsListedRight path names before ⊎ ((names ≡ path ∷ []) × HasFailed before.failures after.failures)

-- paths are listed, one after the other, and what the files hold stays
pub data AreListed (start : State) : List Text → Listed → State → Type 0 where
  no_path : AreListed start [] nothing_listed start
  one_path : {paths : List Text} {listed : Listed} {here : State} (path : Text) (below : List Text) (there : State) → AreListed start paths listed here
      → IsListedAs path below here there → there.contents ≡ here.contents → AreListed start (paths ++ path ∷ []) (listed_after listed path below) there
