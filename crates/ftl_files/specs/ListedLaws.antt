-- What holds of the files that paths stand for.
use Rattle.std.specs.Prelude.{All, Contains, List}
use Rattle.fluent_serve.specs.Text.{Text}
use Rattle.ftl_files.specs.Files.{IsBelow, State}
use Rattle.ftl_files.specs.Listed.{AreListed, Listed, each_once}

-- a name is one of these paths, or begins with one
pub record IsOfPaths (paths : List Text) (name : Text) : Type 0 where
  pub path : Text
  pub among : Contains paths path
  pub below : IsBelow path name

-- However paths are listed, each file that is gone through is one of theirs.
abbrev pub ListedAreOfPaths : Type 0
ListedAreOfPaths = (start : State) (paths : List Text) (listed : Listed) (there : State) → AreListed start paths listed there →
    All (IsOfPaths paths) (each_once listed)
