-- What `ftl --version` prints.
use Rattle.std.specs.Prelude.{◌++◌, ◌∷◌, [], codes}
use Rattle.clap.specs.Words.{Text}

abbrev pub version : Text
version = codes "0.1.0"

-- the program's name and its version, on a line
abbrev pub version_line : Text
version_line = codes "ftl " ++ (version ++ 10 ∷ [])
