-- What an error shows.
use Rattle.std.specs.Prelude.{ℕ, List, codes}
use Rattle.fluent_json.specs.declared.error.FromValueError.{FromValueError}
use Rattle.fluent_json.specs.declared.error.FromValueError.TheVariants.{Memory, Shape}

abbrev pub message : FromValueError → List ℕ
message Memory = codes "out of memory"
message Shape = codes "not the value of a tree"
