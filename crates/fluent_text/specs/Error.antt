-- The texts of errors.
use Rattle.std.specs.Prelude.{ℕ, List, codes}
use Rattle.fluent_text.specs.declared.error.WriteError.{WriteError}
use Rattle.fluent_text.specs.declared.error.WriteError.TheVariants.{Writer, Memory}

abbrev pub error_text : WriteError → List ℕ
error_text Writer = codes "writing was refused"
error_text Memory = codes "out of memory"
