-- The texts of errors.
use Rattle.std.specs.Prelude.{ℕ, List, codes}
use Rattle.fluent_serve.specs.declared.serve.RunError.{RunError}
use Rattle.fluent_serve.specs.declared.serve.RunError.TheVariants.{Memory, Read, Write}

-- what stops a run
abbrev pub run_text : RunError → List ℕ
run_text Memory = codes "out of memory"
run_text Read = codes "reading failed"
run_text Write = codes "writing failed"
