-- The text of why words are no command.
use Rattle.std.specs.Prelude.{ℕ, List, codes}
use Rattle.ftl_arguments.specs.declared.errors.CommandError.{CommandError}
use Rattle.ftl_arguments.specs.declared.errors.CommandError.TheVariants.{Memory, Bad}

abbrev pub words_text : CommandError → List ℕ
words_text Memory = codes "out of memory"
words_text (Bad advice) = codes "bad command line"
