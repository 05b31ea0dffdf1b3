use Rattle.std.proofs.Common.{◌≡◌, drop}
use Rattle.fluent_serve.specs.Requests.{arguments_of}
use Rattle.ftl_arguments.proofs.Asked.{reading_on}
use Rattle.ftl_arguments.specs.Meaning.{texts}
use Rattle.ftl_arguments.proofs.formatting.read_arguments.Given as goal

-- the arguments so far, and then those of the words that are left, are all
abbrev pub invariant-loop-word : goal.invariant-loop-word
invariant-loop-word l =
    arguments_of (λ s. s) (texts l.words) ≡ reading_on l.arguments.items (drop l.word-index l.words)
