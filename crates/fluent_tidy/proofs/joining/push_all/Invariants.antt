use Rattle.std.proofs.Common.{string_bytes}
use Rattle.fluent_tidy.specs.Sources.{texts}
use Rattle.fluent_tidy.proofs.Gathered.{Gathering}
use Rattle.fluent_tidy.proofs.joining.push_all.Given as goal

-- what is left to do
abbrev pub invariant-loop-source : goal.invariant-loop-source
invariant-loop-source l = Gathering (texts l.sources) (string_bytes l.text) l.source-index
