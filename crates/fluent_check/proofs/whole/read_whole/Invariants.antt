use Rattle.std.proofs.Common.{◌≡◌, map, take}
use Rattle.fluent_check.specs.ReportView.{errors_told}
use Rattle.fluent_check.specs.WholeView.{trees_in, errors_in}
use Rattle.fluent_grammar.specs.Tiling.{tree}
use Rattle.fluent_check.proofs.whole.read_whole.Given as goal

-- what was read of the sources so far
abbrev pub invariant-loop-source : goal.invariant-loop-source
invariant-loop-source l = record {
  trees : trees_in l.whole ≡ map (λ s. tree s.now) (take l.source-index l.sources);
  errors : errors_in l.whole ≡ map (λ s. errors_told s.now) (take l.source-index l.sources);
}
