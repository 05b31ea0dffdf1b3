use Rattle.std.proofs.Common.{ap, ◌∙◌, sym, map}
use Rattle.std.proofs.lemmas.List.{take_all}
use Rattle.std.proofs.lemmas.Simd.{map-map}
use Rattle.fluent_grammar.specs.Tiling.{tree}
use Rattle.fluent_check.specs.ReportView.{errors_told}
use Rattle.fluent_resource.proofs.Loops.{one-more}
use Rattle.fluent_check.proofs.whole.read_whole.Goals as goal

pub loop-source-preserved : goal.loop-source-preserved
loop-source-preserved c = record {
  trees = c.in_ok-read.ensures.trees ∙ one-more (λ s. tree s.now) c.args.sources.now c.loop-source.source-index _ c.loop-source-test.true _ c.loop-source.invariant.trees;
  errors = c.in_ok-read.ensures.errors ∙ one-more (λ s. errors_told s.now) c.args.sources.now c.loop-source.source-index _ c.loop-source-test.true _ c.loop-source.invariant.errors;
}

pub returns-clause-trees : goal.returns-clause-trees
returns-clause-trees c =
    c.loop-source.invariant.trees
    ∙ ap (map (λ s. tree s.now)) (take_all c.loop-source.source-index c.args.sources.now c.loop-source-test.false)
    ∙ sym (map-map tree (λ s. s.now) c.args.sources.now)

pub returns-clause-errors : goal.returns-clause-errors
returns-clause-errors c =
    c.loop-source.invariant.errors
    ∙ ap (map (λ s. errors_told s.now)) (take_all c.loop-source.source-index c.args.sources.now c.loop-source-test.false)
    ∙ sym (map-map errors_told (λ s. s.now) c.args.sources.now)
