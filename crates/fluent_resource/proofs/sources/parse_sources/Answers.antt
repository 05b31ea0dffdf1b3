use Rattle.std.proofs.Common.{ap, ◌∙◌, sym, map}
use Rattle.std.proofs.lemmas.List.{take_all}
use Rattle.std.proofs.lemmas.Simd.{map-map}
use Rattle.fluent_grammar.specs.Tiling.{runtime_tree}
use Rattle.fluent_resource.specs.ResourceView.{entries_view}
use Rattle.fluent_resource.proofs.Loops.{map-next}
use Rattle.fluent_resource.proofs.sources.parse_sources.Goals as goal

pub loop-source-preserved : goal.loop-source-preserved
loop-source-preserved c =
    ap (map entries_view) c.in_ok-push.ensures.items
    ∙ map-next entries_view (λ s. runtime_tree s.now) c.loop-source.resources.items c.args.sources.now c.loop-source.source-index _ c.in_ok-parse_source.field-0 c.loop-source-test.true c.in_ok-parse_source.ensures c.loop-source.invariant

pub returns : goal.returns
returns c =
    c.loop-source.invariant
    ∙ ap (map (λ s. runtime_tree s.now)) (take_all c.loop-source.source-index c.args.sources.now c.loop-source-test.false)
    ∙ sym (map-map runtime_tree (λ s. s.now) c.args.sources.now)
