use Rattle.std.proofs.Common.{◌≡◌, map, take}
use Rattle.fluent_grammar.specs.Tiling.{runtime_tree}
use Rattle.fluent_resource.specs.ResourceView.{entries_view}
use Rattle.fluent_resource.proofs.sources.parse_sources.Given as goal

abbrev pub invariant-loop-source : goal.invariant-loop-source
invariant-loop-source l = map entries_view l.resources.items ≡ map (λ s. runtime_tree s.now) (take l.source-index l.sources)
