use Rattle.std.proofs.Common.{◌≡◌, [], drop, map}
use Rattle.fluent_ast.specs.View.{named_view, nameds_of}
use Rattle.fluent_run.specs.Dated.{dated_view}
use Rattle.fluent_value.specs.Args.{all_set}
use Rattle.fluent_calls.specs.Gathering.{literals}
use Rattle.fluent_calls.proofs.gathering.literal_values.Given as goal

-- what is left, set after what was set, gives the whole
abbrev pub invariant-loop-argument : goal.invariant-loop-argument
invariant-loop-argument g l =
    let view = named_view _ (λ s. s.now) in
    all_set (dated_view l.values) (literals (nameds_of (map view (drop l.argument-index l.argument-items)))) ≡ all_set [] (literals (nameds_of (map view l.argument-items)))
