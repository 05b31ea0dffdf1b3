use Rattle.std.proofs.Common.{[], ap, sym, ◌∙◌, map}
use Rattle.std.proofs.lemmas.List.{take_all}
use Rattle.std.proofs.lemmas.Simd.{map-map}
use Rattle.fluent_run.specs.DeskView.{arguments_view, valued}
use Rattle.fluent_run.proofs.Valued.{set-next}
use Rattle.fluent_serve.specs.RequestView.{argument_view}
use Rattle.fluent_value.specs.Args.{all_set}
use Rattle.fluent_run.proofs.arguments.valued_arguments.Goals as goal

pub loop-name-preserved : goal.loop-name-preserved
loop-name-preserved c =
    let next = set-next (arguments_view c.loop-name.arguments) c.args.pairs.now c.loop-name.name-index _ c.loop-name-test.true c.loop-name.invariant in
    c.in_ok-set_valued.ensures ∙ next

pub returns : goal.returns
returns c =
    c.loop-name.invariant
    ∙ ap (λ ps. all_set [] (map (λ p. valued (argument_view p)) ps)) (take_all c.loop-name.name-index c.args.pairs.now c.loop-name-test.false)
    ∙ ap (all_set []) (sym (map-map valued argument_view c.args.pairs.now))
