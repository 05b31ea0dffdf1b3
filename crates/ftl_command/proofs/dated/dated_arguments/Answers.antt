use Rattle.std.proofs.Common.{[], ap, ◌∙◌}
use Rattle.std.proofs.lemmas.List.{take_all}
use Rattle.std.specs.List.{flat_map}
use Rattle.fluent_value.specs.Args.{all_set}
use Rattle.ftl_command.proofs.DatesSet.{dated-next, dated-viewed, values_in}
use Rattle.fluent_run.specs.Dated.{dated_view}
use Rattle.ftl_command.proofs.dated.dated_arguments.Goals as goal

pub loop-name-preserved : goal.loop-name-preserved
loop-name-preserved c =
    c.in_ok-set_dated.ensures
    ∙ dated-next (dated_view c.loop-name.values) c.args.arguments.now c.loop-name.name-index _ c.loop-name-test.true c.loop-name.invariant

pub returns : goal.returns
returns c =
    c.loop-name.invariant
    ∙ ap (λ given. all_set [] (flat_map values_in given)) (take_all c.loop-name.name-index c.args.arguments.now c.loop-name-test.false)
    ∙ ap (all_set []) (dated-viewed c.args.arguments.now)
