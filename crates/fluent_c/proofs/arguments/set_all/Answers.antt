use Rattle.std.proofs.Common.{[], ◌∙◌, map, ap, subst}
use Rattle.std.proofs.lemmas.List.{take_all}
use Rattle.std.proofs.lemmas.List.Elements.{All-more, Contains-get_or}
use Rattle.fluent_run.specs.Dated.{dated_view}
use Rattle.fluent_value.specs.Args.{all_set}
use Rattle.fluent_c.specs.Arguments.{AreRefusedFor, AreTaken, IsTaken}
use Rattle.fluent_kept.specs.Given.{pair_of}
use Rattle.fluent_c.proofs.Given.{refused_on, set-next}
use Rattle.fluent_c.proofs.arguments.set_all.Goals as goal

pub loop-argument-preserved : goal.loop-argument-preserved
loop-argument-preserved c = record {
  set =
      c.in_ok-set.ensures.set
      ∙ set-next (dated_view c.loop-argument.arguments) c.args.given.now c.loop-argument.argument-index _ c.loop-argument-test.true c.loop-argument.invariant.set;
  taken = All-more IsTaken c.args.given.now c.loop-argument.argument-index _ c.loop-argument-test.true c.loop-argument.invariant.taken c.in_ok-set.ensures.taken;
}

pub returns-clause-set : goal.returns-clause-set
returns-clause-set c =
    c.loop-argument.invariant.set
    ∙ ap (λ xs. all_set [] (map pair_of xs)) (take_all c.loop-argument.argument-index c.args.given.now c.loop-argument-test.false)

pub returns-clause-taken : goal.returns-clause-taken
returns-clause-taken c = subst AreTaken (take_all c.loop-argument.argument-index c.args.given.now c.loop-argument-test.false) c.loop-argument.invariant.taken

pub returns-in_err-set-clause-refused : goal.returns-in_err-set-clause-refused
returns-in_err-set-clause-refused c =
    refused_on (AreRefusedFor c.args.given.now) c.from_residual.result c.from_residual.ensures.1
    (record { argument = _; stands = Contains-get_or c.args.given.now c.loop-argument.argument-index _ c.loop-argument-test.true; refused = c.in_err-set.ensures.refused })
