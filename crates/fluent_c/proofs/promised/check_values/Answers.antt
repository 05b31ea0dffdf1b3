use Rattle.std.proofs.Common.{◌∙◌, subst, sym}
use Rattle.std.proofs.lemmas.List.{take_all}
use Rattle.std.proofs.lemmas.List.Elements.{All-get_or, All-more, Contains-get_or}
use Rattle.fluent_c.specs.Arguments.{AreTaken, IsTaken}
use Rattle.fluent_c.proofs.Given.{no-value}
use Rattle.fluent_kept.specs.Given.{HasTexts}
use Rattle.fluent_c.proofs.promised.check_values.Goals as goal

pub has_value-requires : goal.has_value-requires
has_value-requires c = All-get_or HasTexts c.args.given.now c.loop-argument.argument-index _ c.loop-argument-test.true c.requires

pub loop-argument-preserved : goal.loop-argument-preserved
loop-argument-preserved c =
    All-more IsTaken c.args.given.now c.loop-argument.argument-index _ c.loop-argument-test.true c.loop-argument.invariant
    (All-get_or HasTexts c.args.given.now c.loop-argument.argument-index _ c.loop-argument-test.true c.requires, sym c.has_value.ensures ∙ c.if-not-has_value.false)

pub returns-then-not-has_value-clause-refused : goal.returns-then-not-has_value-clause-refused
returns-then-not-has_value-clause-refused c =
    record { argument = _; stands = Contains-get_or c.args.given.now c.loop-argument.argument-index _ c.loop-argument-test.true; refused = no-value _ (sym c.has_value.ensures ∙ c.if-not-has_value.true) }

pub returns-clause-taken : goal.returns-clause-taken
returns-clause-taken c = subst AreTaken (take_all c.loop-argument.argument-index c.args.given.now c.loop-argument-test.false) c.loop-argument.invariant
