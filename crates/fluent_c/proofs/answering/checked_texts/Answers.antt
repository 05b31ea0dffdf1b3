use Rattle.std.proofs.Common.{All, arith, subst}
use Rattle.std.proofs.lemmas.Grind.{common_steps}
use Rattle.std.proofs.lemmas.List.{take_all}
use Rattle.std.proofs.lemmas.List.Elements.{All-more, Contains-get_or}
use Rattle.fluent_c.specs.Answering.{IsUtf8Source}
use Rattle.fluent_c.proofs.Sources.{handed_on}
use Rattle.fluent_c.proofs.answering.checked_texts.Goals as goal

pub loop-source-preserved : goal.loop-source-preserved
loop-source-preserved c = record {
  read = grind (arith, common_steps);
  utf8 = All-more IsUtf8Source c.args.sources.now c.loop-source.source-index _ c.loop-source-test.true c.loop-source.invariant.utf8 c.in_ok-read_source.ensures.utf8;
}

pub returns-clause-utf8 : goal.returns-clause-utf8
returns-clause-utf8 c =
    subst (All IsUtf8Source) (take_all c.loop-source.source-index c.args.sources.now c.loop-source-test.false) c.loop-source.invariant.utf8

pub returns-in_err-read_source-clause-not_utf8 : goal.returns-in_err-read_source-clause-not_utf8
returns-in_err-read_source-clause-not_utf8 c =
    handed_on c.from_residual.result c.from_residual.ensures.1 c.in_err-read_source.ensures.not_utf8
    (λ other. record { source = _; stands = Contains-get_or c.args.sources.now c.loop-source.source-index _ c.loop-source-test.true; other = other })
