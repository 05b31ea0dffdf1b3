use Rattle.std.proofs.Common.{All, subst}
use Rattle.std.proofs.lemmas.List.{take_all}
use Rattle.std.proofs.lemmas.List.Elements.{All-more, Contains-get_or}
use Rattle.fluent_c.specs.Answering.{IsUtf8Source}
use Rattle.fluent_c.proofs.answering.are_utf8.Goals as goal

pub returns-then-not-is_utf8-clause-not_utf8 : goal.returns-then-not-is_utf8-clause-not_utf8
returns-then-not-is_utf8-clause-not_utf8 c = λ is. record {
  source = _;
  stands = Contains-get_or c.args.sources.now c.loop-source.source-index _ c.loop-source-test.true;
  other = c.is_utf8.ensures.not_utf8 c.if-not-is_utf8.true;
}

pub loop-source-preserved : goal.loop-source-preserved
loop-source-preserved c =
    All-more IsUtf8Source c.args.sources.now c.loop-source.source-index _ c.loop-source-test.true c.loop-source.invariant
    (c.is_utf8.ensures.utf8 c.if-not-is_utf8.false)

pub returns-clause-utf8 : goal.returns-clause-utf8
returns-clause-utf8 c = λ is.
    subst (All IsUtf8Source) (take_all c.loop-source.source-index c.args.sources.now c.loop-source-test.false) c.loop-source.invariant
