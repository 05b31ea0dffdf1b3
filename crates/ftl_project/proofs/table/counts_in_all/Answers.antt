use Rattle.std.proofs.Common.{◌∙◌, sym}
use Rattle.ftl_project.specs.declared.language.Linted.{Linted}
use Rattle.ftl_project.proofs.Counted.{all_counted, one_counted}
use Rattle.ftl_project.proofs.table.counts_in_all.Goals as goal

pub loop-language-preserved : goal.loop-language-preserved
loop-language-preserved c =
    c.loop-language.invariant
    ∙ one_counted (λ (x : Linted). x.counts) c.args.languages.now c.loop-language.counts c.in_ok-counts.counts c.loop-language.language-index c.language-item.result c.loop-language-test.true c.language-item.is c.in_ok-counts.ensures

pub returns : goal.returns
returns c =
    sym (c.loop-language.invariant ∙ all_counted (λ (x : Linted). x.counts) c.args.languages.now c.loop-language.counts c.loop-language.language-index c.loop-language-test.false)
