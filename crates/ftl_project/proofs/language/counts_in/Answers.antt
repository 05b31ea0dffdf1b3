use Rattle.std.proofs.Common.{◌∙◌, sym}
use Rattle.ftl_project.specs.declared.language.LintedFile.{LintedFile}
use Rattle.ftl_project.proofs.Counted.{all_counted, one_counted}
use Rattle.ftl_project.proofs.language.counts_in.Goals as goal

pub loop-file-preserved : goal.loop-file-preserved
loop-file-preserved c =
    c.loop-file.invariant
    ∙ one_counted (λ (f : LintedFile). f.counts) c.args.files.now c.loop-file.counts c.in_ok-counts.counts c.loop-file.file-index c.file-item.result c.loop-file-test.true c.file-item.is c.in_ok-counts.ensures

pub returns : goal.returns
returns c =
    sym (c.loop-file.invariant ∙ all_counted (λ (f : LintedFile). f.counts) c.args.files.now c.loop-file.counts c.loop-file.file-index c.loop-file-test.false)
