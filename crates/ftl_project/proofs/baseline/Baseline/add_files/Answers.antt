use Rattle.std.proofs.Common.{◌∙◌, ap}
use Rattle.lint_findings.specs.View.{file_findings_view}
use Rattle.ftl_project.specs.Baselines.{lines_of, with_shown}
use Rattle.ftl_project.proofs.Lines.{lines_at_last, lines_next}
use Rattle.ftl_project.proofs.baseline.Baseline.add_files.Goals as goal

pub loop-file-preserved : goal.loop-file-preserved
loop-file-preserved c =
    let lines = lines_of c.loop-file.self in
    lines_next c.args.notes file_findings_view c.args.found.now (lines_of c.args.self.now) c.loop-file.file-index c.file-item.result
    lines (lines_of c.add_file.new.self) c.loop-file-test.true c.loop-file.invariant
    (c.in_ok-add_file.ensures ∙ ap (λ f. with_shown c.args.notes lines (file_findings_view f)) c.file-item.is)

pub returns : goal.returns
returns c =
    lines_at_last c.args.notes file_findings_view c.args.found.now (lines_of c.args.self.now) c.loop-file.file-index
    (lines_of c.loop-file.self) c.loop-file-test.false c.loop-file.invariant
