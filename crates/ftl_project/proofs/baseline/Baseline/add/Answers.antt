use Rattle.std.proofs.Common.{◌∙◌, ap, sym, map, string_bytes}
use Rattle.lint_report.specs.View.{in_file}
use Rattle.ftl_project.specs.Baselines.{lines_of, with_line}
use Rattle.ftl_project.proofs.Lines.{line_put, one_shown}
use Rattle.ftl_project.proofs.baseline.Baseline.add.Goals as goal

pub returns-in_ok-insert : goal.returns-in_ok-insert
returns-in_ok-insert c =
    let old = c.args.self.now in
    ap (map string_bytes) c.in_ok-insert.ensures.keys
    ∙ line_put old.lines.keys c.in_ok-line_of.field-0
    ∙ ap (with_line (lines_of old)) c.in_ok-line_of.ensures
    ∙ sym (one_shown c.args.notes (lines_of old) (in_file c.args.file.now c.args.finding.now) (sym c.is_shown.ensures ∙ c.if-is_shown.true))
