use Rattle.std.proofs.Common.{◌++◌, ◌∙◌, ap, sym, decimal, string_bytes}
use Rattle.lint_findings.specs.View.{file_view, finding_view, severity_view}
use Rattle.lint_findings.specs.ShownLine.{shown_line_by}
use Rattle.lint_report.specs.ByColours.{caret_by}
use Rattle.lint_report.specs.Texts.{caret_line, hint_line, source_line}
use Rattle.lint_report.specs.View.{optional_text, shown_width}
use Rattle.lint_report.proofs.Characters.{wrote_second}
use Rattle.lint_report.proofs.Written.{then_more, shown_line_is}
use Rattle.lint_report.proofs.shown.push_shown_line.Goals as goal

pub returns : goal.returns
returns c =
    let old = string_bytes c.args.text.now in
    let number = decimal c.line.result in
    let line = source_line c.around-shown.result in
    let mark = c.caret-caret.result.now in
    let caret = caret_line c.in_ok-digits.digits c.around-shown.result.before mark in
    let a = then_more (string_bytes c.push_source_line.new.text) (string_bytes c.push_number.new.text) old number line
    c.in_ok-push_source_line.ensures c.in_ok-digits.ensures.text in
    let b = then_more (string_bytes c.push_caret_line.new.text) (string_bytes c.push_source_line.new.text) old (number ++ line) caret
    c.in_ok-push_caret_line.ensures a in
    wrote_second c.push_hint_line.result (string_bytes c.push_hint_line.new.text) (string_bytes c.push_caret_line.new.text) old
    ((number ++ line) ++ caret) (hint_line c.in_ok-digits.digits (optional_text c.args.finding.now.hint))
    (shown_line_by shown_width (caret_by c.args.coloured (severity_view c.args.finding.now.severity)) (file_view c.args.file.now) (finding_view c.args.finding.now))
    c.push_hint_line.ensures b
    (ap (λ m. shown_line_by shown_width m (file_view c.args.file.now) (finding_view c.args.finding.now)) (sym c.caret-caret.ensures)
    ∙ shown_line_is mark c.args.file.now c.args.finding.now c.args.place c.split.result.0.now c.split.result.1.now c.around-shown.result c.line.result c.in_ok-digits.digits
    c.requires.at c.requires.line c.split.ensures.line c.split.ensures.column c.around-shown.ensures c.line.ensures c.in_ok-digits.ensures.digits)
