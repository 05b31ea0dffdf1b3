use Rattle.std.proofs.Common.{◌++◌, codes, replicate, string_bytes, length, refl}
use Rattle.fluent_grammar.specs.Words.{space}
use Rattle.lint_findings.specs.ShownLine.{padding}
use Rattle.lint_report.specs.Texts.{caret_line, masked_excerpt}
use Rattle.lint_report.specs.View.{shown_width}
use Rattle.lint_report.proofs.Characters.{pushed_second}
use Rattle.lint_report.proofs.Written.{then_more, caret_line_is}
use Rattle.lint_report.proofs.shown.push_caret_line.Goals as goal

pub returns : goal.returns
returns c =
    let old = string_bytes c.args.text.now in
    let margin = replicate c.args.digits space in
    let dots = replicate (length c.dots_if.result.now) space in
    let front = padding shown_width (masked_excerpt c.args.before.now) in
    let a = then_more (string_bytes c.push_str.new.self) (string_bytes c.push_spaces.new.text) old margin (codes " | ")
    c.in_ok-push_str.ensures.bytes c.in_ok-push_spaces.ensures in
    let b = then_more (string_bytes c.push_spaces-2.new.text) (string_bytes c.push_str.new.self) old (margin ++ codes " | ") dots
    c.in_ok-push_spaces-2.ensures a in
    let d = then_more (string_bytes c.push_padding.new.text) (string_bytes c.push_spaces-2.new.text) old ((margin ++ codes " | ") ++ dots) front
    c.in_ok-push_padding.ensures b in
    let caret = c.args.caret.now in
    let e = then_more (string_bytes c.push_str-2.new.self) (string_bytes c.push_padding.new.text) old (((margin ++ codes " | ") ++ dots) ++ front) caret
    c.in_ok-push_str-2.ensures.bytes d in
    pushed_second c.push_str-3.result (string_bytes c.push_str-3.new.self) (string_bytes c.push_str-2.new.self) old
    ((((margin ++ codes " | ") ++ dots) ++ front) ++ caret) (codes "\n") (caret_line c.args.digits c.args.before.now caret) c.push_str-3.ensures.bytes e
    (caret_line_is c.args.digits c.args.before.now caret c.dots_if.result.now (length c.dots_if.result.now) c.dots_if.ensures refl)
