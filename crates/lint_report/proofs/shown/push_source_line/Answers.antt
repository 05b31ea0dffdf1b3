use Rattle.std.proofs.Common.{◌++◌, codes, string_bytes}
use Rattle.std.specs.Str.{encode_utf8_all}
use Rattle.lint_report.specs.Texts.{before_finding, from_finding, source_line}
use Rattle.lint_report.proofs.Characters.{pushed_second}
use Rattle.lint_report.proofs.Written.{then_more, source_line_is}
use Rattle.lint_report.proofs.shown.push_source_line.Goals as goal

pub returns : goal.returns
returns c =
    let old = string_bytes c.args.text.now in
    let before = encode_utf8_all (before_finding c.args.shown.now.before) in
    let after = encode_utf8_all (from_finding c.args.shown.now.after) in
    let b = then_more (string_bytes c.push_before.new.text) (string_bytes c.push_str.new.self) old (codes " | ") before
    c.in_ok-push_before.ensures c.in_ok-push_str.ensures.bytes in
    let a = then_more (string_bytes c.push_after.new.text) (string_bytes c.push_before.new.text) old (codes " | " ++ before) after
    c.in_ok-push_after.ensures b in
    pushed_second c.push_str-2.result (string_bytes c.push_str-2.new.self) (string_bytes c.push_after.new.text) old
    ((codes " | " ++ before) ++ after) (codes "\n") (source_line c.args.shown.now) c.push_str-2.ensures.bytes a (source_line_is c.args.shown.now)
