use Rattle.std.proofs.Common.{refl, string_bytes}
use Rattle.std.specs.Str.{encode_utf8_all}
use Rattle.lint_findings.specs.ShownLine.{masked_text}
use Rattle.lint_report.specs.Texts.{from_finding}
use Rattle.lint_report.proofs.Characters.{pushed_second}
use Rattle.lint_report.proofs.Written.{from_is}
use Rattle.lint_report.proofs.shown.push_after.Goals as goal

pub returns : goal.returns
returns c =
    pushed_second c.push_str.result (string_bytes c.push_str.new.self) (string_bytes c.push_masked.new.text) (string_bytes c.args.text.now)
    (masked_text c.args.after.now.text.now) c.dots_if.result.now (encode_utf8_all (from_finding c.args.after.now))
    c.push_str.ensures.bytes c.in_ok-push_masked.ensures (from_is c.args.after.now c.args.after.now.text.now c.dots_if.result.now refl c.dots_if.ensures)
