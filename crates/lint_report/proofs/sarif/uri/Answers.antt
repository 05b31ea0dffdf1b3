use Rattle.std.proofs.Common.{◌∙◌, ap, string_bytes, []}
use Rattle.lint_report.proofs.Uris.{escaped_is}
use Rattle.lint_report.proofs.sarif.uri.Goals as goal

pub returns : goal.returns
returns c =
    rw (c.in_ok-append_to.ensures.ok, c.new-uri.ensures.bytes, c.percent_encode.ensures.text, c.as_bytes.ensures.value)
    (escaped_is c.args.path.now)
