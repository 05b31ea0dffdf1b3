-- Which findings the code counts.
use Rattle.std.specs.Prelude.{Bool}
use Rattle.std.specs.Str.{bytes_eq}
use Rattle.lint_findings.specs.View.{severity_view}
use Rattle.lint_findings.specs.Finding.{Finding}
use Rattle.fluent_lint.specs.Totals.{is_taken, same_severity}
use Rattle.fluent_lint.specs.declared.totals.Counted.{Counted}
use Rattle.fluent_lint.specs.declared.totals.Counted.TheVariants as of

abbrev pub is_counted : Counted → Finding → Bool
is_counted (of.Severity severity) f = same_severity (severity_view severity) f.severity
is_counted (of.Code code) f = bytes_eq f.code code.now
is_counted of.TakenIds f = is_taken f
