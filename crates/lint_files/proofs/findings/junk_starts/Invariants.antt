use Rattle.std.proofs.Common.{◌≡◌, map, take}
use Rattle.fluent_parsed.specs.ErrorView.{error_view}
use Rattle.lint_files.specs.SourceFindings.{starts_of}
use Rattle.lint_files.proofs.findings.junk_starts.Given as goal

abbrev pub invariant-loop-error : goal.invariant-loop-error
invariant-loop-error l = l.starts.items ≡ starts_of (map error_view (take l.error-index l.errors))
