use Rattle.std.proofs.Common.{◌≡◌, ◌++◌, map, take, drop}
use Rattle.fluent_resource.specs.Sources.{texts}
use Rattle.lint_findings.specs.View.{file_findings_view}
use Rattle.fluent_lint.specs.Reported.{kept_of}
use Rattle.fluent_lint.proofs.reported.keep_reported.Given as goal

abbrev pub invariant-loop-file : goal.invariant-loop-file
invariant-loop-file l =
    let shown = map file_findings_view l.found in
    let keep = kept_of (texts l.ignored) in
    take l.file-index shown ++ map keep (drop l.file-index shown) ≡ map keep (map file_findings_view l.fn.found)
