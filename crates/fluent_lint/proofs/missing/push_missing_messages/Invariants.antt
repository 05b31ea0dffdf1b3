use Rattle.std.proofs.Common.{◌≡◌, ◌++◌, map, take}
use Rattle.lint_findings.specs.View.{findings_view}
use Rattle.fluent_ids.specs.IdsView.{ids_view}
use Rattle.fluent_lint.specs.Missing.{missing_in_files}
use Rattle.fluent_lint.proofs.Counted.{view_of}
use Rattle.fluent_lint.proofs.missing.push_missing_messages.Given as goal

abbrev pub invariant-loop-file : goal.invariant-loop-file
invariant-loop-file l =
    findings_view l.found.items
    ≡ findings_view l.initial.found.items ++ missing_in_files (ids_view (Unit {0}) l.ids) (map view_of (take l.file-index l.references))
