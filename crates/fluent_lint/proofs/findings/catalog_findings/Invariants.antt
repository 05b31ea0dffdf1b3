use Rattle.std.proofs.Common.{◌≡◌, ◌++◌, [], List, drop, take}
use Rattle.lint_files.specs.RulesView.{rules_view}
use Rattle.lint_entries.specs.First.{AreFirst}
use Rattle.lint_findings.specs.View.{findings_view}
use Rattle.lint_findings.specs.DuplicateIds.{Declaration}
use Rattle.fluent_lint.specs.FileTiles.{files_of, files_view}
use Rattle.fluent_lint.specs.Found.{found_by_files}
use Rattle.fluent_lint.specs.ReferenceView.{named_by}
use Rattle.fluent_lint.proofs.findings.catalog_findings.Given as goal

abbrev pub invariant-loop-file : goal.invariant-loop-file
invariant-loop-file l =
    let rules = rules_view l.rules in
    (before : List Declaration) × AreFirst l.declarations before
    × (findings_view l.found.items ++ found_by_files rules l.looked before (files_view (files_of (drop l.file-index l.files)))
    ≡ found_by_files rules l.looked [] (files_view (files_of l.files)))
    × (named_by l.found.items ≡ files_of (take l.file-index l.files))
