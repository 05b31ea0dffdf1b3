use Rattle.std.proofs.Common.{◌∙◌, ◌++◌, ap}
use Rattle.lint_files.specs.RulesView.{rules_view}
use Rattle.fluent_lint.specs.FileTiles.{files_of, files_view}
use Rattle.fluent_lint.specs.Missing.{missing_in_files}
use Rattle.fluent_lint.proofs.findings.all_findings.Goals as goal

pub returns : goal.returns
returns c =
    let rules = rules_view c.args.rules.now in
    c.in_ok-push_missing_messages.ensures
    ∙ ap (λ found. found ++ missing_in_files rules.ids (files_view (files_of c.args.references.now))) c.in_ok-found.ensures.found
