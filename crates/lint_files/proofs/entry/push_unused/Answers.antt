use Rattle.std.proofs.Common.{◌∙◌, ◌++◌, ap, map}
use Rattle.std.proofs.lemmas.Result.{on_ok_weaker}
use Rattle.fluent_ast.specs.Borrowed.{entry_of}
use Rattle.lint_files.specs.PartFindings.{offset_in}
use Rattle.lint_files.specs.RulesView.{rules_view}
use Rattle.lint_findings.specs.View.{file_view, finding_view}
use Rattle.lint_files.proofs.EntryPushed.{same_unused}
use Rattle.lint_files.proofs.entry.push_unused.Goals as goal

pub returns : goal.returns
returns c =
    let placed = c.args.placed.now in
    let rules = rules_view c.args.rules.now in
    on_ok_weaker c.push_found.result
    (λ added. added ∙ ap (λ l. map finding_view c.args.findings.now.items ++ l)
    (c.in_ok-unused.ensures ∙ same_unused rules.is_referred (entry_of placed.entry.now) c.offset.result (offset_in (file_view placed.file) placed.text.now) (c.offset.ensures ∙ c.requires.offset)))
    c.push_found.ensures
