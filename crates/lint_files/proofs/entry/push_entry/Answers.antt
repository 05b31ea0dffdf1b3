use Rattle.std.proofs.Common.{◌∙◌, ◌≡◌, Some, map, option_map, sym, ap}
use Rattle.fluent_ast.specs.Borrowed.{entry_of}
use Rattle.lint_files.specs.RulesView.{rules_view}
use Rattle.lint_findings.specs.View.{file_view, finding_view}
use Rattle.lint_findings.specs.DuplicateIds.{duplicate_findings, id_of}
use Rattle.lint_files.proofs.EntryPushed.{entry_added}
use Rattle.lint_files.proofs.entry.push_entry.Goals as goal

pub returns-clause-findings : goal.returns-clause-findings
returns-clause-findings c = λ before first.
    let placed = c.args.placed.now in
    let e = entry_of placed.entry.now in
    let rules = rules_view c.args.rules.now in
    let has_id : id_of e ≡ Some c.in-Some.id.now = sym c.declared_id.ensures ∙ ap (option_map (λ s. s.now)) c.in-Some.is in
    let at = c.offset.ensures ∙ c.requires.placed.offset in
    entry_added rules (file_view placed.file) before placed.text.now e c.in-Some.id.now c.in_ok-duplicate.duplicate c.is_none-is_new.result
    (map finding_view c.args.findings.now.items) (map finding_view c.push_found.new.findings.items) (map finding_view c.push_own.new.findings.items) (map finding_view c.push_if_first.new.findings.items)
    has_id (c.in_ok-duplicate.ensures before first ∙ ap (λ n. duplicate_findings rules.functions before e n c.in-Some.id.now) at) c.is_none-is_new.ensures
    c.in_ok-push_found.ensures c.in_ok-push_own.ensures c.in_ok-push_if_first.ensures
