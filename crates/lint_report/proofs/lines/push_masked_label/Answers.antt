use Rattle.std.proofs.Common.{◌∙◌, ap, sym, ◌++◌, string_bytes, option_map}
use Rattle.lint_findings.specs.Report.{labelled_text}
use Rattle.lint_findings.specs.ShownLine.{masked_text}
use Rattle.lint_findings.specs.View.{finding_view}
use Rattle.lint_report.specs.View.{entry_label}
use Rattle.lint_report.proofs.Characters.{wrote_second, masked_append, entry_is_text}
use Rattle.lint_report.proofs.lines.push_masked_label.Goals as goal

pub returns : goal.returns
returns c =
    wrote_second c.push_masked.result (string_bytes c.push_masked.new.text) (string_bytes c.push_masked_entry.new.text) (string_bytes c.args.text.now)
    (masked_text (entry_label (option_map string_bytes c.args.finding.now.entry))) (masked_text c.deref.result.now)
    (masked_text (labelled_text (finding_view c.args.finding.now)))
    c.push_masked.ensures c.in_ok-push_masked_entry.ensures
    (masked_append (entry_label (option_map string_bytes c.args.finding.now.entry)) (string_bytes c.args.finding.now.text) (entry_is_text c.args.finding.now.entry)
    ∙ ap (λ t. masked_text (entry_label (option_map string_bytes c.args.finding.now.entry)) ++ masked_text t) (sym c.deref.ensures))
