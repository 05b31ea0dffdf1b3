use Rattle.std.proofs.Common.{◌∙◌, rules}
use Rattle.std.proofs.lemmas.Iterator.{YieldsList-from_slice}
use Rattle.std.proofs.lemmas.Iterator.Search.{any_from_yields_List}
use Rattle.std.specs.List.{list_any}
use Rattle.lint_findings.specs.declared.records.FileFindings.{FileFindings}
use Rattle.lint_report.proofs.Items.{fails, has_failed_is}
use Rattle.lint_report.proofs.reports.has_failed.Goals as goal

pub returns : goal.returns
returns c =
    any_from_yields_List (λ (f : FileFindings). list_any (fails c.args.strict) f.findings.items) _ _ c.any.result c.any.ensures.ran
    (YieldsList-from_slice c.args.findings.now cc) (λ x b q k. search rules)
    ∙ has_failed_is c.args.strict c.args.findings.now
