use Rattle.std.proofs.Common.{◌∙◌, ap, map, sym, rules}
use Rattle.fluent_ids.specs.IdsView.{ids_view}
use Rattle.lint_entries.specs.AttributePlaces.{bare_entry}
use Rattle.lint_findings.specs.Findings.{is_quoted}
use Rattle.lint_findings.specs.View.{finding_view}
use Rattle.std.proofs.lemmas.List.{length-map}
use Rattle.lint_files.proofs.Unquoted.{none_left}
use Rattle.lint_files.proofs.entry.leave_quoted.Goals as goal

pub returns-then-is_empty : goal.returns-then-is_empty
returns-then-is_empty c =
    none_left (is_quoted (ids_view (Unit {0}) c.args.reference.now) (bare_entry c.args.entry.now)) (map finding_view c.args.found.now.items)
    (length-map c.args.found.now.items finding_view ∙ search rules)
