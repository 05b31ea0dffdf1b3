use Rattle.std.proofs.Common.{◌∙◌, ◌++◌, ap, map}
use Rattle.std.specs.Prelude.{count_by}
use Rattle.lint_findings.specs.View.{file_view, finding_view}
use Rattle.fluent_resource.specs.Sources.{texts}
use Rattle.fluent_lint.specs.Pairs.{gaps_from, is_translated, message_places}
use Rattle.fluent_lint.proofs.Gapped.{placed}
use Rattle.fluent_lint.proofs.gaps.push_gaps.Goals as goal

pub returns-clause-added : goal.returns-clause-added
returns-clause-added c =
    let ps = message_places (file_view c.args.file.now.file) in
    c.in_ok-push_gaps_at.ensures ps c.in_ok-places.ensures
    ∙ ap (λ l. map finding_view c.args.findings.now.items ++ gaps_from ps 0 l) (ap texts c.deref.ensures.value ∙ c.in_ok-ids.ensures.listed)

pub returns-clause-translated : goal.returns-clause-translated
returns-clause-translated c =
    let file = file_view c.args.file.now.file in
    c.placed_count.ensures
    ∙ placed c.in_ok-places.places (message_places file) c.in_ok-places.ensures c.deref-2.result.now
    ∙ ap (λ l. count_by (is_translated file) l) (ap texts c.deref-2.ensures.value ∙ c.in_ok-ids.ensures.listed)
