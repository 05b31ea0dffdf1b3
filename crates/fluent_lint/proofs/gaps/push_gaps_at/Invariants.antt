use Rattle.std.proofs.Common.{◌≡◌, ℕ, List, ◌++◌, drop, map}
use Rattle.fluent_grammar.specs.Words.{Text}
use Rattle.fluent_resource.specs.Sources.{texts}
use Rattle.lint_findings.specs.View.{finding_view}
use Rattle.fluent_lint.specs.MessagePlaces.{HasPlaces}
use Rattle.fluent_lint.specs.Pairs.{gaps_from}
use Rattle.fluent_lint.proofs.gaps.push_gaps_at.Given as goal

-- with those of the ids that are left they are all
abbrev pub invariant-loop-id : goal.invariant-loop-id
invariant-loop-id l = (ps : List (Text × ℕ)) → HasPlaces l.places ps →
    map finding_view l.findings.items ++ gaps_from ps l.at (texts (drop l.id-index l.ids))
    ≡ map finding_view l.fn.findings.items ++ gaps_from ps 0 (texts l.ids)
