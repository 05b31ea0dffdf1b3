use Rattle.std.proofs.Common.{◌≡◌, List, length}
use denote.Text.{Utf8}
use denote.Shadow.{shadow}
use Rattle.fluent_grammar.specs.Words.{Text}
use Rattle.lint_nodes.specs.HasNames.{HasNames}
use Rattle.lint_findings.specs.Comparison.{union}
use Rattle.lint_findings.specs.Entities as e
use Rattle.lint_markup.proofs.entities.add_entities.Given as goal

-- those so far were added
abbrev pub invariant-loop-place : goal.invariant-loop-place
invariant-loop-place l =
    shadow (Utf8 l.rest)
    × ((xs : List Text) → HasNames l.initial.names xs → (ys : List Text) × HasNames l.names ys × (union ys (e.entities_in l.rest) ≡ union xs (e.entities_in l.initial.rest)))

abbrev pub decreases-loop-place : goal.decreases-loop-place
decreases-loop-place l = length l.rest
