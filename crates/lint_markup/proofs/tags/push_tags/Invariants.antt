use Rattle.std.proofs.Common.{◌≡◌, ◌++◌, length}
use denote.Text.{Utf8}
use denote.Shadow.{shadow}
use Rattle.lint_findings.specs.Tags as t
use Rattle.lint_markup.specs.InCode.{tags_of}
use Rattle.lint_markup.proofs.tags.push_tags.Given as goal

-- those so far were added
abbrev pub invariant-loop-place : goal.invariant-loop-place
invariant-loop-place l =
    shadow (Utf8 l.rest) × (tags_of l.tags.items ++ t.tags_in l.rest ≡ tags_of l.initial.tags.items ++ t.tags_in l.initial.rest)

abbrev pub decreases-loop-place : goal.decreases-loop-place
decreases-loop-place l = length l.rest
