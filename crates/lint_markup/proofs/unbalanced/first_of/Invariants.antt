use Rattle.std.proofs.Common.{◌≡◌, drop}
use Rattle.lint_findings.specs.Markup as m
use Rattle.lint_markup.specs.InCode.{tags_of}
use Rattle.lint_markup.proofs.unbalanced.first_of.Given as goal

-- none of the tags so far is one
abbrev pub invariant-loop-tag : goal.invariant-loop-tag
invariant-loop-tag l = m.first_of l.element (tags_of (drop l.tag-index l.tags)) ≡ m.first_of l.element (tags_of l.tags)
