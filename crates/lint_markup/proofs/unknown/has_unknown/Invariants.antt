use Rattle.std.proofs.Common.{◌≡◌, drop}
use Rattle.lint_findings.specs.Markup.{has_unknown}
use Rattle.lint_markup.specs.InCode.{tags_of, texts_in}
use Rattle.lint_markup.proofs.unknown.has_unknown.Given as goal

-- all tags so far are known
abbrev pub invariant-loop-tag : goal.invariant-loop-tag
invariant-loop-tag l = has_unknown (texts_in l.known) (tags_of (drop l.tag-index l.tags)) ≡ has_unknown (texts_in l.known) (tags_of l.tags)
