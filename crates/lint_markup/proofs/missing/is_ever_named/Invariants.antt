use Rattle.std.proofs.Common.{◌≡◌, drop}
use Rattle.std.specs.List.{list_any}
use Rattle.lint_findings.specs.Markup.{is_named}
use Rattle.lint_markup.specs.InCode.{tags_of}
use Rattle.lint_markup.proofs.missing.is_ever_named.Given as goal

-- none of the tags so far does
abbrev pub invariant-loop-tag : goal.invariant-loop-tag
invariant-loop-tag l = list_any (is_named l.element) (tags_of (drop l.tag-index l.tags)) ≡ list_any (is_named l.element) (tags_of l.tags)
