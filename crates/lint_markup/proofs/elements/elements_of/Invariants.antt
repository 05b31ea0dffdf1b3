use Rattle.std.proofs.Common.{take}
use Rattle.lint_nodes.specs.HasNames.{HasNames}
use Rattle.lint_findings.specs.Markup as m
use Rattle.lint_markup.specs.InCode.{tags_of}
use Rattle.lint_markup.proofs.elements.elements_of.Given as goal

-- those of the tags so far were added
abbrev pub invariant-loop-tag : goal.invariant-loop-tag
invariant-loop-tag l = HasNames l.names (m.elements_of_tags (tags_of (take l.tag-index l.tags)))
