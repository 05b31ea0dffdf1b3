use Rattle.std.proofs.Common.{map, take}
use Rattle.lint_nodes.specs.HasNames.{HasNames}
use Rattle.lint_findings.specs.Placeholders as p
use Rattle.lint_texts.specs.InCode.{placeholder_view}
use Rattle.lint_texts.proofs.placeholders.names_of.Given as goal

-- those so far were added
abbrev pub invariant-loop-placeholder : goal.invariant-loop-placeholder
invariant-loop-placeholder l = HasNames l.names (p.names (map placeholder_view (take l.placeholder-index l.placeholders)))
