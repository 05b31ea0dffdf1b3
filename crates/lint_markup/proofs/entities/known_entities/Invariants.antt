use Rattle.std.proofs.Common.{take}
use Rattle.std.specs.List.{flat_map}
use Rattle.lint_nodes.specs.HasNames.{HasNames}
use Rattle.lint_findings.specs.Comparison.{union}
use Rattle.lint_findings.specs.Entities as e
use Rattle.lint_markup.specs.InCode.{texts_of}
use mathlib.Core.List.{[]}
use Rattle.lint_markup.proofs.entities.known_entities.Given as goal

-- those of the texts so far were added
abbrev pub invariant-loop-text : goal.invariant-loop-text
invariant-loop-text l = HasNames l.names (union [] (flat_map e.entities_in (texts_of (take l.text-index l.texts))))
