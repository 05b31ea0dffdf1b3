use Rattle.std.proofs.Common.{◌≡◌, ◌++◌, false, map, drop}
use Rattle.std.specs.List.{flat_map}
use Rattle.lint_nodes.specs.HasNames.{texts}
use Rattle.lint_findings.specs.Numbers as n
use Rattle.lint_texts.specs.InCode.{number_view}
use Rattle.lint_texts.proofs.numbers.push_each.Given as goal

-- those of the parts so far were added
abbrev pub invariant-loop-part : goal.invariant-loop-part
invariant-loop-part l =
    map number_view l.found.items ++ flat_map (n.numbers_from false 0) (texts (drop l.part-index l.parts))
    ≡ map number_view l.initial.found.items ++ flat_map (n.numbers_from false 0) (texts l.parts)
