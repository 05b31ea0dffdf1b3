use Rattle.std.proofs.Common.{◌≡◌, ◌++◌, map, drop}
use Rattle.std.specs.List.{flat_map}
use Rattle.lint_nodes.specs.HasNames.{texts}
use Rattle.lint_findings.specs.Markup as m
use Rattle.lint_markup.specs.InCode.{said, spotted_views, texts_of}
use Rattle.lint_markup.proofs.unbalanced.push_unbalanced.Given as goal

-- that of the elements so far was added
abbrev pub invariant-loop-element : goal.invariant-loop-element
invariant-loop-element l =
    let rule = m.unbalanced_beside (texts_of l.pair.runs.now) (texts_of l.pair.others.now) in
    spotted_views l.found.items ++ map said (flat_map rule (texts (drop l.element-index l.element-items)))
    ≡ spotted_views l.initial.found.items ++ map said (flat_map rule (texts l.element-items))
