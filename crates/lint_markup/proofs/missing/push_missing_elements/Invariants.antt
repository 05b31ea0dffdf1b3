use Rattle.std.proofs.Common.{◌≡◌, ◌++◌, map, drop}
use Rattle.std.specs.List.{flat_map}
use Rattle.lint_nodes.specs.HasNames.{texts}
use Rattle.lint_findings.specs.Markup as m
use Rattle.lint_markup.specs.InCode.{os_of, said, spotted_views, tags_of}
use Rattle.lint_markup.proofs.missing.push_missing_elements.Given as goal

-- those of the elements so far were added
abbrev pub invariant-loop-element : goal.invariant-loop-element
invariant-loop-element l =
    let rule = m.if_missing (tags_of l.tags) (os_of l.pair) (tags_of l.others) in
    spotted_views l.found.items ++ map said (flat_map rule (texts (drop l.element-index l.element-items)))
    ≡ spotted_views l.initial.found.items ++ map said (flat_map rule (texts l.element-items))
