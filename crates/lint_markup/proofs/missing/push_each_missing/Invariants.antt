use Rattle.std.proofs.Common.{◌≡◌, ◌++◌, map, drop}
use Rattle.std.specs.List.{flat_map}
use Rattle.lint_nodes.specs.HasNames.{texts}
use Rattle.lint_findings.specs.Markup as m
use Rattle.lint_markup.specs.InCode.{es_of, os_of, said, spotted_views}
use Rattle.lint_markup.proofs.missing.push_each_missing.Given as goal

-- those of the names so far were added
abbrev pub invariant-loop-name : goal.invariant-loop-name
invariant-loop-name l =
    let rule = m.if_name_missing (es_of l.pair) (os_of l.pair) in
    spotted_views l.found.items ++ map said (flat_map rule (texts (drop l.name-index l.name-items)))
    ≡ spotted_views l.initial.found.items ++ map said (flat_map rule (texts l.name-items))
