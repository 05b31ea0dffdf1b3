use Rattle.std.proofs.Common.{◌≡◌, ◌++◌, map, drop}
use Rattle.std.specs.List.{flat_map}
use Rattle.lint_nodes.specs.HasNames.{texts}
use Rattle.lint_markup.specs.InCode.{said, spotted_views}
use Rattle.lint_texts.specs.Beside.{if_gone}
use Rattle.lint_texts.proofs.placeholders.push_each_gone.Given as goal

-- those so far were added
abbrev pub invariant-loop-name : goal.invariant-loop-name
invariant-loop-name l =
    spotted_views l.found.items ++ map said (flat_map (if_gone l.names) (texts (drop l.name-index l.known)))
    ≡ spotted_views l.initial.found.items ++ map said (flat_map (if_gone l.names) (texts l.known))
