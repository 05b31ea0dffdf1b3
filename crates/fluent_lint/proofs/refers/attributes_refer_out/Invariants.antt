use Rattle.std.proofs.Common.{◌≡◌, map, drop}
use Rattle.fluent_ast.specs.Borrowed.{attribute_of}
use Rattle.fluent_ids.specs.IdsView.{ids_view}
use Rattle.fluent_lint.specs.Shown.{attributes_refer_out}
use Rattle.fluent_lint.proofs.refers.attributes_refer_out.Given as goal

-- none of the attributes so far refers to one
abbrev pub invariant-loop-attribute : goal.invariant-loop-attribute
invariant-loop-attribute l =
    let own = ids_view (Unit {0}) l.own in
    attributes_refer_out own (map attribute_of (drop l.attribute-index l.attributes)) ≡ attributes_refer_out own (map attribute_of l.attributes)
