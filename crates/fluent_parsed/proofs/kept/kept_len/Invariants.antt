use Rattle.std.proofs.Common.{◌≡◌, ◌≤◌, length, map, take}
use Rattle.fluent_ast.specs.View.{element_view}
use Rattle.fluent_parsed.specs.Elements.{kept_of}
use Rattle.fluent_parsed.proofs.kept.kept_len.Given as goal

abbrev pub invariant-loop-kept : goal.invariant-loop-kept
invariant-loop-kept g l = record {
  within : l.kept ≤ length l.elements;
  same : kept_of (map (element_view g.row.S.Denot g.T.Texts.text) (take l.kept l.elements)) ≡ kept_of (map (element_view g.row.S.Denot g.T.Texts.text) l.elements);
}

abbrev pub decreases-loop-kept : goal.decreases-loop-kept
decreases-loop-kept g l = l.kept
