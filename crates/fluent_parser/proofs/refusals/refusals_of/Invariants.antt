use Rattle.std.proofs.Common.{◌≡◌, map, take}
use Rattle.fluent_parser.specs.Refusals.{AreBetweenCharacters, refusal_view, refusals_from}
use Rattle.fluent_parser.proofs.refusals.refusals_of.Given as goal

abbrev pub invariant-loop-start : goal.invariant-loop-start
invariant-loop-start g l = record {
  text : l.text ≡ g.T.Texts.text l.source;
  parser : l.parser.text.now ≡ l.text;
  refusals : map (refusal_view l.text) l.refusals.items ≡ refusals_from l.text (take l.start-index l.starts);
  places : AreBetweenCharacters l.text l.refusals.items;
}
