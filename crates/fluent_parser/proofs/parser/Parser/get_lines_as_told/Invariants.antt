use Rattle.std.proofs.Common.{◌≡◌, ◌≤◌, length}
use Rattle.fluent_parser.specs.Frame.{StartsLine}
use Rattle.fluent_parser.proofs.PlainPieces.{GathersPlain}
use Rattle.fluent_parser.proofs.parser.Parser.get_lines_as_told.Given as goal

abbrev pub invariant-loop-dedented : goal.invariant-loop-dedented
invariant-loop-dedented g l = record {
  text : l.self.text.now ≡ l.fn.self.text.now;
  stack : l.self.stack.taken ≡ l.fn.self.stack.taken;
  budget : l.self.stack.budget ≡ l.fn.self.stack.budget;
  onward : length l.self.rest.now ≤ length l.fn.self.rest.now;
  gathers : GathersPlain g.row.S.Denot g.T.Texts.text l.dedented l.at_line_start l.self.rest.now l.fn.self.rest.now;
  line_start : StartsLine l.at_line_start l.self.text.now l.self.rest.now;
}

abbrev pub decreases-loop-dedented : goal.decreases-loop-dedented
decreases-loop-dedented g l = length l.self.rest.now
