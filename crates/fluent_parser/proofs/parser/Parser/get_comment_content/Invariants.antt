use Rattle.std.proofs.Common.{◌≡◌, ◌≤◌, ◌++◌, length, map}
use Rattle.fluent_grammar.specs.Refusal.{got}
use Rattle.fluent_parser.specs.Entries.{comment_content_by, lines_left}
use Rattle.fluent_parser.proofs.parser.Parser.get_comment_content.Given as goal

abbrev pub invariant-loop-self : goal.invariant-loop-self
invariant-loop-self g l = record {
  text : l.self.text.now ≡ l.fn.self.text.now;
  stack : l.self.stack.taken ≡ l.fn.self.stack.taken;
  budget : l.self.stack.budget ≡ l.fn.self.stack.budget;
  onward : length l.self.rest.now ≤ length l.fn.self.rest.now;
  read : comment_content_by l.level l.fn.self.rest.now ≡ got (map g.T.Texts.text l.lines.items ++ (lines_left l.level l.self.rest.now).0) (lines_left l.level l.self.rest.now).1;
}

abbrev pub decreases-loop-self : goal.decreases-loop-self
decreases-loop-self g l = length l.self.rest.now
