use Rattle.std.proofs.Common.{◌≡◌, ◌≤◌, ◌++◌, length, map}
use Rattle.fluent_grammar.specs.Refusal.{got}
use Rattle.fluent_ast.specs.View.{attribute_view}
use Rattle.fluent_parser.specs.Entries.{attributes_by, attributes_left}
use Rattle.fluent_parser.proofs.parser.Parser.get_attributes.Given as goal

abbrev pub invariant-loop-attributes : goal.invariant-loop-attributes
invariant-loop-attributes g l = record {
  text : l.self.text.now ≡ l.fn.self.text.now;
  stack : l.self.stack.taken ≡ l.fn.self.stack.taken;
  budget : l.self.stack.budget ≡ l.fn.self.stack.budget;
  onward : length l.self.rest.now ≤ length l.fn.self.rest.now;
  read : attributes_by l.fn.self.rest.now ≡ got (map (attribute_view g.row.S.Denot g.T.Texts.text) l.attributes.items ++ (attributes_left l.self.rest.now).0) (attributes_left l.self.rest.now).1;
}

abbrev pub decreases-loop-attributes : goal.decreases-loop-attributes
decreases-loop-attributes g l = length l.self.rest.now
