use Rattle.std.proofs.Common.{◌≡◌, ◌≤◌, ◌++◌, true, None, length, map}
use Rattle.fluent_grammar.specs.Tiling.{entries_of, errors_of}
use Rattle.fluent_parsed.specs.ErrorView.{error_told}
use Rattle.fluent_parsed.specs.Collected.{entries_with, errors_with}
use Rattle.fluent_parser.specs.Left.{pieces_left}
use Rattle.fluent_parser.specs.Starts.{starts_left}
use Rattle.fluent_parser.proofs.parser.Parser.get_parts.Given as goal

abbrev pub invariant-parts : goal.invariant-parts
invariant-parts g l = record {
  text : l.self.text.now ≡ l.fn.self.text.now;
  closed : l.self.stack.taken ≡ 0;
  budget : l.self.stack.budget ≡ l.fn.self.stack.budget;
  within : length l.self.rest.now ≤ length l.fn.self.text.now;
  entries : entries_with g.row.S.Denot g.T.Texts.text l.collected (pieces_left (length l.fn.self.text.now) l.self.rest.now) ≡ entries_of None (pieces_left (length l.fn.self.text.now) l.fn.self.rest.now);
  errors : errors_with g.row.S.Denot l.collected (pieces_left (length l.fn.self.text.now) l.self.rest.now) ≡ map error_told (errors_of (pieces_left (length l.fn.self.text.now) l.fn.self.rest.now));
  keeping : l.starts.is_keeping ≡ l.fn.starts.is_keeping;
  starts : l.fn.starts.is_keeping ≡ true → l.starts.all.items ++ starts_left (length l.fn.self.text.now) l.self.rest.now ≡ l.fn.starts.all.items ++ starts_left (length l.fn.self.text.now) l.fn.self.rest.now;
}

abbrev pub decreases-parts : goal.decreases-parts
decreases-parts g l = length l.self.rest.now
