-- What the parser's readers go down by: what is left of the text, and the order in which they call each other on it.
use Rattle.std.proofs.Common.{◌≡◌, ℕ, ◌+◌, ◌*◌, ◌<◌, ◌≤◌, [], length, drop, map}
use Rattle.std.specs.Prelude.{false}
use Rattle.fluent_grammar.specs.Words as w
use Rattle.fluent_grammar.specs.Refusal.{mapped}
use Rattle.fluent_parser.specs.Frame.{StartsLine}
use Rattle.fluent_parser.specs.Nesting.{TakesArguments, TakesLines, TakesPieces, TakesVariants}
use Rattle.fluent_parser.specs.Depth.{TakesAfterParenthesis}
use Rattle.fluent_parser.specs.Reads.{whole}
use Rattle.fluent_parser.specs.Steps.{arguments_behind, names_of, variants_behind}
use Rattle.fluent_parser.specs.Indexed.{IsIndexed}
use Rattle.fluent_ast.specs.View.{inline_view, named_view, variant_view}
use Rattle.fluent_parser.proofs.GatheredPieces.{Gathers}
use Rattle.fluent_parser.proofs.parser.Parser.+parser.Given as goal

abbrev pub decreases-get_argument : goal.decreases-get_argument
decreases-get_argument g l = 6 * length l.self.now.rest.now + 3

abbrev pub decreases-get_call_arguments : goal.decreases-get_call_arguments
decreases-get_call_arguments g l = 6 * length l.self.now.rest.now + 0

abbrev pub decreases-get_variants_of : goal.decreases-get_variants_of
decreases-get_variants_of g l = 6 * length l.self.now.rest.now + 5

abbrev pub decreases-get_inline_expression : goal.decreases-get_inline_expression
decreases-get_inline_expression g l = 6 * length l.self.now.rest.now + 2

abbrev pub decreases-get_named_reference : goal.decreases-get_named_reference
decreases-get_named_reference g l = 6 * length l.self.now.rest.now + 1

abbrev pub decreases-get_lines : goal.decreases-get_lines
decreases-get_lines g l = 6 * length l.self.now.rest.now + 3

abbrev pub decreases-get_pattern : goal.decreases-get_pattern
decreases-get_pattern g l = 6 * length l.self.now.rest.now + 4

abbrev pub decreases-get_piece : goal.decreases-get_piece
decreases-get_piece g l = 6 * length l.self.now.rest.now + 2

abbrev pub decreases-get_piece_behind : goal.decreases-get_piece_behind
decreases-get_piece_behind g l = 6 * length l.self.now.rest.now + 1

abbrev pub decreases-get_nested_placeable : goal.decreases-get_nested_placeable
decreases-get_nested_placeable g l = 6 * length l.self.now.rest.now + 0

abbrev pub decreases-get_placeable_piece : goal.decreases-get_placeable_piece
decreases-get_placeable_piece g l = 6 * length l.self.now.rest.now + 0

abbrev pub decreases-get_select_variants : goal.decreases-get_select_variants
decreases-get_select_variants g l = 6 * length l.self.now.rest.now + 4

abbrev pub decreases-get_term_reference : goal.decreases-get_term_reference
decreases-get_term_reference g l = 6 * length l.self.now.rest.now + 1

abbrev pub decreases-get_variant : goal.decreases-get_variant
decreases-get_variant g l = 6 * length l.self.now.rest.now + 0

abbrev pub decreases-get_variants : goal.decreases-get_variants
decreases-get_variants g l = 6 * length l.self.now.rest.now + 3

abbrev pub invariant-get_call_arguments-loop-self : goal.invariant-get_call_arguments-loop-self
invariant-get_call_arguments-loop-self g l =
    let positional = map (inline_view g.row.S.Denot g.T.Texts.text) l.positional.items in
    let named = map (named_view g.row.S.Denot g.T.Texts.text) l.named.all.items in
    record {
      text : l.self.text.now ≡ l.fn.self.text.now;
      stack : l.self.stack.taken ≡ l.fn.self.stack.taken;
      budget : l.self.stack.budget ≡ l.fn.self.stack.budget;
      onward : length l.self.rest.now < length l.fn.self.rest.now;
      same : mapped (arguments_behind positional named) (whole.arguments (names_of named) l.self.rest.now) ≡ whole.arguments [] (w.skip_blank (drop 1 l.fn.self.rest.now));
      indexed : IsIndexed g.row.S.Denot g.T.Texts.text l.named;
      inner : (n : ℕ) → TakesArguments (names_of named) l.self.rest.now n → TakesAfterParenthesis l.fn.self.rest.now n;
    }

abbrev pub decreases-get_call_arguments-loop-self : goal.decreases-get_call_arguments-loop-self
decreases-get_call_arguments-loop-self g l = length l.self.rest.now

abbrev pub invariant-get_lines-loop-gathered : goal.invariant-get_lines-loop-gathered
invariant-get_lines-loop-gathered g l = record {
  text : l.self.text.now ≡ l.fn.self.text.now;
  stack : l.self.stack.taken ≡ l.fn.self.stack.taken;
  budget : l.self.stack.budget ≡ l.fn.self.stack.budget;
  onward : length l.self.rest.now ≤ length l.fn.self.rest.now;
  gathers : Gathers g.row.S.Denot g.T.Texts.text l.gathered l.at_line_start l.self.rest.now l.fn.self.rest.now;
  line_start : StartsLine l.at_line_start l.self.text.now l.self.rest.now;
  inner : (n : ℕ) → TakesPieces l.at_line_start l.self.rest.now n → TakesLines l.fn.self.rest.now n;
}

abbrev pub decreases-get_lines-loop-gathered : goal.decreases-get_lines-loop-gathered
decreases-get_lines-loop-gathered g l = length l.self.rest.now

abbrev pub invariant-get_variants-loop-variants : goal.invariant-get_variants-loop-variants
invariant-get_variants-loop-variants g l = record {
  text : l.self.text.now ≡ l.fn.self.text.now;
  stack : l.self.stack.taken ≡ l.fn.self.stack.taken;
  budget : l.self.stack.budget ≡ l.fn.self.stack.budget;
  onward : length l.self.rest.now ≤ length l.fn.self.rest.now;
  same : mapped (variants_behind (map (variant_view g.row.S.Denot g.T.Texts.text) l.variants.items)) (whole.variants l.has_default l.self.rest.now) ≡ whole.variants false l.fn.self.rest.now;
  inner : (n : ℕ) → TakesVariants l.has_default l.self.rest.now n → TakesVariants false l.fn.self.rest.now n;
}

abbrev pub decreases-get_variants-loop-variants : goal.decreases-get_variants-loop-variants
decreases-get_variants-loop-variants g l = length l.self.rest.now
