use Rattle.std.proofs.Common.{◌∙◌, ℕ, List, sym, subst, arith}
use Rattle.fluent_ast.specs.View.{pattern_view}
use Rattle.fluent_parser.specs.Frame.{StartsLine}
use Rattle.fluent_parser.proofs.LineStarts.{first_starts, piece_starts}
use Rattle.fluent_parser.proofs.PlainPieces.{plain_none, plain_more, plain_end, piece_put}
use Rattle.fluent_parser.proofs.parser.Parser.get_lines_as_told.Goals as goal

pub loop-dedented-init : goal.loop-dedented-init
loop-dedented-init g c =
    let u = c.args.self.now.rest.now in
    let line = c.skip_to_line-at_line_start.result in
    let rest = c.skip_to_line-at_line_start.new.self.rest.now in
    let text = c.skip_to_line-at_line_start.ensures.advances.text in
    let place = c.skip_to_line-at_line_start.ensures.place in
    record {
      text = text;
      stack = c.skip_to_line-at_line_start.ensures.advances.stack;
      budget = c.skip_to_line-at_line_start.ensures.advances.budget;
      onward = c.skip_to_line-at_line_start.ensures.advances.onward;
      gathers = plain_none g.row.S.Denot g.T.Texts.text c.in_ok-dedented.dedented line rest u c.in_ok-dedented.ensures.elements c.in_ok-dedented.ensures.common_indent place;
      line_start = subst (λ (z : List ℕ). StartsLine line z rest) (sym text) (first_starts line c.args.self.now.text.now u rest c.args.self.now.is_tail place);
    }

pub loop-dedented-preserved : goal.loop-dedented-preserved
loop-dedented-preserved g c =
    let line = c.loop-dedented.at_line_start in
    let s = c.loop-dedented.self.rest.now in
    let rest = c.get_plain_line.new.self.rest.now in
    let old = c.loop-dedented.dedented in
    let new = c.get_plain_line.new.dedented in
    let put = piece_put g.row.S.Denot g.T.Texts.text old new line s rest _ c.in-Some.ends_line c.in-Some.is c.in_ok-ends_line.ensures.gives in
    record {
      text = c.get_plain_line.ensures.advances.text ∙ c.loop-dedented.invariant.text;
      stack = c.get_plain_line.ensures.advances.stack ∙ c.loop-dedented.invariant.stack;
      budget = c.get_plain_line.ensures.advances.budget ∙ c.loop-dedented.invariant.budget;
      onward = omega (arith, c.get_plain_line.ensures.advances.onward, c.loop-dedented.invariant.onward);
      gathers = plain_more g.row.S.Denot g.T.Texts.text old new line c.in-Some.ends_line s rest c.args.self.now.rest.now c.loop-dedented.invariant.gathers put;
      line_start = subst (λ (z : List ℕ). StartsLine c.in-Some.ends_line z rest) (sym c.get_plain_line.ensures.advances.text)
          (piece_starts line c.loop-dedented.self.text.now s rest put.piece c.in-Some.ends_line c.loop-dedented.self.is_tail put.read_is);
    }

pub returns-in-Some-finish-clause-gives : goal.returns-in-Some-finish-clause-gives
returns-in-Some-finish-clause-gives g c =
    plain_end g.row.S.Denot g.T.Texts.text c.loop-dedented.dedented c.get_plain_line.new.dedented c.loop-dedented.at_line_start c.loop-dedented.self.rest.now c.get_plain_line.new.self.rest.now c.skip_pattern_end.new.self.rest.now
    c.args.self.now.rest.now _ (pattern_view g.row.S.Denot g.T.Texts.text c.in-Some-finish.pattern) c.loop-dedented.invariant.gathers c.in_default.is c.in_ok-ends_line.ensures.gives
    c.in-Some-finish.ensures.common_indent c.if-skip_pattern_end.ensures.end c.in-Some-finish.ensures.value
