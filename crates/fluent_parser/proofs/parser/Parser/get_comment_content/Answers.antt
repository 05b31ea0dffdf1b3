use Rattle.std.proofs.Common.{◌≡◌, ◌∙◌, [], map, sym, arith, rules}
use Rattle.fluent_parser.proofs.Comments.{content_begins, content_goes_on, content_ends, content_fails, content_stands, line_test, level_cuts}
use Rattle.fluent_parser.proofs.parser.Parser.get_comment_content.Goals as goal

pub returns-in_err-push_comment_line-clause-gives : goal.returns-in_err-push_comment_line-clause-gives
returns-in_err-push_comment_line-clause-gives g c =
    search (rules, content_fails _ _ c.args.level c.args.self.now.rest.now _ c.in_err-push_comment_line.ensures.gives)

pub loop-self-init : goal.loop-self-init
loop-self-init g c =
    let none : map g.T.Texts.text c.new-lines.result.items ≡ [] = search rules in
    record {
      text = c.push_comment_line.ensures.advances.text;
      stack = c.push_comment_line.ensures.advances.stack;
      budget = c.push_comment_line.ensures.advances.budget;
      onward = omega (arith, c.push_comment_line.ensures.past);
      read = content_begins c.args.level c.args.self.now.rest.now _ _ _ none c.in_ok-push_comment_line.ensures.gives;
    }

pub loop-self-preserved : goal.loop-self-preserved
loop-self-preserved g c =
    let u = c.loop-self.self.rest.now in
    let t = line_test c.args.level u (sym c.is_comment_line.ensures ∙ c.loop-self-test.true) in
    let cut = (level_cuts u c.args.level (sym t.0)).within in
    record {
      text = c.push_comment_line-in-loop-self.ensures.advances.text ∙ c.loop-self.invariant.text;
      stack = c.push_comment_line-in-loop-self.ensures.advances.stack ∙ c.loop-self.invariant.stack;
      budget = c.push_comment_line-in-loop-self.ensures.advances.budget ∙ c.loop-self.invariant.budget;
      onward = omega (arith, c.push_comment_line-in-loop-self.ensures.past, c.loop-self.invariant.onward);
      read = content_goes_on c.args.level c.args.self.now.rest.now u _ _ _ t.0 (omega (arith, c.push_comment_line-in-loop-self.ensures.past, c.requires.some)) c.in_ok-push_comment_line-2.ensures.gives c.loop-self.invariant.read;
    }

pub returns-in_err-push_comment_line-2-clause-gives : goal.returns-in_err-push_comment_line-2-clause-gives
returns-in_err-push_comment_line-2-clause-gives g c =
    let u = c.loop-self.self.rest.now in
    let t = line_test c.args.level u (sym c.is_comment_line.ensures ∙ c.loop-self-test.true) in
    search (rules, content_stands _ _ c.args.level c.args.self.now.rest.now u _ t.1 c.in_err-push_comment_line-2.ensures.gives)

pub returns-clause-gives : goal.returns-clause-gives
returns-clause-gives g c = content_ends c.args.level c.args.self.now.rest.now c.loop-self.self.rest.now _ (sym c.is_comment_line.ensures ∙ c.loop-self-test.false) c.loop-self.invariant.read
