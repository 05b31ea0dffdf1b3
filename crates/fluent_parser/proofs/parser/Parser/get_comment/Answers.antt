use Rattle.std.proofs.Common.{◌≡◌, ◌∙◌, sym, ap, rules}
use Rattle.fluent_grammar.specs.Words.{comment_level}
use Rattle.fluent_grammar.specs.Refusal.{got}
use Rattle.fluent_parser.proofs.Comments.{comment_fails, comment_read}
use Rattle.fluent_parser.proofs.parser.Parser.get_comment.Goals as goal

pub returns-in_err-content-clause-gives : goal.returns-in_err-content-clause-gives
returns-in_err-content-clause-gives g c =
    let s = c.args.self.now.rest.now in
    let e : c.comment_level-level.result ≡ comment_level s = c.comment_level-level.ensures.value ∙ ap comment_level c.bytes.ensures.value in
    search (rules, comment_fails _ _ s c.comment_level-level.result e c.in_err-content.ensures.gives)

pub returns-clause-gives : goal.returns-clause-gives
returns-clause-gives g c =
    let s = c.args.self.now.rest.now in
    let e : c.comment_level-level.result ≡ comment_level s = c.comment_level-level.ensures.value ∙ ap comment_level c.bytes.ensures.value in
    comment_read s c.comment_level-level.result _ _ e c.in_ok-content.ensures.gives
    ∙ ap (λ x. got x c.get_comment_content.new.self.rest.now) (sym (c.comment_of.ensures g.T.Texts.text))
