use Rattle.std.proofs.Common.{◌≡◌, true, rules}
use Rattle.fluent_grammar.specs.Words.{begins_with, dot, skip_spaces}
use Rattle.fluent_ast.specs.View.{attribute_view}
use Rattle.fluent_parser.specs.Reads.{Refuses}
use Rattle.fluent_parser.specs.Entries.{attribute_by}
use Rattle.fluent_parser.proofs.Unread.{attribute_got, attribute_refused}
use Rattle.fluent_parser.proofs.parser.Parser.find_attribute_refusal.Goals as goal

pub returns-in-Ok-clause-found : goal.returns-in-Ok-clause-found
returns-in-Ok-clause-found g c =
    let s = c.args.self.now.rest.now in
    let b : begins_with dot (skip_spaces s) ≡ true = cc in
    attribute_got s (attribute_view g.row.S.Denot g.T.Texts.text c.in-Ok.field-0) c.get_attribute.new.self.rest.now c.set_rest.new.self.rest.now b c.in-Ok.ensures.gives

pub returns-clause-found : goal.returns-clause-found
returns-clause-found g c =
    let s = c.args.self.now.rest.now in
    let place = c.get_attribute.new.self.rest.now in
    let b : begins_with dot (skip_spaces s) ≡ true = cc in
    let h : Refuses c.in-Err-Refused.kind place (attribute_by s) = rw c.in-Err-Refused.field-0-is at c.in-Err-Refused.ensures.gives in
    search (rules, attribute_refused s c.in-Err-Refused.kind place b h)
