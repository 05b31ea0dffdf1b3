use Rattle.std.proofs.Common.{◌≡◌, ◌∙◌, None, sym, ap}
use Rattle.fluent_grammar.specs.Reading.{entry_at}
use Rattle.fluent_ast.specs.View.{entry_view}
use Rattle.fluent_parser.specs.Refusals.{attribute_refusal}
use Rattle.fluent_parser.specs.Refused.{FindsRefusal}
use Rattle.fluent_parser.proofs.Unread.{entry_got}
use Rattle.fluent_parser.proofs.parser.Parser.find_refusal.Goals as goal

pub returns-in-Ok-clause-found : goal.returns-in-Ok-clause-found
returns-in-Ok-clause-found g c =
    let s = c.args.self.now.rest.now in
    let here = c.find_attribute_refusal.new.self.rest.now in
    let none : FindsRefusal None here (attribute_refusal s) = rw c.in_default.is at c.in_ok-kind.ensures.found in
    let same : here ≡ s = c.in_ok-kind.ensures.none c.in_default.is in
    entry_got s (entry_view g.row.S.Denot g.T.Texts.text c.in-Ok.field-0) c.get_entry.new.self.rest.now here c.get_entry.new.self.rest.now none (ap entry_at (sym same) ∙ c.in-Ok.ensures.gives)
