use Rattle.std.proofs.Common.{map, sym, ap, ◌∙◌, refl}
use Rattle.fluent_grammar.specs.Words as w
use Rattle.fluent_tokens.specs.Counted.{begins_value}
use Rattle.fluent_parser.specs.Reads.{string_or_number_at, argument_value_at}
use Rattle.fluent_parser.specs.Steps.{names_of}
use Rattle.fluent_ast.specs.View.{inline_view, named_view}
use Rattle.fluent_parser.proofs.Cycle.{gives_same}
use Rattle.fluent_parser.proofs.Values.{value_read, value_none}
use Rattle.fluent_parser.proofs.parser.Parser.get_argument_value.Goals as goal

pub returns-then-begins_value-clause-gives : goal.returns-then-begins_value-clause-gives
returns-then-begins_value-clause-gives g c =
    let names = names_of (map (named_view g.row.S.Denot g.T.Texts.text) c.args.others.now.all.items) in
    let name = c.args.name.now in
    let other = sym c.has_name.ensures ∙ c.if-has_name.false in
    let skipped = c.skip_blank.ensures.rest ∙ ap w.skip_blank c.advance.ensures.rest in
    let begun = ap begins_value (sym c.bytes.ensures.value) ∙ sym c.begins_value.ensures ∙ c.if-begins_value.true in
    gives_same (inline_view g.row.S.Denot g.T.Texts.text) c.get_literal.new.self.rest.now c.get_literal.result (string_or_number_at c.skip_blank.new.self.rest.now) (argument_value_at names name c.args.self.now.rest.now)
    (value_read names name c.args.self.now.rest.now c.skip_blank.new.self.rest.now other skipped begun) c.get_literal.ensures.gives

pub returns-else-begins_value-clause-gives : goal.returns-else-begins_value-clause-gives
returns-else-begins_value-clause-gives g c =
    let names = names_of (map (named_view g.row.S.Denot g.T.Texts.text) c.args.others.now.all.items) in
    let name = c.args.name.now in
    let other = sym c.has_name.ensures ∙ c.if-has_name.false in
    let skipped = c.skip_blank.ensures.rest ∙ ap w.skip_blank c.advance.ensures.rest in
    let begun = ap begins_value (sym c.bytes.ensures.value) ∙ sym c.begins_value.ensures ∙ c.if-begins_value.false in
    rw (value_none names name c.args.self.now.rest.now c.skip_blank.new.self.rest.now other skipped begun) (refl, refl)
