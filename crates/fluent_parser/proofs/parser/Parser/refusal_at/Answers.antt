use Rattle.std.proofs.Common.{◌≡◌, ◌∙◌, ◌-◌, length, drop}
use Rattle.fluent_grammar.specs.Words.{Text}
use Rattle.fluent_tokens.proofs.Counted.{place_of_tail}
use Rattle.fluent_parser.proofs.parser.Parser.refusal_at.Goals as goal

pub returns-clause-places : goal.returns-clause-places
returns-clause-places g c =
    let text : Text = c.args.text.now in
    let rest : Text = c.rest-at.result.now in
    let parser = c.find_refusal.new.self in
    let same : parser.text.now ≡ text = c.find_refusal.ensures.advances.text ∙ c.set_rest.ensures.text ∙ c.requires.text in
    let tail : rest ≡ drop (length text - length rest) text = cc (same, c.rest-at.ensures, parser.is_tail) in
    record { start = c.requires.boundary; place = place_of_tail text rest tail c.rest-at.utf8 }
