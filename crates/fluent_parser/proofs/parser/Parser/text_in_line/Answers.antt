use Rattle.std.proofs.Common.{◌∙◌, ℕ, List, take, length, sym, ap, refl}
use Rattle.std.specs.Prelude.{◌==◌}
use Rattle.fluent_grammar.specs.Words.{open_brace, begins_with, begins_crlf}
use Rattle.fluent_grammar.specs.Lines.{ends_line, is_blank_text}
use Rattle.fluent_parser.proofs.PlainEnds.{in_line_on}
use Rattle.fluent_parser.proofs.parser.Parser.text_in_line.Goals as goal

pub returns-clause-text : goal.returns-clause-text
returns-clause-text g c =
    let s = c.args.self.now.rest.now in
    let count = c.in-Ok.count in
    let here = c.bytes-rest.ensures.value in
    let front = c.front-text.ensures ∙ ap (take count) here in
    in_line_on s _ refl (record {
      start = record {
        some = sym (ap (λ (z : List ℕ). length z == 0) here) ∙ sym c.is_empty.ensures ∙ c.if-is_empty.false;
        brace = sym (ap (begins_with open_brace) here) ∙ sym c.begins_with.ensures ∙ c.if-begins_with.false;
        crlf = sym (ap begins_crlf here) ∙ sym c.begins_crlf.ensures ∙ c.if-begins_crlf.false;
      };
      text = c.in-Ok.ensures.value;
      blank = c.is_blank_text.ensures ∙ ap is_blank_text front;
      ends = c.ends_line.ensures ∙ ap ends_line front;
    })
