use Rattle.std.proofs.Common.{◌∙◌, ◌-◌, ◌+◌, ◌≤◌, ℕ, List, drop, take, map, sym, ap, subst, arith, refl, ◌++◌, ◌∷◌, []}
use Rattle.std.proofs.lemmas.List.{map-append}
use Rattle.fluent_grammar.specs.Lines.{lesser}
use Rattle.fluent_tokens.specs.Counted.{Cuts}
use Rattle.fluent_ast.specs.View.{element_view}
use Rattle.fluent_ast.proofs.Views.{element_view-TextElement}
use Rattle.fluent_parser.specs.Steps.{text_piece}
use Rattle.fluent_parser.proofs.Runs.{text_read, text_shorter}
use Rattle.fluent_parser.proofs.PlainEnds.{said_is}
use Rattle.fluent_parser.proofs.PlainPieces.{cut_in_indent, cut_behind_cut, rest_behind_cut, dedented_text}
use Rattle.fluent_parser.proofs.parser.Parser.get_plain_line.Goals as goal

pub advance-requires : goal.advance-requires
advance-requires g c =
    let line = c.in-Some.ensures.text in
    let n = c.in-Some.line.indent in
    subst (λ (z : List ℕ). Cuts z c.cut_len-cut.result) (sym c.in-Some.ensures.stays.rest)
    (cut_in_indent c.args.at_line_start c.args.self.now.rest.now n c.cut_len-cut.result line.indent_is (omega (arith, c.cut_len-cut.ensures)))

pub take-requires : goal.take-requires
take-requires g c =
    let line = c.in-Some.ensures.text in
    let n = c.in-Some.line.indent in
    let k = c.cut_len-cut.result in
    subst (λ (z : List ℕ). Cuts z (n - k + c.in-Some.line.count)) (sym (c.advance.ensures.rest ∙ ap (drop k) c.in-Some.ensures.stays.rest))
    (cut_behind_cut c.args.at_line_start c.args.self.now.rest.now n k c.in-Some.line.count line.indent_is (omega (arith, c.cut_len-cut.ensures)) line.text.text.1)

pub returns-clause-gives : goal.returns-clause-gives
returns-clause-gives g c =
    let S = g.row.S.Denot in
    let text_of = g.T.Texts.text in
    let view = element_view S text_of in
    let s = c.args.self.now.rest.now in
    let line = c.in-Some.ensures.text in
    let n = c.in-Some.line.indent in
    let m = c.in-Some.line.count in
    let k = c.cut_len-cut.result in
    let same = c.in-Some.ensures.stays.rest in
    let within : k ≤ n = omega (arith, c.cut_len-cut.ensures) in
    let begun = c.advance.ensures.rest ∙ ap (drop k) same in
    let rest = c.take.ensures.rest ∙ ap (drop (n - k + m)) begun ∙ rest_behind_cut s n k m within in
    let piece = text_piece c.args.at_line_start n (take m (drop n s)) in
    let shown = element_view-TextElement S text_of c.in_ok-value.value
    ∙ dedented_text s (text_of c.in_ok-value.value) c.args.at_line_start n k m c.args.dedented.now.told line.indent_is c.cut_len-cut.ensures
    (c.in_ok-value.ensures.value ∙ ap (take (n - k + m)) begun) in
    record {
      piece = piece;
      read_is = line.next ∙ text_read s (drop n s) c.take.new.self.rest.now c.args.at_line_start n m piece c.in-Some.line.ends_line refl line.text.text.0 refl line.text.ends rest;
      elements = ap (map view) c.in_ok-push.ensures.elements ∙ map-append view c.args.dedented.now.elements.items (_ ∷ []) ∙ ap (λ z. map view c.args.dedented.now.elements.items ++ z ∷ []) shown;
      told = c.push.ensures.told;
      common_indent = c.push.ensures.common_indent ∙ ap (lesser c.args.dedented.now.common_indent) (c.said.ensures ∙ said_is c.args.at_line_start (drop n s) c.in-Some.line line.text);
    }

pub returns-clause-less : goal.returns-clause-less
returns-clause-less g c =
    let s = c.args.self.now.rest.now in
    let line = c.in-Some.ensures.text in
    let n = c.in-Some.line.indent in
    let m = c.in-Some.line.count in
    let k = c.cut_len-cut.result in
    let within : k ≤ n = omega (arith, c.cut_len-cut.ensures) in
    let rest = c.take.ensures.rest ∙ ap (drop (n - k + m)) (c.advance.ensures.rest ∙ ap (drop k) c.in-Some.ensures.stays.rest) ∙ rest_behind_cut s n k m within in
    text_shorter s (drop n s) c.take.new.self.rest.now n m refl line.text.text.0 line.text.start rest
