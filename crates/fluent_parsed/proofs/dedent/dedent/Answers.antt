use Rattle.std.proofs.Common.{◌-◌, ◌∙◌, ap, sym, subst, true, drop, length, take}
use Rattle.std.specs.Str.{IsUtf8}
use Rattle.fluent_grammar.specs.Words.{spaces}
use Rattle.fluent_tokens.proofs.Scanned.{take_rest}
use Rattle.fluent_ast.specs.View.{element_view, text}
use Rattle.fluent_ast.proofs.Views.{element_view-TextElement}
use Rattle.fluent_parsed.specs.Elements.{cut_len, dedented_by}
use Rattle.fluent_parsed.proofs.Dedenting.{cut_le, cut_among_spaces}
use Rattle.fluent_parsed.proofs.dedent.dedent.Goals as goal

pub slice-requires-clause-start_boundary : goal.slice-requires-clause-start_boundary
slice-requires-clause-start_boundary g c =
    let x = g.T.Texts.text c.in-TextElement.value in
    let n = c.blank_inline_len-indent.ensures ∙ ap spaces (c.as_bytes-then-begins_line.ensures.value ∙ c.as_str-text.ensures) in
    let cut = c.cut_len-cut.ensures ∙ ap (cut_len c.args.common_indent) n in
    rw cut ((cut_among_spaces x (cut_len c.args.common_indent (spaces x)) (cut_le c.args.common_indent (spaces x))).boundary (subst IsUtf8 c.as_str-text.ensures c.as_str-text.utf8))

pub returns-in_ok-kept-clause-element : goal.returns-in_ok-kept-clause-element
returns-in_ok-kept-clause-element g c =
    let S = g.row.S.Denot in
    let text_of = g.T.Texts.text in
    let x = text_of c.in-TextElement.value in
    let cut = c.cut_len-cut.ensures ∙ ap (cut_len c.args.common_indent) (c.blank_inline_len-indent.ensures ∙ ap spaces (c.as_bytes-then-begins_line.ensures.value ∙ c.as_str-text.ensures)) in
    let kept = c.in_ok-kept.ensures ∙ ap (λ y. take (length y - c.cut_len-cut.result) (drop c.cut_len-cut.result x)) c.as_str-text.ensures ∙ take_rest c.cut_len-cut.result x ∙ ap (λ k. drop k x) cut in
    element_view-TextElement S text_of c.in_ok-kept.kept ∙ ap text kept
    ∙ sym (ap (λ b. dedented_by b c.args.common_indent (element_view S text_of c.args.element.now)) c.if-begins_line.true
    ∙ ap (λ e. dedented_by true c.args.common_indent (element_view S text_of e)) c.in-TextElement.is
    ∙ ap (dedented_by true c.args.common_indent) (element_view-TextElement S text_of c.in-TextElement.value))
