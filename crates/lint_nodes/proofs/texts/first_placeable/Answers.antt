use Rattle.std.proofs.Common.{◌≡◌, ◌∙◌, drop, None, Some, sym, ap, if◌then◌else◌}
use Rattle.std.specs.Prelude.{◌==◌}
use Rattle.fluent_grammar.specs.Words.{skip_spaces, after_line_end}
use Rattle.lint_nodes.specs.Rests.{after_first_texts}
use Rattle.lint_nodes.proofs.texts.first_placeable.Goals as goal

pub returns-then-line_end-eq0 : goal.returns-then-line_end-eq0
returns-then-line_end-eq0 c =
    let s = c.skip-begun.result.now in
    let begun : s ≡ skip_spaces c.args.text.now = c.skip-begun.ensures ∙ ap (λ n. drop n c.args.text.now) c.blank_inline_len.ensures in
    let none : after_line_end s ≡ None = c.line_end_len-line_end.ensures.value ∙ ap (λ n. if n == 0 then None else Some (drop n s)) c.if-line_end-eq0.true in
    c.after_texts.ensures ∙ ap (after_first_texts s) (sym none) ∙ ap (λ x. after_first_texts x (after_line_end x)) begun
