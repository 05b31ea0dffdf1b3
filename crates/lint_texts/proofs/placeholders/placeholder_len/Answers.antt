use Rattle.std.proofs.Common.{◌≡◌, ◌∙◌, drop, ap, sym, arith, length-drop}
use Rattle.std.specs.List.{prefix_len}
use Rattle.fluent_grammar.specs.Words.{is_digit}
use Rattle.lint_findings.specs.Placeholders.{kind_len}
use Rattle.lint_texts.proofs.PlaceholderSteps.{brace_len, cut_placeholder, kind_within, percent_len}
use Rattle.lint_texts.proofs.placeholders.placeholder_len.Goals as goal

pub after-requires : goal.after-requires
after-requires c =
    let s = c.args.text.now in
    let e : c.kind_len.result ≡ kind_len (drop 1 s) = c.kind_len.ensures ∙ ap kind_len c.skip.ensures in
    omega (arith, e, kind_within (drop 1 s), length-drop 1 s)

pub returns-then-begins_with-clause-cuts : goal.returns-then-begins_with-clause-cuts
returns-then-begins_with-clause-cuts c =
    let s = c.args.text.now in
    let e : c.kind_len.result ≡ kind_len (drop 1 s) = c.kind_len.ensures ∙ ap kind_len c.skip.ensures in
    cut_placeholder s c.after.result (percent_len s c.kind_len.result c.after.result (sym c.begins_with.ensures ∙ c.if-begins_with.true) e c.after.ensures)

pub returns-then-begins_with-2-clause-cuts : goal.returns-then-begins_with-2-clause-cuts
returns-then-begins_with-2-clause-cuts c =
    let s = c.args.text.now in
    let e : c.digits_len.result ≡ prefix_len is_digit (drop 1 s) = c.digits_len.ensures ∙ ap (prefix_len is_digit) c.skip-then-begins_with-2.ensures in
    cut_placeholder s c.braces_len.result
    (brace_len s c.digits_len.result c.braces_len.result (sym c.begins_with.ensures ∙ c.if-begins_with.false)
    (sym c.begins_with-else-begins_with.ensures ∙ c.if-begins_with-2.true) e c.braces_len.ensures)
