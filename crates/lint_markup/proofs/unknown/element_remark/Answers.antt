use Rattle.std.proofs.Common.{◌∙◌, ◌++◌, Option, codes, option_map, string_bytes, ap}
use Rattle.fluent_grammar.specs.Words.{Text}
use Rattle.lint_findings.specs.Finding as f
use Rattle.lint_markup.proofs.Known.{hint_listed}
use Rattle.lint_markup.proofs.unknown.element_remark.Goals as goal

abbrev made : Text → Option Text → f.Remark
made text hint = record (f.remark f.warning (codes "unknown-element") text) { hint = hint }

pub returns : goal.returns
returns c =
    let hint = option_map string_bytes c.in_ok-hint.hint in
    let name = c.args.element.now in
    c.with_hint.ensures
    ∙ ap (λ (r : f.Remark). record r { hint = hint }) c.warning.ensures
    ∙ ap (λ (text : Text). made text hint) c.in_ok-text.ensures.ok
    ∙ ap (made (codes "the reference has no element `" ++ (name ++ codes "`"))) (c.in_ok-hint.ensures ∙ hint_listed c.args.known.now c.requires.known name)
