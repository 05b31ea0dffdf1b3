use Rattle.std.proofs.Common.{◌≡◌, ◌∙◌, ◌++◌, ◌-◌, List, length, take, ap, map, rules}
use Rattle.std.proofs.lemmas.Result.{on_ok_weaker}
use Rattle.fluent_grammar.specs.Words.{Text}
use Rattle.lint_findings.specs.View.{finding_view, remark_view}
use Rattle.lint_findings.specs.Encodings.{wrong_encodings}
use Rattle.lint_findings.specs.EntryFindings.{finding_in}
use Rattle.lint_findings.specs.Letters.{letters}
use Rattle.lint_findings.specs.Finding as f
use Rattle.lint_findings.specs.Scripts.{mixed_words}
use Rattle.lint_entries.specs.Labels.{label_text}
use Rattle.lint_entries.proofs.Pushed.{both_remarks}
use Rattle.lint_entries.proofs.pattern.push_letters.Goals as goal

pub returns : goal.returns
returns c =
    let name = c.args.name.now in
    let old = map finding_view c.args.findings.now.items in
    let at : f.Remark → f.Finding = finding_in name.source.now (label_text name.label) c.args.text.now in
    let written = c.front-written.result.now in
    let cut : written ≡ take (length c.args.text.now - length c.args.rest.now) c.args.text.now = search rules in
    let words : Text → List f.Remark = λ (s : Text). mixed_words s ++ wrong_encodings s in
    on_ok_weaker c.push_remarks-2.result
    (λ added. both_remarks at old (map remark_view c.in_ok-letter_remarks.field-0.items) (map remark_view c.in_ok-word_remarks.field-0.items) (letters written) (words written)
    c.in_ok-letter_remarks.ensures c.in_ok-word_remarks.ensures c.in_ok-push_remarks.ensures added
    ∙ ap (λ s. old ++ map at (letters s ++ words s)) cut)
    c.push_remarks-2.ensures
