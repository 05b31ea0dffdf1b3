use Rattle.std.proofs.Common.{◌∙◌, codes, ap}
use Rattle.fluent_grammar.specs.Words.{Text}
use Rattle.lint_findings.specs.Finding as f
use Rattle.lint_texts.proofs.addresses.url_remark.Goals as goal

pub returns : goal.returns
returns c = c.note.ensures ∙ ap (λ (text : Text). f.remark f.note (codes "changed-url") text) c.in_ok-text.ensures.ok
