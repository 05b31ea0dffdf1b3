use Rattle.std.proofs.Common.{◌∙◌, ◌++◌, ap, map, sym, append-nil, rules}
use Rattle.fluent_ast.specs.Borrowed.{message_of}
use Rattle.lint_findings.specs.View.{finding_view}
use Rattle.lint_findings.specs.Occurrences.{entry_places}
use Rattle.lint_findings.specs.Pairs.{on_texts}
use Rattle.lint_comparison.proofs.TextsFound.{nothing_found}
use Rattle.lint_comparison.proofs.texts.push_text_findings.Goals as goal

pub returns-else-branch : goal.returns-else-branch
returns-else-branch c =
    let m = message_of c.args.message.now in
    let old = map finding_view c.args.findings.now.items in
    sym (append-nil old)
    ∙ ap (λ l. old ++ l) (sym (nothing_found c.args.source.now m.id (entry_places c.args.text.now) (on_texts m (message_of c.args.other.now)) (search rules)))
