use Rattle.std.proofs.Common.{◌∙◌, ◌++◌, Some, ap, map}
use Rattle.fluent_ast.specs.Borrowed.{elements_of}
use Rattle.lint_findings.specs.View.{finding_view}
use Rattle.lint_markup.specs.InCode.{spotted_views}
use Rattle.lint_texts.specs.OfMessages.{on_attribute_in}
use Rattle.lint_comparison.proofs.TextsFound.{said_are}
use Rattle.lint_comparison.proofs.texts.Texts.push_attribute.Goals as goal

pub returns-clause-added : goal.returns-clause-added
returns-clause-added c =
    let texts = c.args.self.now in
    let attribute = c.args.attribute.now in
    c.in_ok-push_doubts.ensures
    ∙ ap (λ l. map finding_view c.args.findings.now.items ++ l)
    (said_are texts (Some attribute.id.name) c.args.text.now c.in_ok-rest.rest.now (elements_of attribute.value) c.in_ok-rest.ensures
    (spotted_views c.in_ok-doubts.doubts.items) (on_attribute_in texts.message.now texts.other.now attribute) c.in_ok-doubts.ensures)
