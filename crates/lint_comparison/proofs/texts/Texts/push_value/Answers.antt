use Rattle.std.proofs.Common.{◌∙◌, ◌++◌, None, ap, map, option_map}
use Rattle.fluent_ast.specs.Borrowed.{elements_of}
use Rattle.lint_entries.specs.AttributePlaces.{value_elements}
use Rattle.lint_findings.specs.View.{finding_view}
use Rattle.lint_markup.specs.InCode.{spotted_views}
use Rattle.lint_texts.specs.OfMessages.{on_values}
use Rattle.lint_comparison.proofs.TextsFound.{said_are}
use Rattle.lint_comparison.proofs.texts.Texts.push_value.Goals as goal

pub returns-clause-added : goal.returns-clause-added
returns-clause-added c =
    let texts = c.args.self.now in
    let value = texts.message.now.value in
    c.in_ok-push_doubts.ensures
    ∙ ap (λ l. map finding_view c.args.findings.now.items ++ l)
    (said_are texts None c.args.text.now c.in_ok-rest.rest.now (value_elements (option_map elements_of value)) c.in_ok-rest.ensures
    (spotted_views c.args.doubts.items) (on_values texts.message.now texts.other.now) c.requires.doubts)
