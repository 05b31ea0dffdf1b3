use Rattle.std.proofs.Common.{ap, map}
use Rattle.std.proofs.lemmas.Result.{on_ok_weaker}
use Rattle.fluent_ast.specs.Borrowed.{attributes_of, message_of}
use Rattle.lint_findings.specs.View.{finding_view}
use Rattle.lint_entries.proofs.EntryAdded.{message_value, message_attributes}
use Rattle.lint_comparison.proofs.TextsFound.{message_added}
use Rattle.lint_comparison.proofs.texts.Texts.push_findings.Goals as goal

pub push_value-requires : goal.push_value-requires
push_value-requires c =
    record {
      text = message_value (message_of c.args.self.now.message.now) c.args.text.now c.requires.text.0 c.after_equals.result.now c.requires.text.1 c.after_equals.ensures;
      doubts = c.requires.doubts;
    }

pub push_attributes-requires : goal.push_attributes-requires
push_attributes-requires c =
    message_attributes (message_of c.args.self.now.message.now) (attributes_of c.deref.result.now) c.args.text.now c.requires.text.0 c.in_ok-rest.rest.now c.after_equals.result.now c.skip_blank_block-attributes.result.now
    (ap attributes_of c.deref.ensures.value) c.requires.text.1 c.after_equals.ensures c.in_ok-rest.ensures.rest c.skip_blank_block-attributes.ensures

pub returns : goal.returns
returns c =
    on_ok_weaker c.push_attributes.result
    (message_added c.args.self.now (map finding_view c.args.findings.now.items) (attributes_of c.deref.result.now) c.args.text.now c.requires.text.0 c.in_ok-rest.rest.now c.after_equals.result.now c.skip_blank_block-attributes.result.now
    c.requires.text.1 (ap attributes_of c.deref.ensures.value) c.after_equals.ensures c.in_ok-rest.ensures.rest c.skip_blank_block-attributes.ensures c.in_ok-rest.ensures.added)
    c.push_attributes.ensures
