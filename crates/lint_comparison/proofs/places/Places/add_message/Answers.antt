use Rattle.std.proofs.Common.{ap}
use Rattle.std.proofs.lemmas.Result.{on_ok_weaker}
use Rattle.fluent_ast.specs.Borrowed.{attributes_of, message_of}
use Rattle.lint_entries.proofs.EntryAdded.{message_value, message_attributes}
use Rattle.lint_comparison.proofs.PlacesAdded.{message_added}
use Rattle.lint_comparison.proofs.places.Places.add_message.Goals as goal

pub add_value-requires : goal.add_value-requires
add_value-requires c = message_value (message_of c.args.message.now) c.args.text.now c.requires.0 c.after_equals.result.now c.requires.1 c.after_equals.ensures

pub add_attributes-requires : goal.add_attributes-requires
add_attributes-requires c =
    message_attributes (message_of c.args.message.now) (attributes_of c.deref.result.now) c.args.text.now c.requires.0 c.in_ok-rest.rest.now c.after_equals.result.now c.skip_blank_block.result.now
    (ap attributes_of c.deref.ensures.value) c.requires.1 c.after_equals.ensures c.in_ok-rest.ensures.rest c.skip_blank_block.ensures

pub returns : goal.returns
returns c =
    on_ok_weaker c.add_attributes.result
    (message_added c.args.self.now c.add_value.new.self c.add_attributes.new.self (message_of c.args.message.now) (attributes_of c.deref.result.now) c.args.text.now c.requires.0 c.in_ok-rest.rest.now c.after_equals.result.now c.skip_blank_block.result.now
    c.requires.1 (ap attributes_of c.deref.ensures.value) c.after_equals.ensures c.in_ok-rest.ensures.rest c.skip_blank_block.ensures c.in_ok-rest.ensures.added)
    c.add_attributes.ensures
