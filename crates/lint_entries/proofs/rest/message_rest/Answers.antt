use Rattle.std.proofs.Common.{ap}
use Rattle.fluent_ast.specs.Borrowed.{attributes_of, message_of}
use Rattle.lint_entries.proofs.EntryAdded.{message_value, message_attributes, message_leaves}
use Rattle.lint_entries.proofs.rest.message_rest.Goals as goal

pub value_rest-requires : goal.value_rest-requires
value_rest-requires c =
    message_value (message_of c.args.message.now) c.args.text.now c.requires.0 c.after_equals-value.result.now c.requires.1 c.after_equals-value.ensures

pub attributes_rest-requires : goal.attributes_rest-requires
attributes_rest-requires c =
    message_attributes (message_of c.args.message.now) (attributes_of c.deref.result.now) c.args.text.now c.requires.0 c.in_ok-rest.rest.now c.after_equals-value.result.now c.skip_blank_block-attributes.result.now
    (ap attributes_of c.deref.ensures.value) c.requires.1 c.after_equals-value.ensures c.in_ok-rest.ensures c.skip_blank_block-attributes.ensures

pub returns : goal.returns
returns c =
    message_leaves (message_of c.args.message.now) (attributes_of c.deref.result.now) c.args.text.now c.requires.0 c.in_ok-rest.rest.now c.after_equals-value.result.now c.skip_blank_block-attributes.result.now c.in_ok-rest-2.rest.now
    (ap attributes_of c.deref.ensures.value) c.requires.1 c.after_equals-value.ensures c.in_ok-rest.ensures c.skip_blank_block-attributes.ensures c.in_ok-rest-2.ensures
