use Rattle.std.proofs.Common.{ap, ◌∙◌}
use Rattle.fluent_ast.specs.Borrowed.{attributes_of, term_of}
use Rattle.lint_findings.specs.Occurrences.{after_equals}
use Rattle.lint_entries.proofs.EntryAdded.{term_value, term_attributes, term_leaves}
use Rattle.lint_entries.proofs.rest.term_rest.Goals as goal

pub pattern_rest-requires : goal.pattern_rest-requires
pattern_rest-requires c =
    term_value (term_of c.args.term.now) c.args.text.now c.requires.0 c.after_equals-value.result.now c.requires.1 (c.after_equals-value.ensures ∙ ap after_equals c.skip.ensures)

pub attributes_rest-requires : goal.attributes_rest-requires
attributes_rest-requires c =
    term_attributes (term_of c.args.term.now) (attributes_of c.deref.result.now) c.args.text.now c.requires.0 c.in_ok-rest.rest.now c.after_equals-value.result.now c.skip_blank_block-attributes.result.now
    (ap attributes_of c.deref.ensures.value) c.requires.1 (c.after_equals-value.ensures ∙ ap after_equals c.skip.ensures) c.in_ok-rest.ensures c.skip_blank_block-attributes.ensures

pub returns : goal.returns
returns c =
    term_leaves (term_of c.args.term.now) (attributes_of c.deref.result.now) c.args.text.now c.requires.0 c.in_ok-rest.rest.now c.after_equals-value.result.now c.skip_blank_block-attributes.result.now c.in_ok-rest-2.rest.now
    (ap attributes_of c.deref.ensures.value) c.requires.1 (c.after_equals-value.ensures ∙ ap after_equals c.skip.ensures) c.in_ok-rest.ensures c.skip_blank_block-attributes.ensures c.in_ok-rest-2.ensures
