use Rattle.std.proofs.Common.{◌∙◌, ◌-◌, ap, map}
use Rattle.lint_findings.specs.View.{finding_view}
use Rattle.lint_findings.specs.Occurrences.{after_equals}
use Rattle.fluent_ast.specs.Borrowed.{attributes_of}
use Rattle.lint_entries.specs.PartsView.{parts_view, value_of}
use Rattle.lint_entries.proofs.EntryAdded.{attributes_there, parts_added, value_there}
use Rattle.lint_entries.proofs.entry.parts_findings.Goals as goal

pub push_value-requires : goal.push_value-requires
push_value-requires c =
    value_there (parts_view c.args.parts.now) c.args.text.now c.requires.0 c.after_equals-value.result.now c.requires.1 (c.after_equals-value.ensures ∙ ap after_equals c.skip.ensures)

pub push_attributes-requires : goal.push_attributes-requires
push_attributes-requires c =
    attributes_there (parts_view c.args.parts.now) c.args.text.now c.requires.0 c.in_ok-rest.rest.now c.after_equals-value.result.now c.skip_blank_block-attributes.result.now
    c.requires.1 (c.after_equals-value.ensures ∙ ap after_equals c.skip.ensures) c.in_ok-rest.ensures.rest c.skip_blank_block-attributes.ensures

pub returns : goal.returns
returns c =
    let parts = c.args.parts.now in
    parts_added c.args.catalog.now c.args.source c.args.text parts.sign parts.id (value_of parts.value) (attributes_of parts.attributes.now) c.in_ok-rest.rest.now c.after_equals-value.result.now c.skip_blank_block-attributes.result.now
    (map finding_view c.new-findings.result.items) (map finding_view c.push_value.new.findings.items) (map finding_view c.push_attributes.new.findings.items)
    (c.after_equals-value.ensures ∙ ap after_equals c.skip.ensures) c.in_ok-rest.ensures.rest c.skip_blank_block-attributes.ensures
    (ap (map finding_view) c.new-findings.ensures.items) c.in_ok-rest.ensures.added c.in_ok-push_attributes.ensures
