use Rattle.std.proofs.Common.{◌∙◌, ap}
use Rattle.lint_findings.specs.Entities.{entity_len}
use Rattle.lint_markup.proofs.EntitySteps.{cut_entity}
use Rattle.lint_markup.proofs.entities.add_entity.Goals as goal

pub range-requires-clause-end_boundary : goal.range-requires-clause-end_boundary
range-requires-clause-end_boundary c = (cut_entity c.args.text.now c.entity_len-len.result (c.entity_len-len.ensures ∙ ap entity_len c.as_bytes.ensures.value)).boundary c.utf8.text
