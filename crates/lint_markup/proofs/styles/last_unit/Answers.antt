use Rattle.std.proofs.Common.{◌∙◌, ap}
use Rattle.std.specs.List.{prefix_len}
use Rattle.lint_findings.specs.Styles.{is_unit_byte}
use Rattle.lint_markup.proofs.Cuts.{cut_unit}
use Rattle.lint_markup.proofs.styles.last_unit.Goals as goal

pub range_from-requires : goal.range_from-requires
range_from-requires c = λ _. (cut_unit c.args.text.now c.unit_len-len.result (c.unit_len-len.ensures ∙ ap (prefix_len is_unit_byte) c.as_bytes.ensures.value)).boundary c.utf8.text
