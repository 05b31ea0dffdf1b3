use Rattle.std.proofs.Common.{◌∙◌, ap}
use Rattle.std.specs.List.{prefix_len}
use Rattle.lint_findings.specs.Tags.{is_blank_byte}
use Rattle.lint_markup.proofs.Cuts.{cut_blanks}
use Rattle.lint_markup.proofs.names.skip_blanks.Goals as goal

pub range_from-requires : goal.range_from-requires
range_from-requires c = λ _. (cut_blanks c.args.text.now c.blanks_len.result (c.blanks_len.ensures ∙ ap (prefix_len is_blank_byte) c.as_bytes.ensures.value)).boundary c.utf8.text
