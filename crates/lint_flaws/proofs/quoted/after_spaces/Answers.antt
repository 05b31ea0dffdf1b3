use Rattle.std.proofs.Common.{◌∙◌, ap}
use Rattle.fluent_grammar.specs.Words.{spaces}
use Rattle.fluent_tokens.proofs.Counted.{cut_spaces}
use Rattle.lint_flaws.proofs.quoted.after_spaces.Goals as goal

pub range_from-requires : goal.range_from-requires
range_from-requires c = λ _. (cut_spaces c.args.text.now c.blank_inline_len.result (c.blank_inline_len.ensures ∙ ap spaces c.as_bytes.ensures.value)).boundary c.utf8.text
