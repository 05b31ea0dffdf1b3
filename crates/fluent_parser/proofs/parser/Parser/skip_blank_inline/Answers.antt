use Rattle.std.proofs.Common.{◌∙◌, ap}
use Rattle.fluent_grammar.specs.Words as w
use Rattle.fluent_tokens.proofs.Counted.{cut_spaces}
use Rattle.fluent_parser.proofs.parser.Parser.skip_blank_inline.Goals as goal

pub advance-requires : goal.advance-requires
advance-requires g c = cut_spaces c.args.self.now.rest.now c.blank_inline_len.result (c.blank_inline_len.ensures ∙ ap w.spaces c.bytes.ensures.value)
