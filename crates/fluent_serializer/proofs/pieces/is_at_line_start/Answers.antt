use Rattle.std.proofs.Common.{◌<◌, length, refl, sym, ap, ◌∙◌, arith}
use Rattle.fluent_grammar.proofs.LaidOut.{ends_line-last}
use Rattle.fluent_grammar.specs.Written.{ends_line}
use Rattle.fluent_serializer.proofs.pieces.is_at_line_start.Goals as goal

pub returns-in-len1-up : goal.returns-in-len1-up
returns-in-len1-up c =
    let bytes = c.as_bytes.result.now in
    let some : 0 < length bytes = omega (arith, c.in-len1-up.len_at_least) in
    sym (ends_line-last _ bytes _ 0 some refl) ∙ ap (ends_line _) c.as_bytes.ensures.value
