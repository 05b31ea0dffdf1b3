use Rattle.std.proofs.Common.{◌++◌, encode_utf8, sym, ap, ◌∙◌, append_assoc, rules}
use Rattle.std.proofs.Output.{has_written_append}
use Rattle.std.specs.Char.{to_ascii_lowercase}
use Rattle.fluent_languages.proofs.Letters.{small_letter}
use Rattle.fluent_languages.proofs.canonical.write_small.Goals as goal

pub loop-letter-preserved : goal.loop-letter-preserved
loop-letter-preserved g c =
    λ plain.
    let now = c.loop-letter.invariant plain in
    let letter = encode_utf8 (to_ascii_lowercase c.in-Some.letter) in (
      now.0 ++ letter,
      has_written_append _ _ _ _ _ _ now.1 (search rules),
      append_assoc now.0 letter _ ∙ ap (λ t. now.0 ++ t) (sym (small_letter _ _ c.in-Some.letter c.in-Some.ensures.steps.0)) ∙ now.2,
    )
