use Rattle.std.proofs.Common.{◌≡◌, ◌++◌, [], ◌∷◌, encode_utf8, sym, ap, ◌∙◌, rules}
use Rattle.std.proofs.Output.{has_written_append, has_written_of_eq}
use Rattle.std.specs.Char.{to_ascii_lowercase, to_ascii_uppercase}
use Rattle.std.specs.Fmt.{HasWritten}
use Rattle.fluent_languages.proofs.Letters.{capital_at_front}
use Rattle.fluent_languages.specs.Tags.{small}
use Rattle.fluent_languages.proofs.canonical.write_script.Goals as goal

pub returns-in_ok-write_char-in-Some : goal.returns-in_ok-write_char-in-Some
returns-in_ok-write_char-in-Some g c =
    λ plain ok.
    let wrote = g.W.Write.write_str_gives in
    let first = c.in-Some.first in
    let capital = encode_utf8 (to_ascii_uppercase (to_ascii_lowercase first)) in
    let rest = c.as_str.result.now in
    let dash : HasWritten wrote c.args.f.now (45 ∷ []) c.write_str.new.self = search rules in
    let letter : HasWritten wrote c.write_str.new.self capital c.write_char.new.self = search rules in
    let letters : HasWritten wrote c.write_char.new.self (small rest) c.write_small.new.f = search rules in
    let parts : c.args.script.now ≡ encode_utf8 first ++ rest =
    sym c.chars-letters.ensures.rest ∙ c.in-Some.ensures.steps.0 ∙ ap (λ t. encode_utf8 first ++ t) (sym c.as_str.ensures) in
    has_written_of_eq _ _ _ _ _ (sym (capital_at_front c.args.script.now rest first parts))
    (has_written_append _ _ _ _ _ _ (has_written_append _ _ _ _ _ _ dash letter) letters)
