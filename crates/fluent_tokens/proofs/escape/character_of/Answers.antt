use Rattle.std.proofs.Common.{◌≡◌, ◌∙◌, true, length, sym, ap, arith, encode_utf8}
use Rattle.std.specs.List.{list_all}
use Rattle.fluent_grammar.specs.Words.{is_hex_digit}
use Rattle.fluent_tokens.proofs.Escapes.{character_read, character_too_large, value_is}
use Rattle.fluent_tokens.proofs.escape.character_of.Goals as goal

pub returns-in-Ok : goal.returns-in-Ok
returns-in-Ok c =
    let ds = c.args.digits.now in
    let hex : list_all is_hex_digit ds ≡ true = sym c.is_hex.ensures ∙ c.if-not-is_hex.false in
    let len : length ds ≡ c.args.count = omega arith in
    ap encode_utf8 c.unwrap_or.ensures ∙ character_read c.args.count ds c.in-Ok.code c.from_u32.result len hex (c.in-Ok.ensures.value.1 ∙ value_is ds hex) c.from_u32.ensures.value c.from_u32.ensures.cases

pub returns-in-Err : goal.returns-in-Err
returns-in-Err c =
    let ds = c.args.digits.now in
    let hex : list_all is_hex_digit ds ≡ true = sym c.is_hex.ensures ∙ c.if-not-is_hex.false in
    let len : length ds ≡ c.args.count = omega arith in
    character_too_large c.args.count ds c.requires len hex c.in-Err.ensures.value
