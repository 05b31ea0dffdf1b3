use Rattle.std.proofs.Common.{◌∙◌, sym, ap}
use Rattle.fluent_grammar.specs.Escapes.{is_scalar}
use Rattle.fluent_tokens.proofs.Escapes.{value_is}
use Rattle.lint_flaws.proofs.Digits.{made_if_scalar, too_large}
use Rattle.lint_flaws.proofs.escape.is_scalar.Goals as goal

pub returns-in-Ok : goal.returns-in-Ok
returns-in-Ok c =
    let ds = c.args.digits.now in
    c.is_some.ensures ∙ made_if_scalar c.in-Ok.code c.from_u32.result c.from_u32.ensures.cases ∙ ap is_scalar (c.in-Ok.ensures.value.1 ∙ value_is ds c.requires.hex)

pub returns-in-Err : goal.returns-in-Err
returns-in-Err c = sym (too_large c.args.digits.now c.requires.some c.requires.hex c.in-Err.ensures.value)
