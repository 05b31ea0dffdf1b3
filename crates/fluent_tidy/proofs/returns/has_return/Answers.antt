use Rattle.std.proofs.Common.{List, ℕ, subst, ◌∙◌}
use Rattle.memchr.specs.Find.{IsFirstByte, is_byte}
use Rattle.fluent_tidy.proofs.NoReturn.{return_found}
use Rattle.fluent_tidy.proofs.returns.has_return.Goals as goal

pub returns : goal.returns
returns c =
    let found = subst (λ (x : List ℕ). IsFirstByte (is_byte 13) x c.memchr.result) c.as_bytes.ensures.value c.memchr.ensures in
    c.is_some.ensures ∙ return_found c.args.text.now c.memchr.result found
