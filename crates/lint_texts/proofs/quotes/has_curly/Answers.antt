use Rattle.std.proofs.Common.{List, ℕ, None, subst, sym}
use Rattle.memchr.specs.Find.{IsFirstByte, is_byte}
use Rattle.lint_texts.proofs.FirstLooks.{lacks_quotes}
use Rattle.lint_texts.proofs.quotes.has_curly.Goals as goal

pub returns-in-None : goal.returns-in-None
returns-in-None c =
    sym (lacks_quotes c.args.text.now (subst (λ (x : List ℕ). IsFirstByte (is_byte 0xE2) x None) c.as_bytes.ensures.value c.in-None.ensures))
