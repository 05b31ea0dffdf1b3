use Rattle.std.proofs.Common.{◌≡◌, List, ℕ, [], None, subst, rules}
use Rattle.memchr.specs.Find.{IsFirstByte, is_byte}
use Rattle.lint_findings.specs.Typing.{curly_ends}
use Rattle.lint_texts.proofs.FirstLooks.{lacks_curly}
use Rattle.lint_texts.proofs.quotes.curly_ends.Goals as goal

pub returns-in-None : goal.returns-in-None
returns-in-None c =
    let none = subst (λ (x : List ℕ). IsFirstByte (is_byte 0xE2) x None) c.as_bytes.ensures.value c.in-None.ensures in
    let nothing : curly_ends c.args.text.now ≡ [] = lacks_curly c.args.text.now none in
    search rules
