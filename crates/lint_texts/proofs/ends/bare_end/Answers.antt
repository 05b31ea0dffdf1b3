use Rattle.std.proofs.Common.{◌≡◌, ◌∙◌, List, ℕ, None, IfOk, string_bytes, sym, ap, subst}
use Rattle.std.specs.Str.{trim_end}
use Rattle.memchr.specs.Find.{IsFirstByte, is_byte}
use Rattle.lint_texts.proofs.PartSteps.{untagged_is}
use Rattle.lint_texts.proofs.ends.bare_end.Goals as goal

pub returns-in-None : goal.returns-in-None
returns-in-None c =
    let none = subst (λ (x : List ℕ). IsFirstByte (is_byte 60) x None) c.as_bytes.ensures.value c.in-None.ensures in
    let same = c.trim_end.ensures.trim ∙ ap trim_end (sym (untagged_is c.args.text.now none)) in
    subst (λ (x : List ℕ). IfOk c.from_str.result (λ end. string_bytes end ≡ x)) same c.from_str.ensures.ok
