use Rattle.std.proofs.Common.{◌≡◌, ◌∙◌, ℕ, List, take, length, Some, None, sym, ap, subst, arith}
use Rattle.std.proofs.lemmas.Grind.{common_steps}
use Rattle.std.proofs.lemmas.List.{take_all}
use Rattle.memchr.specs.Find.{IsFirstByte, is_byte}
use Rattle.lint_markup.proofs.Signs.{all_before, before_found}
use Rattle.lint_markup.proofs.names.before_quote.Goals as goal

pub returns-in-Some : goal.returns-in-Some
returns-in-Some c =
    let s = c.args.text.now in
    let found = subst (λ (x : List ℕ). IsFirstByte (is_byte c.args.quote) x (Some c.in-Some.place)) c.as_bytes.ensures.value c.in-Some.ensures in
    let is : c.range.result.now ≡ take c.in-Some.place s = grind (arith, common_steps, c.range.ensures.value) in
    is ∙ ap (λ n. take n s) (sym (before_found c.args.quote s c.in-Some.place found))

pub returns-in-None : goal.returns-in-None
returns-in-None c =
    let s = c.args.text.now in
    let none = subst (λ (x : List ℕ). IsFirstByte (is_byte c.args.quote) x None) c.as_bytes.ensures.value c.in-None.ensures in
    sym (ap (λ n. take n s) (all_before c.args.quote s none) ∙ take_all (length s) s (omega arith))
