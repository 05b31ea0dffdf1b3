use Rattle.std.proofs.Common.{◌∙◌, ◌++◌, List, ℕ, None, map, append-nil, sym, ap, subst}
use Rattle.memchr.specs.Find.{IsFirstByte, is_byte2}
use Rattle.lint_texts.specs.InCode.{address_view}
use Rattle.lint_texts.proofs.AddressSteps.{none_in}
use Rattle.lint_texts.proofs.addresses.push_addresses.Goals as goal

pub returns-in-None : goal.returns-in-None
returns-in-None c =
    let none = subst (λ (x : List ℕ). IsFirstByte (is_byte2 64 58) x None) c.as_bytes.ensures.value c.in-None.ensures in
    let old = map address_view c.args.addresses.now.items in
    sym (append-nil old) ∙ ap (λ xs. old ++ xs) (sym (none_in c.args.text.now none))
