use Rattle.std.proofs.Common.{◌∙◌, ◌&&◌, nat_lt, length, sym, ap}
use Rattle.std.specs.Char.{is_ascii}
use Rattle.std.specs.List.{list_all}
use Rattle.std.proofs.lemmas.Bool.{lt-ltb}
use Rattle.lint_flaws.proofs.Slips.{is_tested}
use Rattle.lint_flaws.proofs.near.may_be_slip.Goals as goal

pub returns-then-name-lt65 : goal.returns-then-name-lt65
returns-then-name-lt65 c =
    let s = c.args.name.now in
    let rest = list_all is_ascii s in
    is_tested s c.is_ascii.result c.is_ascii.ensures.cases
    ∙ sym (ap (λ b. b && (nat_lt (length s) 65 && rest)) (lt-ltb 2 (length s) c.if-name-gt2.true) ∙ ap (λ b. b && rest) (lt-ltb (length s) 65 c.if-name-lt65.true))
