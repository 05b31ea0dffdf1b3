use Rattle.std.proofs.Common.{◌≡◌, ◌∙◌, ◌++◌, false, map, sym, ap, append-nil}
use Rattle.std.specs.List.{list_any}
use Rattle.fluent_grammar.specs.Words.{is_digit}
use Rattle.lint_texts.specs.InCode.{number_view}
use Rattle.lint_texts.proofs.NumberSteps.{none_in}
use Rattle.lint_texts.proofs.numbers.push_numbers.Goals as goal

pub returns-then-not-has_digit : goal.returns-then-not-has_digit
returns-then-not-has_digit c =
    let s = c.args.text.now in
    let old = map number_view c.args.found.now.items in
    let none : list_any is_digit s ≡ false = ap (list_any is_digit) (sym c.as_bytes.ensures.value) ∙ sym c.has_digit.ensures ∙ c.if-not-has_digit.true in
    sym (append-nil old) ∙ ap (λ xs. old ++ xs) (sym (none_in s none))
