use Rattle.std.proofs.Common.{◌≡◌, drop, map}
use Rattle.lint_findings.specs.Numbers as n
use Rattle.lint_markup.specs.InCode.{texts_in}
use Rattle.lint_texts.specs.InCode.{number_view}
use Rattle.lint_texts.proofs.numbers.first_new.Given as goal

-- none so far is new
abbrev pub invariant-loop-number : goal.invariant-loop-number
invariant-loop-number l =
    n.first_new (texts_in l.known) (map number_view (drop l.number-index l.mine)) ≡ n.first_new (texts_in l.known) (map number_view l.mine)
