use Rattle.std.proofs.Common.{◌≡◌, drop, map}
use Rattle.lint_findings.specs.Addresses as a
use Rattle.lint_markup.specs.InCode.{texts_in}
use Rattle.lint_texts.specs.InCode.{address_view}
use Rattle.lint_texts.proofs.addresses.first_new.Given as goal

-- none so far is new
abbrev pub invariant-loop-address : goal.invariant-loop-address
invariant-loop-address l =
    a.first_new (texts_in l.known) (map address_view (drop l.address-index l.mine)) ≡ a.first_new (texts_in l.known) (map address_view l.mine)
