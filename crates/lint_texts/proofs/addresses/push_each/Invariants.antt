use Rattle.std.proofs.Common.{◌≡◌, ◌++◌, map, drop}
use Rattle.lint_findings.specs.Addresses as a
use Rattle.lint_texts.specs.InCode.{address_view}
use Rattle.lint_texts.proofs.addresses.push_each.Given as goal

-- those so far were added
abbrev pub invariant-loop-place : goal.invariant-loop-place
invariant-loop-place l =
    map address_view l.addresses.items ++ a.addresses_in (drop l.place l.text) ≡ map address_view l.initial.addresses.items ++ a.addresses_in l.text
