use Rattle.std.proofs.Common.{map, take}
use Rattle.lint_nodes.specs.HasNames.{HasNames}
use Rattle.lint_findings.specs.Addresses as a
use Rattle.lint_texts.specs.InCode.{address_view}
use Rattle.lint_texts.proofs.addresses.hosts_of.Given as goal

-- those so far were added
abbrev pub invariant-loop-address : goal.invariant-loop-address
invariant-loop-address l = HasNames l.hosts (a.hosts (map address_view (take l.address-index l.addresses)))
