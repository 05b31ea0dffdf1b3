use Rattle.std.proofs.Common.{◌≡◌}
use Rattle.std.specs.List.{find}
use Rattle.lint_findings.specs.NearNames.{swaps}
use Rattle.lint_flaws.proofs.NearFound.{swaps_from}
use Rattle.lint_flaws.proofs.near.has_swap.Given as goal

-- none was found so far
abbrev pub invariant-loop-i : goal.invariant-loop-i
invariant-loop-i g l = find (g.N.KnownNames.knows l.names) (swaps l.name) ≡ find (g.N.KnownNames.knows l.names) (swaps_from l.name l.i)
