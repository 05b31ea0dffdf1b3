use Rattle.std.proofs.Common.{◌≡◌}
use Rattle.std.specs.List.{find}
use Rattle.lint_findings.specs.NearNames.{additions}
use Rattle.lint_flaws.proofs.NearFound.{additions_from}
use Rattle.lint_flaws.proofs.near.has_addition.Given as goal

-- none was found so far
abbrev pub invariant-loop-i : goal.invariant-loop-i
invariant-loop-i g l = find (g.N.KnownNames.knows l.names) (additions l.name) ≡ find (g.N.KnownNames.knows l.names) (additions_from l.name l.i)
