use Rattle.std.proofs.Common.{◌≡◌}
use Rattle.std.specs.List.{find}
use Rattle.lint_findings.specs.NearNames.{omissions}
use Rattle.lint_flaws.proofs.NearFound.{omissions_from}
use Rattle.lint_flaws.proofs.near.has_omission.Given as goal

-- none was found so far
abbrev pub invariant-loop-i : goal.invariant-loop-i
invariant-loop-i g l = find (g.N.KnownNames.knows l.names) (omissions l.name) ≡ find (g.N.KnownNames.knows l.names) (omissions_from l.name l.i)
