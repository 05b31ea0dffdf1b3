use Rattle.std.proofs.Common.{◌≡◌, ◌++◌, ◌∷◌, drop, map}
use Rattle.std.specs.List.{find}
use Rattle.lint_flaws.proofs.near.has_between.Given as goal

-- none was found so far
abbrev pub invariant-loop-byte : goal.invariant-loop-byte
invariant-loop-byte g l =
    find (g.N.KnownNames.knows l.names) (map (λ c. l.front ++ c ∷ l.back) l.byte-items)
    ≡ find (g.N.KnownNames.knows l.names) (map (λ c. l.front ++ c ∷ l.back) (drop l.byte-index l.byte-items))
