-- Findings that are like one of some.
use Rattle.std.proofs.Common.{◌≡◌, ◌||◌, List, [], ◌∷◌, map, refl, ap}
use Rattle.std.specs.List.{list_any}
use Rattle.lint_findings.specs.View.{finding_view}
use Rattle.lint_findings.specs.declared.records.Finding as code
use Rattle.lint_findings.specs.Finding.{Finding}
use Rattle.fluent_lint.specs.Pairs.{are_alike, is_known}

pub any_viewed : (f : Finding) (known : List code.Finding) → list_any (λ (g : code.Finding). are_alike f (finding_view g)) known ≡ is_known (map finding_view known) f
any_viewed f [] = refl
any_viewed f (g ∷ known) = ap (λ b. are_alike f (finding_view g) || b) (any_viewed f known)
