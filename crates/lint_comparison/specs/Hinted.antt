-- The hints of differences, by names as code has them.
use Rattle.std.specs.Prelude.{◌≡◌, [], ◌∷◌, List, Option, option_map, String, string_bytes}
use Rattle.std.specs.Global.{Global}
use Rattle.lint_findings.specs.Comparison.{Difference}
use Rattle.lint_findings.specs.ComparisonFindings.{difference_hint}
use Rattle.lint_findings.specs.NearNames.{nearest_hint}
use Rattle.fluent_grammar.specs.Words.{Text, dollar}
use Rattle.lint_nodes.specs.HasNames.{HasNames, is_in_set}
use Rattle.lint_nodes.specs.declared.name_set.Names.{Names}

-- the hint of an unknown variable, by the names of the set
abbrev pub IsVariableHint : Names → Text → Option (String Global) → Type 0
IsVariableHint names name hint = option_map string_bytes hint ≡ nearest_hint (dollar ∷ []) (is_in_set names) name

-- the hint of a difference, by the variables that are listed
abbrev pub IsHintBy : Names → Difference → Option (String Global) → Type 0
IsHintBy names d hint = (known : List Text) → HasNames names known → option_map string_bytes hint ≡ difference_hint known d
