-- Whether one of some names is none of the others, one name after the other.
use Rattle.std.proofs.Common.{◌≡◌, ◌∙◌, ℕ, ◌+◌, ◌<◌, true, false, List, length, drop, get_or, refl, ap, add-one, drop-cons, Bor}
use Rattle.fluent_grammar.specs.Words.{Text, is_among}
use Rattle.lint_nodes.specs.HasNames.{texts}
use Rattle.lint_findings.specs.Comparison.{has_new}

module _ (names : List (Bor Text)) (i : ℕ) (default : Bor Text) (ys : List Text) where
  -- one of the others makes no difference
  pub known_passed : i < length names → is_among (get_or names i default).now ys ≡ true → has_new (texts (drop i names)) ys ≡ has_new (texts (drop (i + 1) names)) ys
  known_passed inside known = ap (λ l. has_new (texts l) ys) (drop-cons names i default inside) ∙ rw (known, add-one) refl

  pub new_found : i < length names → is_among (get_or names i default).now ys ≡ false → has_new (texts (drop i names)) ys ≡ true
  new_found inside new = ap (λ l. has_new (texts l) ys) (drop-cons names i default inside) ∙ rw new refl
