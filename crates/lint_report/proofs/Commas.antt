-- Items without the comma before the first.
use Rattle.std.proofs.Common.{◌≡◌, ◌≢◌, Bool, true, false, ◌==◌, if◌then◌else◌, List, [], ◌∷◌, refl, ap, eqb-true}
use Rattle.fluent_grammar.specs.Words.{Text, comma}
use Rattle.lint_findings.specs.Listed.{after_comma}

-- items that begin with no comma
pub none_is : (items : Text) → ((rest : Text) → items ≢ comma ∷ rest) → [] ≡ after_comma items
none_is [] n = refl
none_is (c ∷ rest) n = by (c == comma) refl
  where
    by : (b : Bool) → (c == comma) ≡ b → [] ≡ (if b then rest else [])
    by true e = absurd (n rest (ap (λ d. d ∷ rest) (eqb-true c comma e)))
    by false e = refl

-- items that begin with one
pub some_is : (items rest : Text) → items ≡ comma ∷ rest → rest ≡ after_comma items
some_is items rest e = rw (e) refl
