-- The front of a line, and what follows it.
use Rattle.std.proofs.Common.{◌≡◌, ◌∙◌, ℕ, zero, suc, ◌<◌, ◌≤◌, ◌==◌, ◌&&◌, Bool, true, false, [], ◌∷◌, ◌++◌, length, take, drop, get_or, None, refl, ap, arith}
use Rattle.std.proofs.lemmas.Bool.{ne_eqb}
use Rattle.std.proofs.lemmas.Bool.Decides.{nat_tests}
use Rattle.fluent_grammar.specs.Words.{Text, carriage_return, line_feed, begins_with, after_line_end}
use Rattle.lint_findings.specs.Position.{to_line_end, stop_at_end}

begins_feed : (cs : Text) → begins_with line_feed cs ≡ true → get_or cs 0 0 ≡ 10
begins_feed [] e = absurd cc
begins_feed (c ∷ cs) e = grind (arith, nat_tests)

equal_by : (c d : ℕ) → (c == d) ≡ true → c ≡ d
equal_by c d e = grind (arith, nat_tests)

no_both : (a b : Bool) → (a ≡ true → b ≡ true → ⊥) → (a && b) ≡ false
no_both true true h = absurd (h refl refl)
no_both true false h = refl
no_both false b h = refl

no_line_end : (c : ℕ) (cs : Text) → (c ≡ 10 → ⊥) → (c ≡ 13 → get_or cs 0 0 ≡ 10 → ⊥) → after_line_end (c ∷ cs) ≡ None
no_line_end c cs other alone =
    rw (ne_eqb c 10 other, no_both (c == carriage_return) (begins_with line_feed cs) (λ e f. alone (equal_by c 13 e) (begins_feed cs f))) refl

-- The first k bytes of a text have no line feed, and no line end is cut after them.
pub line_seam : (s : Text) (k : ℕ) → k ≤ length s → ((j : ℕ) → j < k → get_or s j 0 ≡ 10 → ⊥) →
    ((j : ℕ) → suc j ≡ k → get_or s j 0 ≡ 13 → get_or s (suc j) 0 ≡ 10 → ⊥) →
    to_line_end s ≡ take k s ++ to_line_end (drop k s)
line_seam s zero within other whole = refl
line_seam [] (suc k) within other whole = absurd (omega arith)
line_seam (c ∷ cs) (suc k) within other whole =
    let rest : to_line_end cs ≡ take k cs ++ to_line_end (drop k cs) =
    line_seam cs k (omega arith) (λ j h. other (suc j) (omega arith)) (λ j e. whole (suc j) (ap suc e)) in
    let alone : c ≡ 13 → get_or cs 0 0 ≡ 10 → ⊥ = first_alone k c cs other whole in
    ap (stop_at_end (c ∷ to_line_end cs)) (no_line_end c cs (other 0 (omega arith)) alone) ∙ ap (λ t. c ∷ t) rest
  where
    first_alone : (k c : ℕ) (cs : Text) → ((j : ℕ) → j < suc k → get_or (c ∷ cs) j 0 ≡ 10 → ⊥) →
        ((j : ℕ) → suc j ≡ suc k → get_or (c ∷ cs) j 0 ≡ 13 → get_or (c ∷ cs) (suc j) 0 ≡ 10 → ⊥) → c ≡ 13 → get_or cs 0 0 ≡ 10 → ⊥
    first_alone zero c cs other whole is next = whole 0 refl is next
    first_alone (suc k) c cs other whole is next = other 1 (omega arith) next
