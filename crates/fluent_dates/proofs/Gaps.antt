-- Steps of the gap between measures.
use Rattle.std.proofs.Common.{◌≡◌, ◌∙◌, ℕ, ◌+◌, ◌*◌, ◌<◌, List, ◌∷◌, ap, drop, get_or, length}
use Rattle.std.proofs.lemmas.List.{drop_more}
use Rattle.fluent_dates.specs.Matching.{Gap, gap_from, wider, word16}

-- one more place
pub gap_next : (bit : ℕ) (gap : Gap) (wanted known : List ℕ) (i : ℕ) → i < length wanted → i < length known → gap_from bit gap (drop i wanted) (drop i known) ≡ gap_from (word16 (bit * 2)) (wider bit gap (get_or wanted i 0) (get_or known i 0)) (drop (i + 1) wanted) (drop (i + 1) known)
gap_next bit gap wanted known i inside there =
    ap (λ ws. gap_from bit gap ws (drop i known)) (drop_more wanted i 0 inside)
    ∙ ap (λ ks. gap_from bit gap (get_or wanted i 0 ∷ drop (i + 1) wanted) ks) (drop_more known i 0 there)
