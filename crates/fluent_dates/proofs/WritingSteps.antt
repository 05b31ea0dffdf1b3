-- Steps of what is written digit by digit.
use Rattle.std.proofs.Common.{◌≡◌, ℕ, zero, suc, ◌+◌, List, ◌++◌, sym, ap, ◌∙◌, replicate, add-one}
use Rattle.std.proofs.lemmas.List.{append-nil, append_assoc}
use Rattle.fluent_dates.specs.Numbers.{native, natives}

-- one more zero
pub natives_more : (digits : List ℕ) (k : ℕ) → native digits 48 ++ natives digits (replicate k 48) ≡ natives digits (replicate k 48) ++ native digits 48
natives_more digits zero = append-nil (native digits 48)
natives_more digits (suc k) =
    ap (λ s. native digits 48 ++ s) (natives_more digits k) ∙ sym (append_assoc (native digits 48) (natives digits (replicate k 48)) (native digits 48))

pub natives_next : (digits : List ℕ) (k : ℕ) → natives digits (replicate (k + 1) 48) ≡ natives digits (replicate k 48) ++ native digits 48
natives_next digits k = rw add-one (natives_more digits k)
