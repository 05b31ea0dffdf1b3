-- The table of the powers of ten.
use Rattle.std.proofs.Common.{◌≡◌, ℕ, ◌^◌, ◌<◌, List, ap, ◌∙◌, get_or, map, arith}
use Rattle.std.specs.List.{range_with_len}
use Rattle.std.proofs.lemmas.List.FromFn.{get_or-map-range_with_len}

-- the powers below this many, as a list
abbrev pub powers : ℕ → List ℕ
powers n = map (λ e. 10 ^ e) (range_with_len 0 n)

pub power_at : (table : List ℕ) (n e : ℕ) → table ≡ powers n → e < n → get_or table e 0 ≡ 10 ^ e
power_at table n e same low =
    ap (λ (t : List ℕ). get_or t e 0) same ∙ get_or-map-range_with_len (λ e. 10 ^ e) 0 n e e 0 low (omega arith)
