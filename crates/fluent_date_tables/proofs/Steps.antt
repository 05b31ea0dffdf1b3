-- Steps of tables.
use Rattle.std.proofs.Common.{◌≡◌, ℕ, zero, suc, ◌<◌, ◌≤◌, List, [], ◌∷◌, refl, length, get_or, arith}
use Rattle.std.specs.Borrow.{Bor}
use Rattle.fluent_date_tables.specs.Tables.{nows, list_at}

-- the list of a number, where there is one
pub list_there : {A : Type 0} (lists : List (Bor (List A))) (at : ℕ) (other : Bor (List A)) → at < length lists → (get_or lists at other).now ≡ list_at (nows lists) at
list_there [] at other there = absurd (omega (arith, there))
list_there (list ∷ lists) zero other there = refl
list_there (list ∷ lists) (suc at) other there = list_there lists at other (omega (arith, there))

-- there is none after the last
pub list_past : {A : Type 0} (lists : List (Bor (List A))) (at : ℕ) → length lists ≤ at → [] ≡ list_at (nows lists) at
list_past [] at past = refl
list_past (list ∷ lists) zero past = absurd (omega (arith, past))
list_past (list ∷ lists) (suc at) past = list_past lists at (omega (arith, past))
