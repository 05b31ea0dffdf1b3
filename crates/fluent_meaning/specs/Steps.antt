-- What a step of resolving results in, and one step after another.
use Rattle.std.specs.Prelude.{ℕ, zero, suc, ◌+◌, Bool, true, false, List, [], ◌∷◌, ◌++◌}
use Rattle.fluent_grammar.specs.Words.{Text}
use Rattle.fluent_errors.specs.Errors.{Unresolved, too_many_placeables}

-- how many placeables may still be opened, or that one more was to be opened than there may be
pub data Budget : Type 0 where
  may_open : ℕ → Budget
  shut : Budget

abbrev pub left : Budget → ℕ
left (may_open k) = k
left shut = 0

abbrev pub is_shut : Budget → Bool
is_shut (may_open k) = false
is_shut shut = true

-- a value with what finding it took: the errors that it added, the budget that it left, how many placeables it opened and how many
-- patterns it entered
pub record Done (A : Type 0) : Type 0 where
  pub value : A
  pub errors : List Unresolved
  pub budget : Budget
  pub opened : ℕ
  pub entered : ℕ

abbrev pub done : {A : Type 0} → A → Budget → Done A
done v b = record { value = v; errors = []; budget = b; opened = 0; entered = 0 }

-- with an error added
abbrev pub faulty : {A : Type 0} → A → Unresolved → Budget → Done A
faulty v e b = record { value = v; errors = e ∷ []; budget = b; opened = 0; entered = 0 }

-- a step, and then the next with its value and the budget that it left
abbrev pub and_then : {A B : Type 0} → Done A → (A → Budget → Done B) → Done B
and_then a next =
    let b = next a.value a.budget in
    record { value = b.value; errors = a.errors ++ b.errors; budget = b.budget; opened = a.opened + b.opened; entered = a.entered + b.entered }

-- a step, and its value changed
abbrev pub mapped : {A B : Type 0} → (A → B) → Done A → Done B
mapped f a = record { value = f a.value; errors = a.errors; budget = a.budget; opened = a.opened; entered = a.entered }

-- a text, and after it the text of the next step
abbrev pub beside : Done Text → (Budget → Done Text) → Done Text
beside a next = and_then a (λ s b. mapped (λ r. s ++ r) (next b))

-- one placeable more was opened
abbrev pub opening : {A : Type 0} → Done A → Done A
opening a = record { value = a.value; errors = a.errors; budget = a.budget; opened = suc a.opened; entered = a.entered }

-- one pattern more was entered
abbrev pub entering : {A : Type 0} → Done A → Done A
entering a = record { value = a.value; errors = a.errors; budget = a.budget; opened = a.opened; entered = suc a.entered }

-- whether one placeable more may be opened; one too many is reported and shuts
abbrev pub opens : Budget → Done Bool
opens shut = done false shut
opens (may_open zero) = faulty false too_many_placeables shut
opens (may_open (suc k)) = opening (done true (may_open k))
