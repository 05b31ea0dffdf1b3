-- What follows from how a call ended.
use Rattle.std.proofs.Common.{◌≡◌, ℕ, ◌+◌, ◌<◌, ◌≤◌, min, Result, Ok, Err, OnOk, refl, arith, rules, inl, inr}
use Rattle.std.specs.Prelude.{is_ok, if◌then◌else◌}
use Rattle.std.proofs.Math.Nat.{min-le_left, min-le_right, min-eq_left, min-eq_right, le-min}
use Rattle.std.proofs.lemmas.Bool.{cases_lt}
use Rattle.fluent_serve.specs.Devices.{HasFailed, HasGiven, one_more, greatest_count}
use Rattle.fluent_serve.specs.declared.serve.RunError.{RunError}
use Rattle.fluent_serve.specs.declared.serve.RunError.TheVariants.{Memory, Read, Write}

pub on_ok_map : {T E P Q : Type 0} (r : Result T E) → (P → Q) → OnOk r P → OnOk r Q
on_ok_map (Ok x) f p = f p
on_ok_map (Err e) f p = search rules

pub on_ok_if : {T E A : Type 0} (r : Result T E) (x a b : A) → x ≡ (if is_ok r then a else b) → OnOk r (x ≡ a)
on_ok_if (Ok t) x a b h = h
on_ok_if (Err e) x a b h = search rules

pub on_ok_always : {T E P : Type 0} (r : Result T E) → P → OnOk r P
on_ok_always (Ok x) p = p
on_ok_always (Err e) p = search rules

-- a call failed, and none before it
pub failed_now : (old mid new : ℕ) → mid ≡ old → new ≡ one_more mid → HasFailed old new
failed_now old mid new same more = elim (cases_lt old greatest_count) [
  | inl below ↦ inl (omega (arith, same, more, below))
  | inr full ↦ inr full
]

-- before the first call no byte is needed
pub given_none : (old : ℕ) → HasGiven old old 0
given_none old = omega (arith, min-le_left (old + 0) greatest_count)

-- a call that gives some bytes gives at least one more
pub given_more : (old mid new calls n : ℕ) → HasGiven old mid calls → new ≡ min (mid + n) greatest_count → 0 < n → HasGiven old new (calls + 1)
given_more old mid new calls n so_far is some =
    let most = min-le_right (old + (calls + 1)) greatest_count in
    let one_more : min (old + (calls + 1)) greatest_count ≤ mid + n = elim (cases_lt greatest_count (old + calls)) [
      | inl full ↦ omega (arith, so_far, most, min-eq_right {n = greatest_count} {m = old + calls} (omega (arith, full)))
      | inr room ↦ omega (arith, so_far, some, min-le_left (old + (calls + 1)) greatest_count, min-eq_left {n = old + calls} {m = greatest_count} room)
    ] in
    rw is (le-min one_more most)

-- how a run ended
pub by_outcome : {P : Type 0} (r : Result (Unit {0}) RunError) → (r ≡ Err Write → ⊥) → (r ≡ Ok tt → P) → (r ≡ Err Memory → P) → (r ≡ Err Read → P) → P
by_outcome (Ok tt) not_write ok memory read = ok refl
by_outcome (Err Memory) not_write ok memory read = memory refl
by_outcome (Err Read) not_write ok memory read = read refl
by_outcome (Err Write) not_write ok memory read = absurd (not_write refl)

pub on_ok_both : {T E P Q S : Type 0} (r : Result T E) → (P → Q → S) → OnOk r P → OnOk r Q → OnOk r S
on_ok_both (Ok x) f p q = f p q
on_ok_both (Err e) f p q = search rules
