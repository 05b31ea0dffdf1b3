-- What is open of the machine's stack, by its parts.
use Rattle.std.proofs.Common.{◌≡◌, ℕ, ◌+◌, ◌-◌, ◌<◌, Bool, refl}
use Rattle.fluent_progress.specs.Depth.{open_in, with_closed, with_opened}
use Rattle.fluent_progress.specs.declared.frames.Frames.{Frames}

-- frames with these parts
pub open-parts : (f : Frames) {taken bytes : ℕ} {is_past : Bool} → f.counted.taken ≡ taken → f.counted.budget.bytes ≡ bytes → f.is_past ≡ is_past →
    open_in f ≡ record { taken = taken; budget = bytes; is_past = is_past }
unfolding open_in
open-parts f t b p = λ i. record { taken = t i; budget = b i; is_past = p i }

module _ (f g : Frames) (bytes : ℕ) (budget : g.counted.budget ≡ f.counted.budget) (past : g.is_past ≡ f.is_past) where
  -- with more of them open, and with some closed
  pub open-more : g.counted.taken ≡ f.counted.taken + bytes → open_in g ≡ with_opened bytes (open_in f)
  unfolding open_in
  open-more taken = λ i. record { taken = taken i; budget = (budget i).bytes; is_past = past i }

  pub open-less : g.counted.taken ≡ f.counted.taken - bytes → open_in g ≡ with_closed bytes (open_in f)
  unfolding open_in
  open-less taken = λ i. record { taken = taken i; budget = (budget i).bytes; is_past = past i }

pub open-past : (f : Frames) (bytes : ℕ) → f.counted.budget.bytes < f.counted.taken + bytes → (open_in f).budget < (open_in f).taken + bytes
unfolding open_in
open-past f bytes h = h

pub open-is-past : (f : Frames) → (open_in f).is_past ≡ f.is_past
unfolding open_in
open-is-past f = refl
