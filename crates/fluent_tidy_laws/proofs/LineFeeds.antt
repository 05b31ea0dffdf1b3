-- Texts that end in a line feed, and the same texts when they go on.
use Rattle.std.proofs.Common.{◌≡◌, ℕ, Bool, true, false, ◌&&◌, ◌∷◌, ◌++◌, [], drop, take, refl, ap}
use Rattle.std.specs.Prelude.{◌==◌, ◌≢◌}
use Rattle.std.specs.List.{prefix_len}
use Rattle.fluent_grammar.specs.Words.{Text, line_feed, begins, begins_with}
use Rattle.fluent_grammar.proofs.Taken.{one-plus}

-- a text that ends in a line feed
pub data EndsInFeed : Text → Type 0 where
  lf_last : EndsInFeed (line_feed ∷ [])
  lf_later : {s : Text} (c : ℕ) → EndsInFeed s → EndsInFeed (c ∷ s)

pub lf-begins : {s : Text} (p : ℕ → Bool) (q : Text) → EndsInFeed s → begins p (s ++ q) ≡ begins p s
lf-begins p q lf_last = refl
lf-begins p q (lf_later c f) = refl

pub lf-two : {s : Text} (c d : ℕ) (q : Text) → (line_feed == c) ≡ false → EndsInFeed s → (begins_with c (s ++ q) && begins_with d (drop 1 (s ++ q))) ≡ (begins_with c s && begins_with d (drop 1 s))
lf-two c d q n lf_last = rw n refl
lf-two c d q n (lf_later b f) = ap (λ z. (b == c) && z) (lf-begins (λ y. y == d) q f)

-- a run that ends at the line feed, at the latest
pub lf-run : {s : Text} (p : ℕ → Bool) (q : Text) → p line_feed ≡ false → EndsInFeed s → prefix_len p (s ++ q) ≡ prefix_len p s
lf-run p q n lf_last = rw n refl
lf-run p q n (lf_later c f) = rw (lf-run p q n f) refl

run-step : (p : ℕ → Bool) (q : Text) (c : ℕ) (s : Text) (b : Bool) → p c ≡ b → EndsInFeed (c ∷ s) → EndsInFeed (drop (prefix_len p s) s) × (take (prefix_len p s) (s ++ q) ≡ take (prefix_len p s) s) × (drop (prefix_len p s) (s ++ q) ≡ drop (prefix_len p s) s ++ q) →
    EndsInFeed (drop (prefix_len p (c ∷ s)) (c ∷ s)) × (take (prefix_len p (c ∷ s)) (c ∷ (s ++ q)) ≡ take (prefix_len p (c ∷ s)) (c ∷ s)) × (drop (prefix_len p (c ∷ s)) (c ∷ (s ++ q)) ≡ drop (prefix_len p (c ∷ s)) (c ∷ s) ++ q)
run-step p q c s true e f h = rw (e, one-plus (prefix_len p s)) (h.0, ap (λ z. c ∷ z) h.1, h.2)
run-step p q c s false e f h = rw e (f, refl, refl)

-- what is taken and what is left of it
pub lf-split : {s : Text} (p : ℕ → Bool) (q : Text) → p line_feed ≡ false → EndsInFeed s →
    EndsInFeed (drop (prefix_len p s) s) × (take (prefix_len p s) (s ++ q) ≡ take (prefix_len p s) s) × (drop (prefix_len p s) (s ++ q) ≡ drop (prefix_len p s) s ++ q)
lf-split p q n lf_last = rw n (lf_last, refl, refl)
lf-split p q n (lf_later {s} c f) = run-step p q c s (p c) refl (lf_later c f) (lf-split p q n f)

pub lf-some : {s : Text} → EndsInFeed s → s ≢ []
lf-some lf_last e = absurd cc
lf-some (lf_later c f) e = absurd cc
