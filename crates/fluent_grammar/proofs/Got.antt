-- Readings that got something: how they came about.
use Rattle.std.proofs.Common.{◌≡◌, ℕ, Bool, true, false, cond, [], ◌∷◌, drop, length, refl, arith, inl, inr}
use Rattle.std.specs.Prelude.{◌⊎◌, ◌==◌, ◌||◌, ◌≢◌}
use Rattle.fluent_grammar.specs.Words.{Text, begins_with}
use Rattle.fluent_grammar.specs.Refusal.{Reading, got, refused, mapped, ◌>>=◌}

pub bind_got : {A B : Type 0} (x : Reading A) (f : A × Text → Reading B) (b : B) (rest : Text) → (x >>= f) ≡ got b rest → (a : A) × (u : Text) × (x ≡ got a u) × (f (a, u) ≡ got b rest)
bind_got (got a u) f b rest e = (a, u, refl, e)
bind_got (refused fault) f b rest e = absurd cc

pub mapped_got : {A B : Type 0} (f : A → B) (x : Reading A) (b : B) (rest : Text) → mapped f x ≡ got b rest → (a : A) × (x ≡ got a rest) × (f a ≡ b)
mapped_got f (got a u) b rest e = let h : u ≡ rest = cc in (a, rw h refl, cc)
mapped_got f (refused fault) b rest e = absurd cc

pub got_node : {A : Type 0} {a b : A} {s u : Text} → got a s ≡ got b u → (a ≡ b) × (s ≡ u)
got_node e = (cc, cc)

pub which : {A : Type 0} (b : Bool) (x y z : A) → cond b x y ≡ z → ((b ≡ true) × (x ≡ z)) ⊎ ((b ≡ false) × (y ≡ z))
which true x y z e = inl (refl, e)
which false x y z e = inr (refl, e)

pub decide : (b : Bool) → (b ≡ true) ⊎ (b ≡ false)
decide true = inl refl
decide false = inr refl

-- the text that begins with a byte is that byte and what follows it
pub begins_is : (c : ℕ) (s : Text) → begins_with c s ≡ true → s ≡ c ∷ drop 1 s
begins_is c [] e = absurd cc
begins_is c (d ∷ ds) e = grind arith

pub same : (c d : ℕ) → (c == d) ≡ true → c ≡ d
same c d e = grind arith

pub either : (a b : Bool) → (a || b) ≡ true → (a ≡ true) ⊎ (b ≡ true)
either true b e = inl refl
either false b e = inr e

pub no_text : (s : Text) → (length s == 0) ≡ true → s ≡ []
no_text [] h = refl
no_text (c ∷ cs) h = absurd (grind arith)

pub not_end : (s : Text) → (length s == 0) ≡ false → s ≢ []
not_end [] h e = absurd cc
not_end (c ∷ cs) h e = absurd cc
