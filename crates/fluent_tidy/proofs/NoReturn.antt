-- Carriage returns, as code finds them and as laws speak of them.
use Rattle.std.proofs.Common.{◌≡◌, ℕ, zero, suc, ◌<◌, ◌==◌, Bool, true, false, ◌||◌, List, [], ◌∷◌, Option, Some, None, is_some, refl, sym, ap, ◌∙◌, length, slice_index, arith}
use denote.Ref.{Bor}
use Rattle.std.specs.List.{list_any}
use Rattle.memchr.specs.Find.{IsFirstByte, is_byte}
use Rattle.fluent_grammar.specs.Words.{Text, carriage_return}
use Rattle.fluent_tidy_laws.specs.Joined.{HasNoReturn, HaveNoReturn}
use Rattle.fluent_tidy.specs.Sources.{texts, holds_return}

neither : (a b : Bool) → (a || b) ≡ false → (a ≡ false) × (b ≡ false)
neither true b e = absurd cc
neither false b e = (refl, e)

pub none_held : (s : Text) → holds_return s ≡ false → HasNoReturn s
none_held [] e = refl
none_held (c ∷ cs) e =
    let n = neither (c == carriage_return) (holds_return cs) e in
    rw (n.0) (none_held cs n.1)

pub all_without : (ss : List Text) → list_any holds_return ss ≡ false → HaveNoReturn ss
all_without [] e = tt
all_without (s ∷ ss) e = let n = neither (holds_return s) (list_any holds_return ss) e in (none_held s n.0, all_without ss n.1)

nowhere : (s : Text) → ((k : ℕ) → k < length s → (slice_index s k == carriage_return) ≡ true → ⊥) → holds_return s ≡ false
nowhere [] h = refl
nowhere (c ∷ cs) h = by_first (c == carriage_return) refl (nowhere cs (λ k lt e. h (suc k) (omega (arith, lt)) e))
  where
    by_first : (b : Bool) → (c == carriage_return) ≡ b → holds_return cs ≡ false → (b || holds_return cs) ≡ false
    by_first true e more = absurd (h 0 (omega arith) e)
    by_first false e more = more

or-true : (b : Bool) → (b || true) ≡ true
or-true true = refl
or-true false = refl

somewhere : (s : Text) (k : ℕ) → k < length s → (slice_index s k == carriage_return) ≡ true → holds_return s ≡ true
somewhere [] k lt e = absurd (omega (arith, lt))
somewhere (c ∷ cs) zero lt e = rw e refl
somewhere (c ∷ cs) (suc k) lt e = ap (λ b. (c == carriage_return) || b) (somewhere cs k (omega (arith, lt)) e) ∙ or-true (c == carriage_return)

-- what a search for one finds
pub return_found : (s : Text) (r : Option ℕ) → IsFirstByte (is_byte carriage_return) s r → is_some r ≡ holds_return s
return_found s None h = sym (nowhere s (λ k lt e. h k (omega arith) lt e))
return_found s (Some k) h = sym (somewhere s k h.0.high h.1)

pub any_text : (sources : List (Bor Text)) → list_any (λ source. holds_return source.now) sources ≡ list_any holds_return (texts sources)
any_text [] = refl
any_text (x ∷ xs) = ap (λ b. holds_return x.now || b) (any_text xs)
