-- Lemmas on what devices_of exchange, and on output that waits.
use Rattle.std.proofs.Common.{◌≡◌, ℕ, ◌<◌, cond, length, arith, [], ◌++◌, take, drop, Option, Some, None, refl, sym, ap, ◌∙◌, subst, inl, inr, append_assoc, append-nil}
use Rattle.std.specs.Prelude.{◌==◌, ◌&&◌, nat_lt}
use Rattle.fluent_serve.specs.Devices.{one_more}
use Rattle.std.specs.Io.KnownBytes.{Appends, Keeps, Consumes}
use Rattle.std.proofs.lemmas.Bool.Decides.{eqb_tells}
use Rattle.std.proofs.lemmas.List.{take-append-drop}
use Rattle.fluent_serve.specs.Text.{Text}
use Rattle.fluent_serve.specs.Waiting.{Puts, PutsFront}

pub appends_trans : (a b c : Option Text) (x y : Text) → Appends a b x → Appends b c y → Appends a c (x ++ y)
appends_trans None b c x y p q = tt
appends_trans (Some u) None c x y p q = absurd p
appends_trans (Some u) (Some v) None x y p q = absurd q
appends_trans (Some u) (Some v) (Some w) x y p q = q ∙ (ap (λ s. s ++ y) p ∙ append_assoc u x y)

pub appends_nothing : (a : Option Text) → Appends a a []
appends_nothing None = tt
appends_nothing (Some u) = sym (append-nil u)

pub appends_kept : (a b c : Option Text) (x : Text) → Appends a b x → Keeps b c → Appends a c x
appends_kept None b c x p q = tt
appends_kept (Some u) None c x p q = absurd p
appends_kept (Some u) (Some v) None x p q = absurd q
appends_kept (Some u) (Some v) (Some w) x p q = q ∙ p

pub consumes_trans : (a b c : Option Text) (x y : Text) → Consumes a b x → Consumes b c y → Consumes a c (x ++ y)
consumes_trans None b c x y p q = tt
consumes_trans (Some u) None c x y p q = absurd p
consumes_trans (Some u) (Some v) None x y p q = absurd q
consumes_trans (Some u) (Some v) (Some w) x y p q = p ∙ (ap (λ s. x ++ s) q ∙ sym (append_assoc x y w))

pub consumes_nothing : (a : Option Text) → Consumes a a []
consumes_nothing None = tt
consumes_nothing (Some u) = refl

pub consumes_kept : (a b c : Option Text) (x : Text) → Consumes a b x → Keeps b c → Consumes a c x
consumes_kept None b c x p q = tt
consumes_kept (Some u) None c x p q = absurd p
consumes_kept (Some u) (Some v) None x p q = absurd q
consumes_kept (Some u) (Some v) (Some w) x p q = p ∙ ap (λ s. x ++ s) (sym q)

pub puts_nothing : (held : Option Text) (waiting : Text) → Puts held waiting held waiting []
puts_nothing held waiting = record { sent = []; written = appends_nothing held; split = append-nil waiting }

-- what is put stays put while more is put after it
module _ {h i j : Option Text} {u v : Text} {x : Text} where
  pub puts_then : {w y : Text} → Puts h u i v x → Puts i v j w y → Puts h u j w (x ++ y)
  puts_then {w} {y} p q = record {
    sent = p.sent ++ q.sent;
    written = appends_trans h i j p.sent q.sent p.written q.written;
    split = sym (append_assoc u x y) ∙ (ap (λ s. s ++ y) p.split ∙ (append_assoc p.sent v y ∙ (ap (λ s. p.sent ++ s) q.split ∙ sym (append_assoc p.sent q.sent w))));
  }

  pub puts_then_front : {y : Text} → Puts h u i v x → PutsFront i v j y → PutsFront h u j (x ++ y)
  puts_then_front {y} p q = record {
    sent = p.sent ++ q.sent;
    written = appends_trans h i j p.sent q.sent p.written q.written;
    front = record {
      back = q.front.back;
      split = sym (append_assoc u x y) ∙ (ap (λ s. s ++ y) p.split ∙ (append_assoc p.sent v y ∙ (ap (λ s. p.sent ++ s) q.front.split ∙ sym (append_assoc p.sent q.sent q.front.back))));
    };
  }

pub front_longer : {h i : Option Text} {u x : Text} (y : Text) → PutsFront h u i x → PutsFront h u i (x ++ y)
front_longer {h} {i} {u} {x} y p = record {
  sent = p.sent;
  written = p.written;
  front = record { back = p.front.back ++ y; split = sym (append_assoc u x y) ∙ (ap (λ s. s ++ y) p.front.split ∙ append_assoc p.sent p.front.back y) };
}

-- a front of some bytes is written, and this is the rest
pub record Written (held_before held_now : Option Text) (bytes rest : Text) : Type 0 where
  pub front : Text
  pub written : Appends held_before held_now front
  pub split : bytes ≡ front ++ rest

pub written_more : {h i j : Option Text} {bytes rest : Text} (n : ℕ) → Written h i bytes rest → Appends i j (take n rest) → Written h j bytes (drop n rest)
written_more {h} {i} {j} {bytes} {rest} n p q = record {
  front = p.front ++ take n rest;
  written = appends_trans h i j p.front (take n rest) p.written q;
  split = p.split ∙ (ap (λ s. p.front ++ s) (sym (take-append-drop n rest)) ∙ sym (append_assoc p.front (take n rest) (drop n rest)));
}

-- nothing is left, so all is written
pub written_all : (h i : Option Text) (bytes rest : Text) → Written h i bytes rest → rest ≡ [] → Appends h i bytes
written_all h i bytes rest p is = let all : p.front ≡ bytes = sym (p.split ∙ (ap (λ s. p.front ++ s) is ∙ append-nil p.front)) in subst (λ s. Appends h i s) all p.written

-- the writer took nothing more: a front of what waits was written
pub written_front : {h i j : Option Text} {bytes rest : Text} → Written h i bytes rest → Keeps i j → PutsFront h bytes j []
written_front {h} {i} {j} {bytes} {rest} p kept = record {
  sent = p.front;
  written = appends_kept h i j p.front p.written kept;
  front = record { back = rest; split = append-nil bytes ∙ p.split };
}

-- a write that takes some bytes is no failure
pub failures_kept : (old : ℕ) (bytes : Text) (n : ℕ) → 0 < n → cond ((n == 0) && nat_lt 0 (length bytes)) (one_more old) old ≡ old
failures_kept old bytes n h = elim (eqb_tells n 0) [
  | inl p ↦ absurd (omega (arith, p.1))
  | inr p ↦ rw p.0 refl
]
