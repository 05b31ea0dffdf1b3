-- The unescaped text, from one backslash to the next.
use Rattle.std.proofs.Common.{◌≡◌, ℕ, zero, suc, ◌+◌, ◌<◌, ◌≤◌, Bool, true, false, [], ◌∷◌, ◌++◌, length, take, drop, get_or, refl, sym, ap, ◌∙◌, arith, append_assoc, subst, Option, Some, None, Result, Ok, Err, OnOk, OnErr}
use Rattle.std.specs.Prelude.{◌==◌, is_some}
use Rattle.std.proofs.lemmas.List.{append-nil, drop_more}
use Rattle.std.proofs.Math.Seq.{take-length, drop-length}
use Rattle.memchr.specs.Find.{Nowhere, Passes, IsFirstByte, is_byte}
use Rattle.fluent_grammar.specs.Words.{Text, backslash}
use Rattle.fluent_grammar.specs.Escapes.{unescaped, unescaped_behind, escape_at}
use Rattle.fluent_tokens.specs.Unescaped.{TookPrefix, has_backslash}

-- an escape that was read is passed over
behind_is : (n : ℕ) (s : Text) → unescaped_behind n s ≡ unescaped (drop n s)
unfolding unescaped_behind
behind_is zero s = refl
behind_is (suc n) [] = refl
behind_is (suc n) (c ∷ cs) = behind_is n cs

at_backslash : (c : ℕ) (cs : Text) → (c == backslash) ≡ true → unescaped (c ∷ cs) ≡ (escape_at cs).stands_for ++ unescaped_behind (escape_at cs).len cs
unfolding unescaped_behind
at_backslash c cs e = rw e refl

at_plain : (c : ℕ) (cs : Text) → (c == backslash) ≡ false → unescaped (c ∷ cs) ≡ c ∷ unescaped cs
unfolding unescaped_behind
at_plain c cs e = rw e refl

-- no backslash stands before the place k
abbrev pub NoneBefore : Text → ℕ → Type 0
NoneBefore s k = Nowhere (Passes (is_byte backslash) s) 0 k

false_of : (b : Bool) → ¬ (b ≡ true) → b ≡ false
false_of true h = absurd (h refl)
false_of false h = refl

plain_front : (s : Text) (k : ℕ) → k ≤ length s → NoneBefore s k → unescaped s ≡ take k s ++ unescaped (drop k s)
plain_front s zero h none = refl
plain_front [] (suc k) h none = absurd (omega arith)
plain_front (c ∷ cs) (suc k) h none =
    at_plain c cs (false_of (c == backslash) (none 0 (omega arith) (omega arith)))
    ∙ ap (λ z. c ∷ z) (plain_front cs k (omega arith) (λ j l m. none (suc j) (omega arith) (omega arith)))

escape_front : (s : Text) (k : ℕ) → k < length s → (get_or s k 0 == backslash) ≡ true
    → unescaped (drop k s) ≡ (escape_at (drop (k + 1) s)).stands_for ++ unescaped (drop (escape_at (drop (k + 1) s)).len (drop (k + 1) s))
escape_front s k h e =
    ap unescaped (drop_more s k 0 h)
    ∙ at_backslash (get_or s k 0) (drop (k + 1) s) e
    ∙ ap (λ z. (escape_at (drop (k + 1) s)).stands_for ++ z) (behind_is (escape_at (drop (k + 1) s)).len (drop (k + 1) s))

pub next_escape : (s : Text) (k : ℕ) → k < length s → NoneBefore s k → (get_or s k 0 == backslash) ≡ true
    → unescaped s ≡ take k s ++ ((escape_at (drop (k + 1) s)).stands_for ++ unescaped (drop (escape_at (drop (k + 1) s)).len (drop (k + 1) s)))
next_escape s k h none e = plain_front s k (omega arith) none ∙ ap (λ z. take k s ++ z) (escape_front s k h e)

pub no_escape : (s : Text) → NoneBefore s (length s) → unescaped s ≡ s
unfolding unescaped_behind
no_escape s none =
    plain_front s (length s) (omega arith) none
    ∙ ap (λ z. z ++ unescaped (drop (length s) s)) (take-length s)
    ∙ ap (λ z. s ++ unescaped z) (drop-length s)
    ∙ append-nil s

pub no_backslash : (s : Text) → NoneBefore s (length s) → has_backslash s ≡ false
no_backslash [] none = refl
no_backslash (c ∷ cs) none =
    let first : (c == backslash) ≡ false = false_of (c == backslash) (none 0 (omega arith) (omega arith)) in
    rw first (no_backslash cs (λ j l m. none (suc j) (omega arith) (omega arith)))

-- a writer that took a prefix of a whole, of which this is left
pub record Took (held now whole left : Text) : Type 0 where
  pub taken : Text
  pub holds : now ≡ held ++ taken
  pub split : whole ≡ taken ++ left

pub took_piece : (held now next whole piece left : Text) → Took held now whole (piece ++ left) → next ≡ now ++ piece → Took held next whole left
took_piece held now next whole piece left t e = record {
  taken = t.taken ++ piece;
  holds = e ∙ ap (λ z. z ++ piece) t.holds ∙ append_assoc held t.taken piece;
  split = t.split ∙ sym (append_assoc t.taken piece left);
}

pub took_prefix : (held now next whole left : Text) → Took held now whole left → next ≡ now → TookPrefix held next whole
took_prefix held now next whole left t e = record { taken = t.taken; left = left; holds = e ∙ t.holds; split = t.split }

pub took_all : (held now next whole left : Text) → Took held now whole left → next ≡ now ++ left → next ≡ held ++ whole
took_all held now next whole left t e = e ∙ ap (λ z. z ++ left) t.holds ∙ append_assoc held t.taken left ∙ ap (λ z. held ++ z) (sym t.split)

-- after the text before a backslash
pub took_plain : (held now next whole s plain : Text) (k : ℕ) → IsFirstByte (is_byte backslash) s (Some k) → Took held now whole (unescaped s) → plain ≡ take k s → next ≡ now ++ plain
    → Took held next whole ((escape_at (drop (k + 1) s)).stands_for ++ unescaped (drop (escape_at (drop (k + 1) s)).len (drop (k + 1) s)))
took_plain held now next whole s plain k found t p e =
    let left : Text = (escape_at (drop (k + 1) s)).stands_for ++ unescaped (drop (escape_at (drop (k + 1) s)).len (drop (k + 1) s)) in
    took_piece held now next whole (take k s) left (subst (Took held now whole) (next_escape s k found.0.high found.0.before found.1) t) (e ∙ ap (λ z. now ++ z) p)

-- after the character of an escape
pub took_character : (held now next whole escaped shown rest : Text) (len : ℕ) → Took held now whole ((escape_at escaped).stands_for ++ unescaped (drop (escape_at escaped).len escaped))
    → shown ≡ (escape_at escaped).stands_for → next ≡ now ++ shown → len ≡ (escape_at escaped).len → rest ≡ drop len escaped → Took held next whole (unescaped rest)
took_character held now next whole escaped shown rest len t s e l r =
    let left : Text = unescaped (drop (escape_at escaped).len escaped) in
    subst (λ (z : Text). Took held next whole (unescaped z)) (sym (r ∙ ap (λ (n : ℕ). drop n escaped) l))
    (took_piece held now next whole (escape_at escaped).stands_for left t (e ∙ ap (λ z. now ++ z) s))

pub none_found : (s : Text) (r : Option ℕ) → is_some r ≡ false → IsFirstByte (is_byte backslash) s r → NoneBefore s (length s)
none_found s None e h = h
none_found s (Some k) e h = absurd cc

pub on_err : {T E : Type 0} (r : Result T E) (P : Type 0) → P → OnErr r P
on_err (Ok x) P h = tt
on_err (Err e) P h = h

pub on_ok : {T E : Type 0} (r : Result T E) (P Q : Type 0) → (P → Q) → OnOk r P → OnOk r Q
on_ok (Ok x) P Q f h = f h
on_ok (Err e) P Q f h = tt
