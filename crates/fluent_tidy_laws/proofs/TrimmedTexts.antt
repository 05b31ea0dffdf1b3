-- Trimmed texts: a line feed after one is trimmed, it isn't blank where anything is left, and it ends no line.
use Rattle.std.proofs.Common.{◌≡◌, ℕ, ◌≤◌, Bool, true, false, cond, ◌&&◌, List, [], ◌∷◌, ◌++◌, length, refl, sym, ap, ◌∙◌, arith, inl, inr}
use Rattle.std.specs.Prelude.{◌==◌, ◌≢◌, ◌⊎◌, ◌||◌}
use Rattle.std.specs.Char.{is_whitespace}
use Rattle.std.specs.Str.{IsUtf8, chars, trim_end, drop_trailing_whitespace}
use Rattle.std.proofs.Math.Utf8.{scalar, scalars, encodes}
use Rattle.std.proofs.lemmas.List.{length-append}
use Rattle.std.proofs.lemmas.Str.{chars-append, chars-encodes, scalars-chars, encodes-chars, encodes-append, encode_ascii}
use Rattle.fluent_grammar.specs.Words.{Text, line_feed, space}
use Rattle.fluent_grammar.specs.Lines.{is_blank_text, ends_line}
use Rattle.fluent_grammar.proofs.Cases.{cases, and-left, and-right}
use Rattle.fluent_grammar.proofs.Got.{either, same}
use Rattle.fluent_tidy_laws.proofs.TextParts.{utf8-before, feed-dropped}

-- ---- characters

trimmed-front : (cs : List ℕ) → (r : List ℕ) × (cs ≡ drop_trailing_whitespace cs ++ r)
trimmed-front [] = ([], refl)
trimmed-front (c ∷ cs) = by (is_whitespace c && length (drop_trailing_whitespace cs) == 0) (trimmed-front cs)
  where
    by : (b : Bool) → (r : List ℕ) × (cs ≡ drop_trailing_whitespace cs ++ r) → (r : List ℕ) × (c ∷ cs ≡ cond b [] (c ∷ drop_trailing_whitespace cs) ++ r)
    by true h = (c ∷ cs, refl)
    by false h = (h.0, ap (λ z. c ∷ z) h.1)

scalars-front : (a b : List ℕ) → scalars (a ++ b) ≡ true → scalars a ≡ true
scalars-front [] b h = refl
scalars-front (c ∷ cs) b h = let k : scalar c ≡ true = and-left _ _ h in rw k (scalars-front cs b (and-right _ _ h))

trimmed-scalars : (cs : List ℕ) → scalars cs ≡ true → scalars (drop_trailing_whitespace cs) ≡ true
trimmed-scalars cs h = let r = trimmed-front cs in scalars-front (drop_trailing_whitespace cs) r.0 (ap scalars (sym r.1) ∙ h)

trimmed-again : (cs : List ℕ) → drop_trailing_whitespace (drop_trailing_whitespace cs ++ line_feed ∷ []) ≡ drop_trailing_whitespace cs
trimmed-again [] = refl
trimmed-again (c ∷ cs) = by _ refl (trimmed-again cs)
  where
    by : (b : Bool) → (is_whitespace c && length (drop_trailing_whitespace cs) == 0) ≡ b → drop_trailing_whitespace (drop_trailing_whitespace cs ++ line_feed ∷ []) ≡ drop_trailing_whitespace cs → drop_trailing_whitespace (cond b [] (c ∷ drop_trailing_whitespace cs) ++ line_feed ∷ []) ≡ cond b [] (c ∷ drop_trailing_whitespace cs)
    by true h k = refl
    by false h k = rw (k, h) refl

trimmed-shorter : (cs : List ℕ) → length (drop_trailing_whitespace cs) ≤ length cs
trimmed-shorter cs = let r = trimmed-front cs in omega (arith, ap length r.1, length-append (drop_trailing_whitespace cs) r.0)

feed-chars : chars (line_feed ∷ []) ≡ line_feed ∷ []
unfolding chars
feed-chars = refl

-- ---- blank texts

-- its characters are its bytes
pub record Plain (s : Text) : Type 0 where
  pub scalar : scalars s ≡ true
  pub spelled : encodes s ≡ s
  pub white : drop_trailing_whitespace s ≡ []

blank-byte : (c : ℕ) → (c == space || c == line_feed) ≡ true → (c ≡ space) ⊎ (c ≡ line_feed)
blank-byte c h = elim (either _ _ h) [
  | inl k ↦ inl (same c space k)
  | inr k ↦ inr (same c line_feed k)
]

blank-plain : (s : Text) → is_blank_text s ≡ true → Plain s
blank-plain [] h = record { scalar = refl; spelled = refl; white = refl }
blank-plain (c ∷ cs) h = by (blank-byte c (and-left _ _ h)) (blank-plain cs (and-right _ _ h))
  where
    by : (c ≡ space) ⊎ (c ≡ line_feed) → Plain cs → Plain (c ∷ cs)
    by (inl e) p = rw e (record { scalar = p.scalar; spelled = ap (λ z. z ++ encodes cs) (encode_ascii space (omega arith)) ∙ ap (λ z. space ∷ z) p.spelled; white = rw p.white refl })
    by (inr e) p = rw e (record { scalar = p.scalar; spelled = ap (λ z. z ++ encodes cs) (encode_ascii line_feed (omega arith)) ∙ ap (λ z. line_feed ∷ z) p.spelled; white = rw p.white refl })

pub blank-trimmed : (s : Text) → is_blank_text s ≡ true → trim_end s ≡ []
unfolding trim_end
blank-trimmed s h =
    let p = blank-plain s h in
    let e : chars s ≡ s = ap chars (sym p.spelled) ∙ chars-encodes s p.scalar in
    ap (λ z. encodes (drop_trailing_whitespace z)) e ∙ ap encodes p.white

-- ---- a trimmed text

-- texts of UTF-8, trimmed
pub record Trimmed (s t : Text) : Type 0 where
  pub characters : List ℕ
  pub scalar : scalars characters ≡ true
  pub text : encodes characters ≡ s
  pub trimmed : t ≡ encodes (drop_trailing_whitespace characters)

pub trimmed-of : (s : Text) → IsUtf8 s → Trimmed s (trim_end s)
unfolding trim_end
trimmed-of s u = record { characters = chars s; scalar = scalars-chars s u; text = encodes-chars s u; trimmed = refl }

pub trimmed-rest : {s t : Text} → Trimmed s t → (r : Text) × (s ≡ t ++ r)
trimmed-rest {s} {t} d =
    let f = trimmed-front d.characters in
    (encodes f.0, sym d.text ∙ ap encodes f.1 ∙ encodes-append (drop_trailing_whitespace d.characters) f.0 ∙ ap (λ z. z ++ encodes f.0) (sym d.trimmed))

pub trimmed-utf8 : {s t : Text} → Trimmed s t → IsUtf8 t
trimmed-utf8 d = (drop_trailing_whitespace d.characters, (trimmed-scalars d.characters d.scalar, sym d.trimmed))

trimmed-chars : {s t : Text} (d : Trimmed s t) → chars t ≡ drop_trailing_whitespace d.characters
trimmed-chars d = ap chars d.trimmed ∙ chars-encodes (drop_trailing_whitespace d.characters) (trimmed-scalars d.characters d.scalar)

more-chars : (t : Text) → IsUtf8 t → chars (t ++ line_feed ∷ []) ≡ chars t ++ line_feed ∷ []
more-chars t u = chars-append t (line_feed ∷ []) u ∙ ap (λ z. chars t ++ z) feed-chars

-- a line feed after it is trimmed
pub feed-trimmed : {s t : Text} → Trimmed s t → trim_end (t ++ line_feed ∷ []) ≡ t
unfolding trim_end
feed-trimmed {s} {t} d =
    ap (λ z. encodes (drop_trailing_whitespace z)) (more-chars t (trimmed-utf8 d) ∙ ap (λ z. z ++ line_feed ∷ []) (trimmed-chars d))
    ∙ ap encodes (trimmed-again d.characters) ∙ sym d.trimmed

-- where anything is left it isn't blank
blank-more : (s : Text) → is_blank_text s ≡ true → is_blank_text (s ++ line_feed ∷ []) ≡ true
blank-more [] h = refl
blank-more (c ∷ cs) h = let k : (c == space || c == line_feed) ≡ true = and-left _ _ h in rw k (blank-more cs (and-right _ _ h))

pub trimmed-not_blank : {s t : Text} → Trimmed s t → t ≢ [] → is_blank_text t ≡ false
trimmed-not_blank {s} {t} d some = cases (is_blank_text t)
    (λ h. absurd (some (sym (feed-trimmed d) ∙ blank-trimmed (t ++ line_feed ∷ []) (blank-more t h))))
    (λ h. h)

-- it ends no line
pub ended : (s : Text) → ends_line s ≡ true → (p : Text) × (s ≡ p ++ line_feed ∷ [])
ended [] h = absurd cc
ended (c ∷ []) h = ([], ap (λ z. z ∷ []) (same c line_feed h))
ended (c ∷ d ∷ ds) h = let e = ended (d ∷ ds) h in (c ∷ e.0, ap (λ z. c ∷ z) e.1)

no-end : (cs ps : List ℕ) → drop_trailing_whitespace cs ≡ ps ++ line_feed ∷ [] → ⊥
no-end cs ps e =
    let k : drop_trailing_whitespace (drop_trailing_whitespace cs) ≡ drop_trailing_whitespace cs = sym (feed-dropped (drop_trailing_whitespace cs)) ∙ trimmed-again cs in
    let m : drop_trailing_whitespace ps ≡ ps ++ line_feed ∷ [] = sym (feed-dropped ps) ∙ ap drop_trailing_whitespace (sym e) ∙ k ∙ e in
    absurd (omega (arith, ap length m, length-append ps (line_feed ∷ []), trimmed-shorter ps))

pub trimmed-no_end : {s t : Text} → Trimmed s t → ends_line t ≡ false
trimmed-no_end {s} {t} d = cases (ends_line t) by (λ h. h)
  where
    by : ends_line t ≡ true → ends_line t ≡ false
    by h =
        let p = ended t h in
        let u : IsUtf8 (p.0 ++ line_feed ∷ []) = rw p.1 at (trimmed-utf8 d) in
        let v : IsUtf8 p.0 = utf8-before p.0 line_feed [] u (omega arith) in
        absurd (no-end d.characters (chars p.0) (sym (trimmed-chars d) ∙ ap chars p.1 ∙ more-chars p.0 v))
