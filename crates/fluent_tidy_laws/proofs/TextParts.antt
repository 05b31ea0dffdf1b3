-- Parts of a text: where it is empty, how it begins, carriage returns, where UTF-8 may be cut, and the line feed that trimming takes.
use Rattle.std.proofs.Common.{◌≡◌, ℕ, zero, suc, ◌+◌, ◌<◌, not, List, [], ◌∷◌, ◌++◌, length, drop, get_or, replicate, refl, sym, ap, ◌∙◌, arith, append_assoc, inl, inr, subst}
use Rattle.std.specs.Prelude.{◌==◌, ◌≢◌, ◌⊎◌, Bool}
use Rattle.std.specs.List.{list_all}
use Rattle.std.specs.Str.{IsUtf8, trim_end, chars, is_utf8, drop_trailing_whitespace, encode_utf8_all}
use Rattle.std.specs.Char.{encode_utf8}
use Rattle.std.proofs.lemmas.Str.{chars-append, IsUtf8-append, IsUtf8-take, IsUtf8-drop, IsUtf8-from_is_utf8, IsCharBoundary-after_ascii, IsCharBoundary-before_ascii}
use Rattle.std.proofs.lemmas.List.{length-append}
use Rattle.std.proofs.lemmas.List.Folds.{list_all-append}
use Rattle.std.proofs.Math.Seq.{take-append_seam, drop-append_seam, get_or-append_seam}
use Rattle.fluent_grammar.specs.Words.{Text, space, line_feed, carriage_return, begins}
use Rattle.fluent_grammar.proofs.Cases.{and-left, and-right}
use Rattle.fluent_tidy_laws.specs.Joined.{HasNoReturn}
use Rattle.fluent_grammar.specs.Lines.{is_blank_text}

-- ---- how it begins

pub empty_or : (s : Text) → (s ≡ []) ⊎ (s ≢ [])
empty_or [] = inl refl
empty_or (c ∷ cs) = inr (λ e. cc)

pub append-some : (s t : Text) → s ≢ [] → s ++ t ≢ []
append-some [] t some e = some refl
append-some (c ∷ cs) t some e = absurd cc

pub begins-append : (p : ℕ → Bool) (s t : Text) → s ≢ [] → begins p (s ++ t) ≡ begins p s
begins-append p [] t some = absurd (some refl)
begins-append p (c ∷ cs) t some = refl

-- ---- carriage returns

pub no_return-left : (a b : Text) → HasNoReturn (a ++ b) → HasNoReturn a
no_return-left a b h = and-left _ (list_all (λ c. not (c == carriage_return)) b) (sym (list_all-append (λ c. not (c == carriage_return)) a b) ∙ h)

pub no_return-right : (a b : Text) → HasNoReturn (a ++ b) → HasNoReturn b
no_return-right a b h = and-right (list_all (λ c. not (c == carriage_return)) a) _ (sym (list_all-append (λ c. not (c == carriage_return)) a b) ∙ h)

pub no_return-append : (a b : Text) → HasNoReturn a → HasNoReturn b → HasNoReturn (a ++ b)
no_return-append a b h k = list_all-append (λ c. not (c == carriage_return)) a b ∙ rw (h, k) refl

pub no_return-tail : (c : ℕ) (s : Text) → HasNoReturn (c ∷ s) → HasNoReturn s
no_return-tail c s h = and-right (not (c == carriage_return)) _ h

-- ---- UTF-8, cut before an ASCII byte and after one

ascii-at : (a : Text) (c : ℕ) (b : Text) → c < 128 → (length a < length (a ++ c ∷ b)) × (get_or (a ++ c ∷ b) (length a) 0 < 128)
ascii-at a c b lt = let e : get_or (a ++ c ∷ b) (length a) 0 ≡ c = get_or-append_seam a c b 0 in (omega (arith, length-append a (c ∷ b)), omega (arith, e))

pub utf8-from : (a : Text) (c : ℕ) (b : Text) → IsUtf8 (a ++ c ∷ b) → c < 128 → IsUtf8 (c ∷ b)
utf8-from a c b u lt =
    let k = ascii-at a c b lt in
    subst IsUtf8 (drop-append_seam a (c ∷ b)) (IsUtf8-drop (a ++ c ∷ b) (length a) u (IsCharBoundary-before_ascii (a ++ c ∷ b) (length a) k.0 k.1))

pub utf8-before : (a : Text) (c : ℕ) (b : Text) → IsUtf8 (a ++ c ∷ b) → c < 128 → IsUtf8 a
utf8-before a c b u lt =
    let k = ascii-at a c b lt in
    subst IsUtf8 (take-append_seam a (c ∷ b)) (IsUtf8-take (a ++ c ∷ b) (length a) u (IsCharBoundary-before_ascii (a ++ c ∷ b) (length a) k.0 k.1))

pub utf8-behind : (a : Text) (c : ℕ) (b : Text) → IsUtf8 (a ++ c ∷ b) → c < 128 → IsUtf8 b
utf8-behind a c b u lt =
    let k = ascii-at a c b lt in
    let w : drop (length a + 1) (a ++ c ∷ b) ≡ b =
    ap (λ z. drop (length a + 1) z) (sym (append_assoc a (c ∷ []) b)) ∙ ap (λ n. drop n ((a ++ c ∷ []) ++ b)) (omega (arith, length-append a (c ∷ []))) ∙ drop-append_seam (a ++ c ∷ []) b in
    subst IsUtf8 w (IsUtf8-drop (a ++ c ∷ b) (length a + 1) u (IsCharBoundary-after_ascii (a ++ c ∷ b) (length a) u k.0 k.1))

pub utf8-tail : (c : ℕ) (b : Text) → IsUtf8 (c ∷ b) → c < 128 → IsUtf8 b
utf8-tail c b u lt = utf8-behind [] c b u lt

space-utf8 : IsUtf8 (space ∷ [])
unfolding is_utf8 chars encode_utf8
space-utf8 = IsUtf8-from_is_utf8 (space ∷ []) refl

pub spaced-utf8 : (n : ℕ) (s : Text) → IsUtf8 s → IsUtf8 (replicate n space ++ s)
spaced-utf8 zero s u = u
spaced-utf8 (suc n) s u = IsUtf8-append (space ∷ []) (replicate n space ++ s) space-utf8 (spaced-utf8 n s u)

-- ---- a line feed after a text is trimmed

pub feed-dropped : (cs : List ℕ) → drop_trailing_whitespace (cs ++ line_feed ∷ []) ≡ drop_trailing_whitespace cs
feed-dropped [] = refl
feed-dropped (c ∷ cs) = rw (feed-dropped cs) refl

pub feed_is_trimmed : (s : Text) → IsUtf8 s → trim_end (s ++ line_feed ∷ []) ≡ trim_end s
unfolding trim_end chars
feed_is_trimmed s u =
    ap (λ z. encode_utf8_all (drop_trailing_whitespace z)) (chars-append s (line_feed ∷ []) u)
    ∙ ap encode_utf8_all (feed-dropped (chars s))

pub blank-grown : (s : Text) → is_blank_text (s ++ line_feed ∷ []) ≡ is_blank_text s
blank-grown [] = refl
blank-grown (c ∷ cs) = rw (blank-grown cs) refl
