-- A pattern that ends at the end of a text is spelled where blank lines and a rest at which patterns are over are put after that
-- text, as the same pattern.
use Rattle.std.proofs.Common.{◌≡◌, ℕ, suc, ◌<◌, Bool, true, false, List, [], ◌∷◌, ◌++◌, replicate, refl, sym, ap, ◌∙◌, arith, append_assoc, inl, inr, subst, append-nil, drop}
use Rattle.std.specs.Str.{IsUtf8}
use Rattle.std.specs.Prelude.{◌==◌, ◌≢◌}
use Rattle.fluent_grammar.specs.Words.{Text, space, line_feed, carriage_return, open_brace, begins, begins_crlf, spaces, skip_spaces}
use Rattle.fluent_grammar.specs.Lines.{Piece, at_line_start, in_line, placed, ends_line, pattern_ends, goes_on_at_column_zero, ends_behind_spaces}
use Rattle.fluent_grammar.specs.Lexical.{SpellsText, to_line_feed, to_brace, to_crlf, to_end, text_byte}
use Rattle.fluent_grammar.specs.Blanks.{BlankLines, no_lines, ends_lf, ends_crlf}
use Rattle.fluent_grammar.specs.Spelling.{BeginsText, SpellsPieces, nothing_left, crlf_piece, text_piece, placeable_piece, SpellsLine, only_spaces_left, pattern_over, line_of_text, line_of_placeable, line_of_crlf, SpellsBehindText, next_line, same_line}
use Rattle.fluent_grammar.proofs.Cases.{cases}
use Rattle.fluent_tidy_laws.proofs.Alike.{alike-some}
use Rattle.fluent_tidy_laws.proofs.MovingWords.{Over, zero-spaces, skip_spaces-more, text-ended, here, not_feed, text-split}
use Rattle.fluent_tidy_laws.proofs.MovingPatterns.{over-line, crlf-text, pieces-at, line-at, line-text, line-placeable, placeable-at, text-at, begins-at, placeable-moves}
use Rattle.fluent_tidy_laws.proofs.LineFeeds.{EndsInFeed, lf_last, lf_later, lf-some}
use Rattle.fluent_tidy_laws.proofs.TextEnds.{Trims, trims, Joint, ended, unended, Lined, lined-some, joint-at, lined-tail, alike-append, alike-lined, alike-joint, Whole, joint-whole, whole-tail, crlf-append, crlf-kept, joint-suffix, lf-ends, spaces-lined, skip_spaces-append, spaces-append, pattern_ends-append}
use Rattle.fluent_tidy_laws.proofs.LaterPieces.{Blanks, no_blanks, blank_line, blank_end, grown_start, grown_in, Later, behind, alike, grown}
use Rattle.fluent_tidy_laws.proofs.TextParts.{append-some, begins-append}
use Rattle.fluent_grammar.proofs.Blanks.{skip_spaces-spaced}

-- ---- blank lines are blank pieces

line-goes_on : (s m : Text) (c : ℕ) → skip_spaces s ≡ c ∷ m → goes_on_at_column_zero c ≡ true → ends_behind_spaces c ≡ false → pattern_ends s ≡ false
line-goes_on s m c e g n = cases (spaces s == 0)
    (λ z.
    let w : s ≡ c ∷ m = sym (zero-spaces s z) ∙ e in
    let b : begins goes_on_at_column_zero s ≡ true = ap (begins goes_on_at_column_zero) w ∙ g in
    rw (z, b) refl)
    (λ z.
    let b : begins ends_behind_spaces (skip_spaces s) ≡ false = ap (begins ends_behind_spaces) e ∙ n in
    rw (z, b) refl)

feed-begins : (m : Text) → BeginsText (line_feed ∷ m)
feed-begins m = record { not_end = λ e. cc; no_brace = refl; no_crlf = refl }

feed-line : {qs : List Piece} {x : Text} (s m : Text) → skip_spaces s ≡ line_feed ∷ m → SpellsLine qs m x → SpellsLine (at_line_start (spaces s) (line_feed ∷ []) ∷ qs) s x
feed-line s m e d = line_of_text (line-goes_on s m line_feed e refl refl) (begins-at e (feed-begins m)) (text-at e to_line_feed) (next_line d)

crlf-line : {qs : List Piece} {x : Text} (s m : Text) → skip_spaces s ≡ carriage_return ∷ line_feed ∷ m → SpellsLine qs m x → SpellsLine (in_line (line_feed ∷ []) ∷ qs) s x
crlf-line s m e d = line_of_crlf (line-goes_on s (line_feed ∷ m) carriage_return e refl refl) (rw e refl) (pieces-at e (crlf_piece refl d))

record BlankLater (s x : Text) : Type 0 where
  pieces : List Piece
  spelled : SpellsLine pieces s x
  blank : Blanks pieces

blank-later : {blanks x : Text} → BlankLines blanks → Over x → BlankLater (blanks ++ x) x
blank-later no_lines o = record { pieces = []; spelled = over-line o; blank = no_blanks }
blank-later {x = x} (ends_lf {more = m} n d) o =
    let l = blank-later d o in
    let s = (replicate n space ++ line_feed ∷ m) ++ x in
    record {
      pieces = at_line_start (spaces s) (line_feed ∷ []) ∷ l.pieces;
      spelled = feed-line s (m ++ x) (ap skip_spaces (append_assoc (replicate n space) (line_feed ∷ m) x) ∙ skip_spaces-spaced n (line_feed ∷ (m ++ x))) l.spelled;
      blank = blank_line (spaces s) l.blank;
    }
blank-later {x = x} (ends_crlf {more = m} n d) o =
    let l = blank-later d o in
    let s = (replicate n space ++ carriage_return ∷ line_feed ∷ m) ++ x in
    record {
      pieces = in_line (line_feed ∷ []) ∷ l.pieces;
      spelled = crlf-line s (m ++ x) (ap skip_spaces (append_assoc (replicate n space) (carriage_return ∷ line_feed ∷ m) x) ∙ skip_spaces-spaced n (carriage_return ∷ line_feed ∷ (m ++ x))) l.spelled;
      blank = blank_end l.blank;
    }

-- spaces before blank lines
spaced-lines : (s : Text) {more : Text} → skip_spaces s ≡ [] → BlankLines more → BlankLines (s ++ line_feed ∷ more)
spaced-lines s {more} e l = let w = spaces-only s e in rw w.1 (ends_lf w.0 l)
  where
    space-first : (c n : ℕ) (cs : Text) → c ≡ space → cs ≡ replicate n space → c ∷ cs ≡ replicate (suc n) space
    space-first c n cs h k = cc

    spaces-only : (s : Text) → skip_spaces s ≡ [] → (n : ℕ) × (s ≡ replicate n space)
    spaces-only [] e = (0, refl)
    spaces-only (c ∷ cs) e = cases (c == space)
        (λ k.
        let w = spaces-only cs (sym (skip_spaces-more c cs k) ∙ e) in
        (suc w.0, space-first c w.0 cs (grind arith) w.1))
        (λ k. absurd (let h : c ∷ cs ≡ [] = rw k at e in cc))

-- ---- texts

unended-tail : (c : ℕ) (piece : Text) → ends_line (c ∷ piece) ≡ false → ends_line piece ≡ false
unended-tail c [] e = refl
unended-tail c (d ∷ ds) e = e

-- what stops a text that doesn't end its line, if anything does
data TextStops (piece s u : Text) : Type 0 where
  at_byte : (c : ℕ) (w : Text) → c < 128 → u ≡ c ∷ w → ((more : Text) → SpellsText piece (s ++ more) (u ++ more)) → TextStops piece s u
  at_the_end : u ≡ [] → ((more : Text) → SpellsText (piece ++ line_feed ∷ []) (s ++ line_feed ∷ more) more) → TextStops piece s u

text-stops : {piece s u : Text} → SpellsText piece s u → ends_line piece ≡ false → Whole s → TextStops piece s u
text-stops to_line_feed e w = absurd cc
text-stops (to_brace {rest}) e w = at_byte open_brace rest (omega arith) refl (λ more. to_brace)
text-stops (to_crlf {rest} k) e w = at_byte carriage_return _ (omega arith) (crlf-text rest k) (λ more. to_crlf (crlf-kept rest more k))
text-stops to_end e w = at_the_end refl (λ more. to_line_feed)
text-stops (text_byte {c} {piece} {s} k b d) e w =
    let crlf : (more : Text) → begins_crlf ((c ∷ s) ++ more) ≡ false = λ more. crlf-append (c ∷ s) more w (λ z. cc) ∙ b in
    elim (text-stops d (unended-tail c piece e) (whole-tail c s (not_feed c k) w)) [
      | at_byte a v l h f ↦ at_byte a v l h (λ more. text_byte k (crlf more) (f more))
      | at_the_end h f ↦ at_the_end h (λ more. text_byte k (crlf (line_feed ∷ more)) (f more))
    ]

-- nothing is spelled by nothing
pub pieces-none : {ps : List Piece} {s rest : Text} → SpellsPieces ps s rest → s ≡ [] → ps ≡ []
pieces-none nothing_left e = refl
pieces-none (crlf_piece {s = s} c d) e = absurd (let k : begins_crlf [] ≡ true = rw e at c in cc)
pieces-none (text_piece b x d) e = absurd (b.not_end e)
pieces-none (placeable_piece d m) e = absurd (let h = placeable-moves d [] in alike-some h.1 e)

-- ---- pieces

pub record PiecesLater (ps : List Piece) (s t x : Text) : Type 0 where
  pub pieces : List Piece
  pub spelled : SpellsPieces pieces (s ++ t) x
  pub later : Later ps pieces

pub record LineLater (ps : List Piece) (s t x : Text) : Type 0 where
  pub pieces : List Piece
  pub spelled : SpellsLine pieces (s ++ t) x
  pub later : Later ps pieces

pub data PieceLater (piece : Text) (ps : List Piece) : Text → List Piece → Type 0 where
  same_piece : {qs : List Piece} → Later ps qs → PieceLater piece ps piece qs
  more_piece : {qs : List Piece} → ps ≡ [] → Trims piece → Blanks qs → PieceLater piece ps (piece ++ line_feed ∷ []) qs

pub record TextLater (piece : Text) (ps : List Piece) (s t x : Text) : Type 0 where
  pub text : Text
  pub left : Text
  pub pieces : List Piece
  pub spelled : SpellsText text (s ++ t) left
  pub others : SpellsBehindText (ends_line text) pieces left x
  pub later : PieceLater piece ps text pieces

in-later : {piece piece' : Text} {ps qs : List Piece} → PieceLater piece ps piece' qs → Later (in_line piece ∷ ps) (in_line piece' ∷ qs)
in-later (same_piece h) = alike _ h
in-later (more_piece e h b) = rw e (grown (grown_in h) b)

start-later : (n : ℕ) {piece piece' : Text} {ps qs : List Piece} → PieceLater piece ps piece' qs → Later (at_line_start n piece ∷ ps) (at_line_start n piece' ∷ qs)
start-later n (same_piece h) = alike _ h
start-later n (more_piece e h b) = rw e (grown (grown_start n h) b)

-- ---- what is put after

pub begins-later : {s : Text} (t : Text) → Whole s → BeginsText s → BeginsText (s ++ t)
begins-later {s} t w b = record {
  not_end = append-some s t b.not_end;
  no_brace = begins-append (λ c. c == open_brace) s t b.not_end ∙ b.no_brace;
  no_crlf = crlf-append s t w b.not_end ∙ b.no_crlf;
}

behind-at : {a b : Bool} {ps : List Piece} {s rest : Text} → a ≡ b → SpellsBehindText b ps s rest → SpellsBehindText a ps s rest
behind-at e d = rw e d

pub lf-put : (s : Text) → EndsInFeed (s ++ line_feed ∷ [])
lf-put [] = lf_last
lf-put (c ∷ cs) = lf_later c (lf-put cs)

crlf-lined : {blanks : Text} (s : Text) → begins_crlf s ≡ true → Joint blanks s → Lined blanks (drop 2 s)
crlf-lined s c j =
    let k = joint-at (crlf-text s c) j in
    lined-tail line_feed (drop 2 s) (omega arith) (lined-some (λ e. cc) (lined-tail carriage_return (line_feed ∷ drop 2 s) (omega arith) k))

nothing-later : {blanks s x : Text} → s ≡ [] → Joint blanks s → Over x → PiecesLater [] s (blanks ++ x) x
nothing-later e (ended f) o = absurd (lf-some f e)
nothing-later {x = x} e (unended {more} n u l k) o =
    let b = blank-later l o in
    record {
      pieces = in_line (line_feed ∷ []) ∷ b.pieces;
      spelled = rw (e, k) (text_piece (feed-begins (more ++ x)) to_line_feed (next_line b.spelled));
      later = behind (blank_end b.blank);
    }

lf-not_spaces : {s : Text} → EndsInFeed s → skip_spaces s ≡ [] → ⊥
lf-not_spaces lf_last e = cc
lf-not_spaces (lf_later {s} c f) e = cases (c == space)
    (λ k. lf-not_spaces f (sym (skip_spaces-more c s k) ∙ e))
    (λ k. let h : c ∷ s ≡ [] = rw k at e in cc)

spaces-later : {blanks s x : Text} → skip_spaces s ≡ [] → Lined blanks s → BlankLines blanks → Over x → LineLater [] s (blanks ++ x) x
spaces-later h (inl e) l o = let b = blank-later l o in record { pieces = b.pieces; spelled = rw e b.spelled; later = behind b.blank }
spaces-later h (inr (ended f)) l o = absurd (lf-not_spaces f h)
spaces-later {s = s} {x = x} h (inr (unended {more} n u lm k)) l o =
    let b = blank-later (spaced-lines s h lm) o in
    record {
      pieces = b.pieces;
      spelled = line-at (ap (λ z. s ++ (z ++ x)) k ∙ sym (append_assoc s (line_feed ∷ more) x)) b.spelled;
      later = behind b.blank;
    }

-- the last text, which doesn't end its line
last-later : {blanks piece s u x : Text} {ps : List Piece} → ps ≡ [] → s ≡ piece ++ u → u ≡ [] → ends_line piece ≡ false → ((more : Text) → SpellsText (piece ++ line_feed ∷ []) (s ++ line_feed ∷ more) more) →
    Joint blanks s → Over x → TextLater piece ps s (blanks ++ x) x
last-later {piece = piece} none w e n f (ended h) o =
    let k : ends_line piece ≡ true = ap ends_line (sym (append-nil piece) ∙ ap (λ z. piece ++ z) (sym e) ∙ sym w) ∙ lf-ends h in
    absurd cc
last-later {piece = piece} {s = s} {x = x} none w e n f (unended {more} m u l k) o =
    let b = blank-later l o in
    let p : s ≡ piece = w ∙ ap (λ z. piece ++ z) e ∙ append-nil piece in
    record {
      text = piece ++ line_feed ∷ [];
      left = more ++ x;
      pieces = b.pieces;
      spelled = text-at (ap (λ z. s ++ (z ++ x)) k) (f (more ++ x));
      others = behind-at (lf-ends (lf-put piece)) (next_line b.spelled);
      later = more_piece none (trims piece (subst IsUtf8 p u)) b.blank;
    }

mutual
  pub pieces-later : {ps : List Piece} {s rest : Text} → SpellsPieces ps s rest → {blanks x : Text} → rest ≡ [] → Joint blanks s → BlankLines blanks → Over x → PiecesLater ps s (blanks ++ x) x
  pieces-later nothing_left e j l o = nothing-later refl j o
  pieces-later (crlf_piece {s = s} c d) {blanks} {x} e j l o =
      let r = line-later d e (crlf-lined s c j) l o in
      record {
        pieces = in_line (line_feed ∷ []) ∷ r.pieces;
        spelled = pieces-at (ap (λ z. z ++ (blanks ++ x)) (crlf-text s c)) (crlf_piece refl r.spelled);
        later = alike _ r.later;
      }
  pieces-later (text_piece b y d) {blanks} {x} e j l o =
      let r = behind-later d y refl e j l o in
      record { pieces = in_line r.text ∷ r.pieces; spelled = text_piece (begins-later (blanks ++ x) (joint-whole j) b) r.spelled r.others; later = in-later r.later }
  pieces-later (placeable_piece {u = u} p d) {blanks} {x} e j l o =
      let t = blanks ++ x in
      let r = pieces-later d e (alike-joint (placeable-moves p []).1 (omega arith) refl j) l o in
      let p' = placeable-moves p (u ++ t) in
      record { pieces = placed false _ ∷ r.pieces; spelled = placeable_piece (placeable-at (sym (alike-append t p'.1)) p'.2) r.spelled; later = alike _ r.later }

  pub line-later : {ps : List Piece} {s rest : Text} → SpellsLine ps s rest → {blanks x : Text} → rest ≡ [] → Lined blanks s → BlankLines blanks → Over x → LineLater ps s (blanks ++ x) x
  line-later (only_spaces_left h) e j l o = spaces-later h j l o
  line-later (pattern_over h k) e j l o = absurd (h (ap skip_spaces e))
  line-later (line_of_text {s = s} h b y d) {blanks} {x} e j l o =
      let t = blanks ++ x in
      let k = lined-some b.not_end (spaces-lined s j) in
      let w = skip_spaces-append s t b.not_end in
      let r = behind-later d y refl e k l o in
      record {
        pieces = at_line_start (spaces s) r.text ∷ r.pieces;
        spelled = line-text s (spaces-append s t b.not_end) (pattern_ends-append s t b.not_end ∙ h) (begins-at w (begins-later t (joint-whole k) b)) (text-at w r.spelled) r.others;
        later = start-later (spaces s) r.later;
      }
  line-later (line_of_placeable {s = s} {u = u} h p d) {blanks} {x} e j l o =
      let t = blanks ++ x in
      let some = alike-some (placeable-moves p []).1 in
      let k = lined-some some (spaces-lined s j) in
      let r = pieces-later d e (alike-joint (placeable-moves p []).1 (omega arith) refl k) l o in
      let p' = placeable-moves p (u ++ t) in
      record {
        pieces = placed (spaces s == 0) _ ∷ r.pieces;
        spelled = line-placeable s (spaces-append s t some) (pattern_ends-append s t some ∙ h) (placeable-at (skip_spaces-append s t some ∙ sym (alike-append t p'.1)) p'.2) r.spelled;
        later = alike _ r.later;
      }
  line-later (line_of_crlf {s = s} h c d) {blanks} {x} e j l o =
      let t = blanks ++ x in
      let some : skip_spaces s ≢ [] = λ z. absurd (let q : begins_crlf [] ≡ true = rw z at c in cc) in
      let k = lined-some some (spaces-lined s j) in
      let w = skip_spaces-append s t some in
      let r = pieces-later d e k l o in
      record { pieces = r.pieces; spelled = line_of_crlf (pattern_ends-append s t some ∙ h) (ap begins_crlf w ∙ crlf-kept (skip_spaces s) t c) (pieces-at w r.spelled); later = r.later }

  pub behind-later : {ends : Bool} {ps : List Piece} {u rest : Text} → SpellsBehindText ends ps u rest → {piece s : Text} → SpellsText piece s u → {blanks x : Text} → ends_line piece ≡ ends → rest ≡ [] → Joint blanks s →
      BlankLines blanks → Over x → TextLater piece ps s (blanks ++ x) x
  behind-later (next_line {s = u} d) {piece} y {blanks} {x} n e j l o =
      let t = blanks ++ x in
      let y' = text-ended y {x = u} {x' = u ++ t} n here in
      let r = line-later d e (alike-lined y'.1 (omega arith) j) l o in
      record { text = piece; left = u ++ t; pieces = r.pieces; spelled = text-at (sym (alike-append t y'.1)) y'.2; others = behind-at n (next_line r.spelled); later = same_piece r.later }
  behind-later (same_line {s = u} d) {piece} {s} y {blanks} {x} n e j l o =
      elim (text-stops y n (joint-whole j)) [
        | at_byte c w a h f ↦
            let k = joint-at (sym h) (joint-suffix piece c w a (joint-at (text-split y ∙ ap (λ z. piece ++ z) h) j)) in
            let r = pieces-later d e k l o in
            record { text = piece; left = u ++ (blanks ++ x); pieces = r.pieces; spelled = f (blanks ++ x); others = behind-at n (same_line r.spelled); later = same_piece r.later }
        | at_the_end h f ↦ last-later (pieces-none d h) (text-split y) h n f j o
      ]
