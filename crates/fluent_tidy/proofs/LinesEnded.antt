-- A text that is empty or ends in a line feed, and what is put after it.
use Rattle.std.proofs.Common.{◌≡◌, ℕ, Bool, true, false, cond, [], ◌∷◌, ◌++◌, length, refl, sym, ap, ◌∙◌, append_assoc, append-nil}
use Rattle.fluent_grammar.specs.Words.{Text, line_feed}
use Rattle.fluent_grammar.specs.Lines.{ends_line}
use Rattle.fluent_tidy_laws.specs.Joined.{line_ended}

-- nothing, or lines
abbrev pub are_lines : Text → Bool
are_lines [] = true
are_lines (c ∷ cs) = ends_line (c ∷ cs)

ends-behind : (a : Text) (d : ℕ) (ds : Text) → ends_line (a ++ d ∷ ds) ≡ ends_line (d ∷ ds)
ends-behind [] d ds = refl
ends-behind (c ∷ []) d ds = refl
ends-behind (c ∷ b ∷ bs) d ds = ends-behind (b ∷ bs) d ds

lines-of : (s : Text) → are_lines s ≡ true → line_ended s ≡ s
lines-of [] e = refl
lines-of (c ∷ cs) e = rw e refl

pub line_ended-lines : (s : Text) → are_lines (line_ended s) ≡ true
line_ended-lines [] = refl
line_ended-lines (c ∷ cs) = by_end (ends_line (c ∷ cs)) refl
  where
    by_end : (b : Bool) → ends_line (c ∷ cs) ≡ b → are_lines (cond b (c ∷ cs) ((c ∷ cs) ++ (line_feed ∷ []))) ≡ true
    by_end true e = e
    by_end false e = ends-behind (c ∷ cs) line_feed []

chosen : (b : Bool) (a x y : Text) → cond b (a ++ x) (a ++ y) ≡ a ++ cond b x y
chosen true a x y = refl
chosen false a x y = refl

-- after lines the line feed is put where it would be put alone
pub line_ended-behind : (a b : Text) → are_lines a ≡ true → line_ended (a ++ b) ≡ a ++ line_ended b
line_ended-behind [] b e = refl
line_ended-behind (c ∷ cs) [] e = ap line_ended (append-nil (c ∷ cs)) ∙ lines-of (c ∷ cs) e ∙ sym (append-nil (c ∷ cs))
line_ended-behind (c ∷ cs) (d ∷ ds) e =
    ap (λ b. cond b ((c ∷ cs) ++ d ∷ ds) (((c ∷ cs) ++ d ∷ ds) ++ (line_feed ∷ []))) (ends-behind (c ∷ cs) d ds)
    ∙ ap (λ z. cond (ends_line (d ∷ ds)) ((c ∷ cs) ++ d ∷ ds) z) (append_assoc (c ∷ cs) (d ∷ ds) (line_feed ∷ []))
    ∙ chosen (ends_line (d ∷ ds)) (c ∷ cs) (d ∷ ds) ((d ∷ ds) ++ (line_feed ∷ []))

-- what code does: nothing after lines, and else a line feed
pub lines-stay : (s : Text) → length s ≡ 0 → s ≡ line_ended s
lines-stay [] e = refl
lines-stay (c ∷ cs) e = absurd cc

pub ended-stays : (s : Text) → ends_line s ≡ true → s ≡ line_ended s
ended-stays [] e = absurd cc
ended-stays (c ∷ cs) e = rw e refl

pub feed-added : (s : Text) → (length s ≡ 0 → ⊥) → ends_line s ≡ false → s ++ line_feed ∷ [] ≡ line_ended s
feed-added [] some e = absurd (some refl)
feed-added (c ∷ cs) some e = rw e refl
