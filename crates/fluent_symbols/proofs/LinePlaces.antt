-- What follows a line, by counts of bytes; and the end of lines, one by one.
use Rattle.std.proofs.Common.{◌≡◌, ◌∙◌, ℕ, suc, ◌+◌, ◌<◌, Bool, true, false, if◌then◌else◌, List, [], ◌∷◌, length, drop, get_or, map, ap, sym, arith, drop-cons}
use Rattle.std.proofs.Math.Nat.{not-suc-le-zero}
use Rattle.std.proofs.Math.Seq.{drop-length}
use Rattle.std.proofs.lemmas.Bool.{eq-eqb, ne_eqb}
use Rattle.std.specs.Prelude.{◌==◌, unwrap_or, Some, None}
use Rattle.fluent_grammar.specs.Words.{Text, after_line_end}
use Rattle.fluent_tokens.specs.Counted.{IsLine, IsLineEnd}
use Rattle.fluent_symbols.specs.Node.{line_end, lines_end, next_line}

after_line : (s end : Text) (n k : ℕ) (b : Bool) → IsLine s n → end ≡ drop n s → IsLineEnd end k → (k == 0) ≡ b →
    next_line s ≡ unwrap_or (if b then None else Some (drop k end)) []
after_line s end n k b line e ended is =
    ap (λ p. p.1) line ∙ ap (λ t. unwrap_or (after_line_end t) []) (sym e) ∙ ap (λ o. unwrap_or o []) ended
    ∙ ap (λ z. unwrap_or (if z then None else Some (drop k end)) []) is

pub next_of_last : (s end : Text) (n k : ℕ) → IsLine s n → end ≡ drop n s → IsLineEnd end k → k ≡ 0 → drop (length end) end ≡ next_line s
next_of_last s end n k line e ended is = drop-length end ∙ sym (after_line s end n k true line e ended (eq-eqb k 0 is))

pub next_of_other : (s end : Text) (n k : ℕ) → IsLine s n → end ≡ drop n s → IsLineEnd end k → (k ≡ 0 → ⊥) → drop k end ≡ next_line s
next_of_other s end n k line e ended is = sym (after_line s end n k false line e ended (ne_eqb k 0 is))

-- one more line
lines_more : {A : Type 0} (lines : List A) (view : A → Text) (i : ℕ) (before s : Text) → i < length lines →
    lines_end before (map view (drop i lines)) s ≡ lines_end (line_end s) (map view (drop (i + 1) lines)) (next_line s)
lines_more [] view i before s within = absurd (not-suc-le-zero within)
lines_more (line ∷ lines) view i before s within =
    let next : suc i ≡ i + 1 = omega arith in
    ap (λ ls. lines_end before (map view ls) s) (drop-cons (line ∷ lines) i line within)
    ∙ ap (λ n. lines_end (line_end s) (map view (drop n (line ∷ lines))) (next_line s)) next

-- A loop that has the end of the lines up to one has it after that line too.
pub end_kept : {A : Type 0} (lines : List A) (view : A → Text) (i : ℕ) (before s end rest whole : Text) → i < length lines → end ≡ line_end s → rest ≡ next_line s →
    lines_end before (map view (drop i lines)) s ≡ whole → lines_end end (map view (drop (i + 1) lines)) rest ≡ whole
end_kept lines view i before s end rest whole within ends follows kept =
    ap (λ e. lines_end e (map view (drop (i + 1) lines)) rest) ends
    ∙ ap (λ t. lines_end (line_end s) (map view (drop (i + 1) lines)) t) follows
    ∙ sym (lines_more lines view i before s within)
    ∙ kept
