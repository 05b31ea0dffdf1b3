-- The characters of a text, one after the other.
use Rattle.std.proofs.Common.{◌≡◌, ◌∙◌, ℕ, suc, ◌+◌, ◌<◌, Bool, true, false, if◌then◌else◌, List, ◌∷◌, ◌++◌, length, map, drop, get_or, refl, sym, ap, append_assoc, add-one, drop-cons}
use Rattle.std.specs.Prelude.{◌==◌, ◌&&◌}
use Rattle.fluent_grammar.specs.Words.{Text, line_feed, begins_with}
use Rattle.lint_findings.specs.View.{remark_view}
use Rattle.lint_findings.specs.declared.remark.Remark.{Remark}
use Rattle.lint_findings.specs.Letters.{letters_from, letter_at, placed, begins_after, depth_after, is_ended, closes}

first_of : (n : ℕ) (b : Bool) (d : ℕ) (t : Text) (y : ℕ) (ys : Text) → t ≡ y ∷ ys →
    letters_from n b d t ≡ placed n (letter_at b d t) ++ letters_from (suc n) (begins_after b y) (depth_after d t) ys
first_of n b d t y ys e = rw e refl

-- of the end of a text from a place on
letters_at : (s : Text) (i : ℕ) (b : Bool) (d : ℕ) (t : Text) (x : ℕ) → i < length s → t ≡ drop i s → x ≡ get_or s i 0 →
    letters_from i b d (drop i s) ≡ placed i (letter_at b d t) ++ letters_from (i + 1) (begins_after b x) (depth_after d t) (drop (i + 1) s)
letters_at s i b d t x inside is read =
    first_of i b d (drop i s) (get_or s i 0) (drop (suc i) s) (drop-cons s i 0 inside) ∙ rw (is, read, add-one) refl

-- those of the character at a place are added
pub letters_added : (s : Text) (i : ℕ) (b : Bool) (d : ℕ) (t : Text) (x : ℕ) (old new : List Remark) → i < length s → t ≡ drop i s → x ≡ get_or s i 0 →
    map remark_view new ≡ map remark_view old ++ placed i (letter_at b d t) →
    map remark_view new ++ letters_from (i + 1) (begins_after b x) (depth_after d t) (drop (i + 1) s) ≡ map remark_view old ++ letters_from i b d (drop i s)
letters_added s i b d t x old new inside is read added =
    let rest = letters_from (i + 1) (begins_after b x) (depth_after d t) (drop (i + 1) s) in
    ap (λ z. z ++ rest) added ∙ append_assoc (map remark_view old) (placed i (letter_at b d t)) rest
    ∙ ap (λ z. map remark_view old ++ z) (sym (letters_at s i b d t x inside is read))

ended_by : (d : ℕ) (t : Text) (y : ℕ) (ys : Text) → t ≡ y ∷ ys → begins_with line_feed t ≡ false → (closes t && d == 0) ≡ false → is_ended d t ≡ is_ended (depth_after d t) ys
ended_by d t y ys e feed ends =
    ap (is_ended d) e
    ∙ ap (λ b. if b then false else if closes (y ∷ ys) && d == 0 then true else is_ended (depth_after d (y ∷ ys)) ys) (ap (begins_with line_feed) (sym e) ∙ feed)
    ∙ ap (λ b. if b then true else is_ended (depth_after d (y ∷ ys)) ys) (ap (λ x. closes x && d == 0) (sym e) ∙ ends)
    ∙ ap (λ x. is_ended (depth_after d x) ys) (sym e)

-- a mark isn't ended at a place of a text
pub ended_next : (s : Text) (i : ℕ) (d : ℕ) → i < length s → begins_with line_feed (drop i s) ≡ false → (closes (drop i s) && d == 0) ≡ false →
    is_ended d (drop i s) ≡ is_ended (depth_after d (drop i s)) (drop (i + 1) s)
ended_next s i d inside feed ends =
    ended_by d (drop i s) (get_or s i 0) (drop (suc i) s) (drop-cons s i 0 inside) feed ends ∙ rw (add-one) refl
