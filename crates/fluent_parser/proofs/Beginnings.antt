-- Where the parts of what is left of a source begin, one by one.
use Rattle.std.proofs.Common.{◌≡◌, ℕ, zero, suc, ◌+◌, ◌-◌, ◌<◌, ◌≤◌, Bool, true, false, cond, List, [], ◌∷◌, ◌++◌, length, refl, sym, ap, ◌∙◌, arith, append_assoc}
use Rattle.std.specs.Prelude.{◌==◌}
use Rattle.std.proofs.lemmas.Bool.Decides.{nat_tests}
use Rattle.fluent_grammar.specs.Words.{Text, skip_blank_block}
use Rattle.fluent_grammar.specs.Refusal.{Reading, got, refused}
use Rattle.fluent_grammar.specs.Tree as t
use Rattle.fluent_grammar.specs.Reading.{entry_at}
use Rattle.fluent_grammar.proofs.Within.{end-same, end-le, end-blank_block}
use Rattle.fluent_grammar.proofs.TilesJunk.{junk-end}
use Rattle.fluent_parsed.proofs.CollectedEntries.{test_some}
use Rattle.fluent_parser.specs.Parts.{behind_piece}
use Rattle.fluent_parser.specs.Starts.{starts_from, starts_left, starts}
use Rattle.fluent_parser.proofs.Parts.{entry_less}

empty : (n : ℕ) → n ≡ 0 → (n == 0) ≡ true
empty n h = grind (arith, nat_tests)

some : (n : ℕ) → 0 < n → (n == 0) ≡ false
some n h = grind (arith, nat_tests)

blank_le : (s u : Text) → u ≡ skip_blank_block s → length u ≤ length s
blank_le s u e = omega (arith, ap length e, end-le (end-blank_block (end-same s)))

behind_less : (u : Text) (x : Reading t.Entry) → entry_at u ≡ x → 0 < length u → length (behind_piece u x) < length u
behind_less u (got e rest) h z = entry_less u e rest h
behind_less [] (refused fault) h z = absurd (omega (arith, z))
behind_less (c ∷ cs) (refused fault) h z = omega (arith, end-le (junk-end c cs fault h))

by_test : (b : Bool) (x : ℕ) (xs ys : List ℕ) → (b ≡ false → xs ≡ ys) → cond b [] (x ∷ xs) ≡ cond b [] (x ∷ ys)
by_test true x xs ys f = refl
by_test false x xs ys f = ap (λ z. x ∷ z) (f refl)

-- as many steps as a text has bytes, and one, are enough
enough : (m n at : ℕ) (s : Text) → length s < m → length s < n → starts_from m at s ≡ starts_from n at s
unfolding starts_from
enough zero n at s h k = absurd (omega (arith, h))
enough (suc m) zero at s h k = absurd (omega (arith, k))
enough (suc m) (suc n) at s h k =
    let u = skip_blank_block s in
    let rest = behind_piece u (entry_at u) in
    let le = blank_le s u refl in
    by_test (length u == 0) _ _ _ (λ b. enough m n _ rest
    (omega (arith, h, le, behind_less u (entry_at u) refl (test_some (length u) b)))
    (omega (arith, k, le, behind_less u (entry_at u) refl (test_some (length u) b))))

-- a part that begins here, and those after it, in so many steps
abbrev part_from : ℕ → ℕ → Text → List ℕ
part_from n here u = here ∷ starts_from n (here + (length u - length (behind_piece u (entry_at u)))) (behind_piece u (entry_at u))

pub no_start_left : (total : ℕ) (s u : Text) → u ≡ skip_blank_block s → length u ≡ 0 → starts_left total s ≡ []
unfolding starts_left starts_from
no_start_left total s u e z =
    let v = skip_blank_block s in
    ap (λ (b : Bool). cond b [] (part_from (length s) (total - length s + (length s - length v)) v)) (empty (length v) (omega (arith, ap length e)))

pub start_left : (total : ℕ) (s u rest : Text) → length s ≤ total → u ≡ skip_blank_block s → 0 < length u → rest ≡ behind_piece u (entry_at u) → length rest < length u
    → starts_left total s ≡ (total - length u) ∷ starts_left total rest
unfolding starts_left starts_from
start_left total s u rest h e z f less =
    let le = blank_le s u e in
    let here : total - length s + (length s - length u) ≡ total - length u = omega arith in
    let next : total - length u + (length u - length rest) ≡ total - length rest = omega arith in
    ap (λ (v : Text). cond (length v == 0) [] (part_from (length s) (total - length s + (length s - length v)) v)) (sym e)
    ∙ ap (λ (b : Bool). cond b [] (part_from (length s) (total - length s + (length s - length u)) u)) (some (length u) z)
    ∙ ap (λ (n : ℕ). part_from (length s) n u) here
    ∙ ap (λ (v : Text). (total - length u) ∷ starts_from (length s) (total - length u + (length u - length v)) v) (sym f)
    ∙ ap (λ (n : ℕ). (total - length u) ∷ starts_from (length s) n rest) next
    ∙ ap (λ (l : List ℕ). (total - length u) ∷ l) (enough (length s) (suc (length rest)) (total - length rest) rest (omega arith) (omega arith))

all_starts : (s : Text) → starts_left (length s) s ≡ starts s
unfolding starts_left
all_starts s = let z : length s - length s ≡ 0 = omega arith in ap (λ (n : ℕ). starts_from (suc (length s)) n s) z

-- the starts of a whole source, by the text that a parser holds
pub whole_starts : (source text rest : Text) → text ≡ source → rest ≡ source → starts_left (length text) rest ≡ starts source
whole_starts source text rest e f = ap (λ (v : Text). starts_left (length v) rest) e ∙ ap (starts_left (length source)) f ∙ all_starts source

-- one more start was found
pub one_more_start : (found more all : List ℕ) (start : ℕ) (left rest : List ℕ) → left ≡ start ∷ rest → found ++ left ≡ all → more ≡ found ++ start ∷ [] → more ++ rest ≡ all
one_more_start found more all start left rest e h m = ap (λ z. z ++ rest) m ∙ append_assoc found (start ∷ []) rest ∙ ap (λ z. found ++ z) (sym e) ∙ h
