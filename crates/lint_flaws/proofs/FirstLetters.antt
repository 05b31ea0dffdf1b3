-- The letter at the front of a text, before the others of its word.
use Rattle.std.proofs.Common.{◌≡◌, ◌∙◌, ℕ, suc, ◌+◌, ◌<◌, ◌≤◌, Bool, true, false, if◌then◌else◌, List, [], ◌∷◌, length, drop, get_or, Option, Some, None, refl, sym, ap, arith}
use Rattle.fluent_grammar.specs.Words.{Text, is_letter}
use Rattle.lint_findings.specs.Scripts.{Letter, Script, ascii_letter, first_letter, is_same, letters_at, pair_number, pair_script, with_pair}

if_true : {X : Type 0} (b : Bool) (x y : X) → b ≡ true → (if b then x else y) ≡ x
if_true true x y h = refl
if_true false x y h = absurd cc

if_false : {X : Type 0} (b : Bool) (x y : X) → b ≡ false → (if b then x else y) ≡ y
if_false true x y h = absurd cc
if_false false x y h = refl

abbrev pub letter_from : Script → ℕ → ℕ → Letter
letter_from x number n = record { script = x; number = number; before = n }

pub ascii_first : (n : ℕ) (text : Text) → 1 ≤ length text → is_letter (get_or text 0 0) ≡ true →
    letters_at n text ≡ ascii_letter n (get_or text 0 0) ∷ letters_at (n + 1) (drop 1 text)
ascii_first n [] some h = absurd (omega (arith, some))
ascii_first n (c ∷ []) some h = if_true (is_letter c) (ascii_letter n c ∷ []) [] h
ascii_first n (c ∷ d ∷ s) some h =
    let e : n + 1 ≡ suc n = omega arith in
    if_true (is_letter c) (ascii_letter n c ∷ letters_at (suc n) (d ∷ s)) (with_pair n c d (letters_at (suc (suc n)) s) (pair_script c d)) h
    ∙ ap (λ m. ascii_letter n c ∷ letters_at m (d ∷ s)) (sym e)

pub pair_first : (n : ℕ) (text : Text) (x : Script) → 2 ≤ length text → is_letter (get_or text 0 0) ≡ false →
    pair_script (get_or text 0 0) (get_or text 1 0) ≡ Some x →
    letters_at n text ≡ letter_from x (pair_number (get_or text 0 0) (get_or text 1 0)) n ∷ letters_at (n + 2) (drop 2 text)
pair_first n [] x some h found = absurd (omega (arith, some))
pair_first n (c ∷ []) x some h found = absurd (omega (arith, some))
pair_first n (c ∷ d ∷ s) x some h found =
    let e : n + 2 ≡ suc (suc n) = omega arith in
    if_false (is_letter c) (ascii_letter n c ∷ letters_at (suc n) (d ∷ s)) (with_pair n c d (letters_at (suc (suc n)) s) (pair_script c d)) h
    ∙ ap (with_pair n c d (letters_at (suc (suc n)) s)) found
    ∙ ap (λ m. letter_from x (pair_number c d) n ∷ letters_at m s) (sym e)

-- ---- where the first letter of a script stands

-- each first letter of a script stands before this place
abbrev pub AreBefore : ℕ → List Letter → Type 0
AreBefore m ls = (x : Script) (l : Letter) → first_letter x ls ≡ Some l → l.before < m

none_before : (m : ℕ) → AreBefore m []
none_before m x l found = absurd cc

one_before : (b : Bool) (m : ℕ) (a l : Letter) (later : Option Letter) → a.before < m → (later ≡ Some l → l.before < m) →
    (if b then Some a else later) ≡ Some l → l.before < m
one_before true m a l later here there found =
    let same : a ≡ l = cc in
    rw (← same) here
one_before false m a l later here there found = there found

cons_before : (m : ℕ) (a : Letter) (ls : List Letter) → a.before < m → AreBefore m ls → AreBefore m (a ∷ ls)
cons_before m a ls here there x l found =
    one_before (is_same x a.script) m a l (first_letter x ls) here (there x l) found

if_before : (b : Bool) (m : ℕ) (ls ks : List Letter) → AreBefore m ls → AreBefore m ks → AreBefore m (if b then ls else ks)
if_before true m ls ks here there = here
if_before false m ls ks here there = there

pair_before : (o : Option Script) (m n c d : ℕ) (ls : List Letter) → n < m → AreBefore m ls → AreBefore m (with_pair n c d ls o)
pair_before None m n c d ls here there = none_before m
pair_before (Some x) m n c d ls here there =
    cons_before m (letter_from x (pair_number c d) n) ls here there

-- Each letter stands within the text.
pub letters_before : (m n : ℕ) (text : Text) → n + length text ≤ m → AreBefore m (letters_at n text)
letters_before m n [] le = none_before m
letters_before m n (c ∷ []) le =
    if_before (is_letter c) m (ascii_letter n c ∷ []) [] (cons_before m (ascii_letter n c) [] (omega (arith, le)) (none_before m)) (none_before m)
letters_before m n (c ∷ d ∷ s) le =
    if_before (is_letter c) m (ascii_letter n c ∷ letters_at (suc n) (d ∷ s)) (with_pair n c d (letters_at (suc (suc n)) s) (pair_script c d))
    (cons_before m (ascii_letter n c) (letters_at (suc n) (d ∷ s)) (omega (arith, le)) (letters_before m (suc n) (d ∷ s) (omega (arith, le))))
    (pair_before (pair_script c d) m n c d (letters_at (suc (suc n)) s) (omega (arith, le)) (letters_before m (suc (suc n)) s (omega (arith, le))))
