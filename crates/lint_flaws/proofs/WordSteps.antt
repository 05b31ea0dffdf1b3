-- The words of a text, and those of one script.
use Rattle.std.proofs.Common.{◌≡◌, ◌∙◌, ℕ, suc, ◌+◌, ◌<◌, Bool, true, false, if◌then◌else◌, List, [], ◌∷◌, ◌++◌, length, map, drop, get_or, Option, Some, None, refl, sym, ap, append_assoc, add-one, drop-cons, cond, arith}
use Rattle.std.specs.Prelude.{◌==◌, ◌||◌, not, nat_le, filter, is_some}
use Rattle.std.specs.List.{prefix_len}
use Rattle.fluent_grammar.specs.Words.{Text, is_letter}
use Rattle.lint_findings.specs.View.{remark_view}
use Rattle.lint_findings.specs.declared.remark.Remark.{Remark}
use Rattle.lint_findings.specs.Scripts.{Letter, Script, latin, greek, cyrillic, ascii_letter, count, goes_on, if_mixed, is_same, letters_at, mixed, pair_number, pair_script, script_at, with_pair, word_remarks, words_from}
use Rattle.lint_flaws.specs.Letters.{word_if_begins}

-- ---- word after word

first_of : (n : ℕ) (within : Bool) (t : Text) (y : ℕ) (ys : Text) → t ≡ y ∷ ys →
    words_from n within t ≡ word_if_begins within n t ++ words_from (suc n) (goes_on within t) ys
first_of n within t y ys e = rw e refl

-- that of the word at a place is added
pub word_added : (s : Text) (i : ℕ) (within : Bool) (t : Text) (old new : List Remark) → i < length s → t ≡ drop i s →
    map remark_view new ≡ map remark_view old ++ word_if_begins within i t →
    map remark_view new ++ words_from (i + 1) (goes_on within t) (drop (i + 1) s) ≡ map remark_view old ++ words_from i within (drop i s)
word_added s i within t old new inside is added =
    let rest = words_from (i + 1) (goes_on within t) (drop (i + 1) s) in
    let step : words_from i within (drop i s) ≡ word_if_begins within i t ++ rest =
    first_of i within (drop i s) (get_or s i 0) (drop (suc i) s) (drop-cons s i 0 inside) ∙ rw (is, add-one) refl in
    ap (λ z. z ++ rest) added ∙ append_assoc (map remark_view old) (word_if_begins within i t) rest ∙ ap (λ z. map remark_view old ++ z) (sym step)

-- ---- words of ASCII letters alone

-- of no letters but Latin ones
abbrev pub IsLatin : List Letter → Type 0
IsLatin ls = (x : Script) → is_same x latin ≡ false → count x ls ≡ 0

pub cons_latin : (n c : ℕ) (ls : List Letter) → IsLatin ls → IsLatin (ascii_letter n c ∷ ls)
cons_latin n c ls there x other =
    ap (λ b. length (cond b (ascii_letter n c ∷ filter (λ (l : Letter). is_same x l.script) ls) (filter (λ (l : Letter). is_same x l.script) ls))) other ∙ there x other

pub if_latin : (b : Bool) (ls ks : List Letter) → (b ≡ true → IsLatin ls) → (b ≡ false → IsLatin ks) → IsLatin (if b then ls else ks)
if_latin true ls ks here there = here refl
if_latin false ls ks here there = there refl

pub none_latin : IsLatin []
none_latin x other = refl

pair_latin : (o : Option Script) (n c d : ℕ) (ls : List Letter) → o ≡ None → IsLatin (with_pair n c d ls o)
pair_latin None n c d ls none = none_latin
pair_latin (Some x) n c d ls none = absurd cc

-- a Latin letter, or none
latin_first : (x : Script) (n c d : ℕ) (ls : List Letter) → x ≡ latin → IsLatin ls → IsLatin (with_pair n c d ls (Some x))
latin_first x n c d ls same there y other =
    ap (λ b. length (cond b (record { script = x; number = pair_number c d; before = n } ∷ filter (λ (l : Letter). is_same y l.script) ls) (filter (λ (l : Letter). is_same y l.script) ls))) (ap (is_same y) same ∙ other) ∙ there y other

pub pair_latin_too : (b : Bool) (o : Option Script) (n c d : ℕ) (ls : List Letter) → o ≡ (if b then Some latin else None) → IsLatin ls → IsLatin (with_pair n c d ls o)
pair_latin_too true None n c d ls is there = absurd cc
pair_latin_too true (Some x) n c d ls is there =
    let same : x ≡ latin = cc in
    latin_first x n c d ls same there
pair_latin_too false None n c d ls is there = none_latin
pair_latin_too false (Some x) n c d ls is there = absurd cc

-- a letter is passed
later : (b : Bool) (k c : ℕ) (s : Text) → b ≡ true → script_at (drop (cond b (1 + k) 0) (c ∷ s)) ≡ None → script_at (drop k s) ≡ None
later true k c s test none =
    let e : 1 + k ≡ suc k = omega arith in
    rw e at none
later false k c s test none = absurd cc

-- there is no letter
here_none : (b : Bool) (k c d : ℕ) (s : Text) → b ≡ false → script_at (drop (cond b (1 + k) 0) (c ∷ d ∷ s)) ≡ None → is_letter c ≡ false → pair_script c d ≡ None
here_none true k c d s test none other = absurd cc
here_none false k c d s test none other = ap (λ b. if b then Some latin else pair_script c d) (sym other) ∙ none

latin_alone : (n : ℕ) (text : Text) → script_at (drop (prefix_len is_letter text) text) ≡ None → IsLatin (letters_at n text)
latin_alone n [] none = none_latin
latin_alone n (c ∷ []) none =
    if_latin (is_letter c) (ascii_letter n c ∷ []) [] (λ h. cons_latin n c [] none_latin) (λ h. none_latin)
latin_alone n (c ∷ d ∷ s) none =
    if_latin (is_letter c) (ascii_letter n c ∷ letters_at (suc n) (d ∷ s)) (with_pair n c d (letters_at (suc (suc n)) s) (pair_script c d))
    (λ h. cons_latin n c (letters_at (suc n) (d ∷ s)) (latin_alone (suc n) (d ∷ s) (later (is_letter c) (prefix_len is_letter (d ∷ s)) c (d ∷ s) h none)))
    (λ h. pair_latin (pair_script c d) n c d (letters_at (suc (suc n)) s) (here_none (is_letter c) (prefix_len is_letter (d ∷ s)) c d s h none h))

unmixed : (n : ℕ) (x y : Script) (ls : List Letter) → count x ls ≡ 0 → mixed n x y ls ≡ []
unmixed n x y ls none =
    ap (λ k. if_mixed n x y ls (if k == 0 || count y ls == 0 then None else if nat_le k (count y ls) then Some x else Some y)) none

-- Nothing is said of such a word.
pub nothing_of_these : (n : ℕ) (ls : List Letter) → IsLatin ls → word_remarks n ls ≡ []
nothing_of_these n ls alone =
    ap (λ z. z ++ (mixed n greek latin ls ++ mixed n cyrillic greek ls)) (unmixed n cyrillic latin ls (alone cyrillic refl))
    ∙ ap (λ z. z ++ mixed n cyrillic greek ls) (unmixed n greek latin ls (alone greek refl)) ∙ unmixed n cyrillic greek ls (alone cyrillic refl)

pub nothing_of_latin : (n : ℕ) (text : Text) → script_at (drop (prefix_len is_letter text) text) ≡ None → word_remarks n (letters_at 0 text) ≡ []
nothing_of_latin n text none = nothing_of_these n (letters_at 0 text) (latin_alone 0 text none)

none_of : (o : Option Script) → not (is_some o) ≡ true → o ≡ None
none_of None h = refl
none_of (Some x) h = absurd cc

-- what is said where no word begins
pub nothing_within : (n : ℕ) (text : Text) (within : Bool) → within ≡ true → word_if_begins within n text ≡ []
nothing_within n text within h = ap (λ b. word_if_begins b n text) h

pub nothing_alone : (n : ℕ) (text : Text) (within : Bool) → not (is_some (script_at (drop (prefix_len is_letter text) text))) ≡ true → word_if_begins within n text ≡ []
nothing_alone n text true h = refl
nothing_alone n text false h = nothing_of_latin n text (none_of (script_at (drop (prefix_len is_letter text) text)) h)
