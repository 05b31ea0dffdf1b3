-- The longest run of bytes that pass is the one that `prefix_len` counts.
use Rattle.std.proofs.Common.{◌≡◌, ℕ, suc, Bool, true, false, [], ◌∷◌, ◌++◌, length, take, drop, refl, sym, ap, ◌∙◌, arith, one-add, take-append-drop}
use Rattle.std.specs.List.{prefix_len, list_all}
use Rattle.std.proofs.Math.Seq.{take-append_seam, drop-append_seam}
use Rattle.fluent_grammar.specs.Words.{Text, begins}
use Rattle.fluent_grammar.specs.Lexical.{IsLongestRun}

prefix_yes : (p : ℕ → Bool) (c : ℕ) (cs : Text) → p c ≡ true → prefix_len p (c ∷ cs) ≡ suc (prefix_len p cs)
prefix_yes p c cs e = rw (e, one-add) refl

prefix_no : (p : ℕ → Bool) (c : ℕ) (cs : Text) → p c ≡ false → prefix_len p (c ∷ cs) ≡ 0
prefix_no p c cs e = rw e refl

passing-step : (p : ℕ → Bool) (c : ℕ) (cs : Text) (b : Bool) → p c ≡ b → list_all p (take (prefix_len p cs) cs) ≡ true → list_all p (take (prefix_len p (c ∷ cs)) (c ∷ cs)) ≡ true
passing-step p c cs true e ih = rw (prefix_yes p c cs e, e) ih
passing-step p c cs false e ih = rw (prefix_no p c cs e) refl

passing : (p : ℕ → Bool) (s : Text) → list_all p (take (prefix_len p s) s) ≡ true
passing p [] = refl
passing p (c ∷ cs) = passing-step p c cs (p c) refl (passing p cs)

longest-step : (p : ℕ → Bool) (c : ℕ) (cs : Text) (b : Bool) → p c ≡ b → begins p (drop (prefix_len p cs) cs) ≡ false → begins p (drop (prefix_len p (c ∷ cs)) (c ∷ cs)) ≡ false
longest-step p c cs true e ih = rw (prefix_yes p c cs e) ih
longest-step p c cs false e ih = rw (prefix_no p c cs e) e

longest : (p : ℕ → Bool) (s : Text) → begins p (drop (prefix_len p s) s) ≡ false
longest p [] = refl
longest p (c ∷ cs) = longest-step p c cs (p c) refl (longest p cs)

pub run_counted : (p : ℕ → Bool) (s : Text) → IsLongestRun p (take (prefix_len p s) s) s (drop (prefix_len p s) s)
run_counted p s = record { split = sym (take-append-drop (prefix_len p s) s); passing = passing p s; longest = longest p s }

counted-no : (p : ℕ → Bool) (rest : Text) → begins p rest ≡ false → prefix_len p rest ≡ 0
counted-no p [] e = refl
counted-no p (c ∷ cs) e = prefix_no p c cs e

counted : (p : ℕ → Bool) (run rest : Text) → list_all p run ≡ true → begins p rest ≡ false → prefix_len p (run ++ rest) ≡ length run
counted p [] rest all stops = counted-no p rest stops
counted p (c ∷ cs) rest all stops =
    let here : p c ≡ true = grind arith in
    let more : list_all p cs ≡ true = grind arith in
    prefix_yes p c (cs ++ rest) here ∙ ap suc (counted p cs rest more stops)

pub count_of_run : {p : ℕ → Bool} {run s rest : Text} → IsLongestRun p run s rest → prefix_len p s ≡ length run
count_of_run {p} {run} {s} {rest} r = rw r.split (counted p run rest r.passing r.longest)

pub take_run : {p : ℕ → Bool} {run s rest : Text} → IsLongestRun p run s rest → take (prefix_len p s) s ≡ run
take_run {p} {run} {s} {rest} r = rw (count_of_run r) (rw r.split (take-append_seam run rest))

pub drop_run : {p : ℕ → Bool} {run s rest : Text} → IsLongestRun p run s rest → drop (prefix_len p s) s ≡ rest
drop_run {p} {run} {s} {rest} r = rw (count_of_run r) (rw r.split (drop-append_seam run rest))
