-- The text of a plain line.
use Rattle.std.proofs.Common.{◌≡◌, ℕ, suc, ◌+◌, ◌-◌, Bool, true, false, not, ◌&&◌, ◌||◌, [], ◌∷◌, take, drop, refl, sym, ap, ◌∙◌, arith, subst}
use Rattle.std.specs.Prelude.{◌==◌, Ok}
use Rattle.std.specs.Int.{from_bool}
use Rattle.fluent_grammar.specs.Words.{Text, line_feed, carriage_return, open_brace, close_brace, begins_with}
use Rattle.fluent_grammar.specs.Refusal.{got}
use Rattle.fluent_grammar.specs.Reading.{text_run, before}
use Rattle.fluent_tokens.specs.Counted.{Cuts, IsText, is_no_brace, is_plain}
use Rattle.fluent_tokens.proofs.Counted.{cut_by_ascii}
use Rattle.fluent_tokens.proofs.Scanned.{test_of, begins_at}
use Rattle.fluent_tokens.specs.Lookup.{with_line_feed}
use Rattle.fluent_tokens.proofs.LineEnds.{line_len, at_feed, at_crlf, at_other, line_cuts}
use Rattle.fluent_tokens.proofs.OneByOne.{both}

-- ---- the run
abbrev Runs : Text → ℕ → Type 0
Runs s n = text_run s ≡ got (take n s) (drop n s)

pub neither : (a b : Bool) → not (a || b) ≡ true → (a ≡ false) × (b ≡ false)
neither false false h = (refl, refl)
neither false true h = absurd cc
neither true b h = absurd cc

run_feed : (c : ℕ) (cs : Text) → (c == line_feed) ≡ true → Runs (c ∷ cs) (with_line_feed 0 (c ∷ cs))
unfolding text_run
run_feed c cs e = let x : c ≡ 10 = test_of c 10 e in rw x refl

run_crlf : (c : ℕ) (cs : Text) → (c == carriage_return && begins_with line_feed cs) ≡ true → Runs (c ∷ cs) (with_line_feed 0 (c ∷ cs))
unfolding text_run
run_crlf c cs e =
    let k = both (c == carriage_return) (begins_with line_feed cs) e in
    let x : c ≡ 13 = test_of c 13 k.0 in
    rw (x, k.1) refl

run_one : (c : ℕ) (cs : Text) → is_no_brace c ≡ true → (c == line_feed) ≡ false → (c == carriage_return && begins_with line_feed cs) ≡ false → text_run (c ∷ cs) ≡ before (c ∷ []) (text_run cs)
unfolding text_run
run_one c cs h e f = let k = neither (c == open_brace) (c == close_brace) h in rw (k.0, k.1, e, f) refl

run_none : Runs [] (with_line_feed 0 [])
unfolding text_run
run_none = refl

run_other : (c : ℕ) (cs : Text) → (c == line_feed) ≡ false → (c == carriage_return && begins_with line_feed cs) ≡ false → (is_plain (take (line_len cs) cs) ≡ true → Runs cs (with_line_feed (line_len cs) cs))
    → is_plain (take (suc (line_len cs)) (c ∷ cs)) ≡ true → Runs (c ∷ cs) (with_line_feed (suc (line_len cs)) (c ∷ cs))
run_other c cs e f more h =
    let k = both (is_no_brace c) (is_plain (take (line_len cs) cs)) h in
    let n : suc (line_len cs) + from_bool (begins_with line_feed (drop (line_len cs) cs)) ≡ suc (with_line_feed (line_len cs) cs) = omega arith in
    subst (Runs (c ∷ cs)) (sym n) (run_one c cs k.0 e f ∙ ap (before (c ∷ [])) (more k.1))

run_by : (b d : Bool) (c : ℕ) (cs : Text) → (c == line_feed) ≡ b → (c == carriage_return && begins_with line_feed cs) ≡ d → (is_plain (take (line_len cs) cs) ≡ true → Runs cs (with_line_feed (line_len cs) cs))
    → is_plain (take (line_len (c ∷ cs)) (c ∷ cs)) ≡ true → Runs (c ∷ cs) (with_line_feed (line_len (c ∷ cs)) (c ∷ cs))
run_by true d c cs e f more h = subst (λ (n : ℕ). Runs (c ∷ cs) (with_line_feed n (c ∷ cs))) (sym (at_feed c cs e)) (run_feed c cs e)
run_by false true c cs e f more h = subst (λ (n : ℕ). Runs (c ∷ cs) (with_line_feed n (c ∷ cs))) (sym (at_crlf c cs e f)) (run_crlf c cs f)
run_by false false c cs e f more h =
    let n = at_other c cs e f in
    subst (λ (n : ℕ). Runs (c ∷ cs) (with_line_feed n (c ∷ cs))) (sym n) (run_other c cs e f more (subst (λ (n : ℕ). is_plain (take n (c ∷ cs)) ≡ true) n h))

run_is : (s : Text) → is_plain (take (line_len s) s) ≡ true → Runs s (with_line_feed (line_len s) s)
run_is [] h = run_none
run_is (c ∷ cs) h = run_by (c == line_feed) (c == carriage_return && begins_with line_feed cs) c cs refl refl (run_is cs) h

-- ---- the cut
cuts_by : (b : Bool) (s : Text) (n : ℕ) → begins_with line_feed (drop n s) ≡ b → Cuts s n → Cuts s (n + from_bool b)
cuts_by false s n e c = let z : n + 0 ≡ n = omega arith in subst (Cuts s) (sym z) c
cuts_by true s n e c =
    let b = begins_at s n 10 c.within e in
    let z : n + 1 - 1 ≡ n = omega arith in
    cut_by_ascii s (n + 1) (omega (arith, b.0)) (λ _. rw (z, b.1) (omega arith))

pub plain_text : (s : Text) (n m : ℕ) → n ≡ line_len s → is_plain (take n s) ≡ true → m ≡ with_line_feed n s → IsText s (Ok m)
plain_text s n m e h f =
    let same : m ≡ with_line_feed (line_len s) s = f ∙ ap (λ (k : ℕ). with_line_feed k s) e in (
      subst (Runs s) (sym same) (run_is s (subst (λ (k : ℕ). is_plain (take k s) ≡ true) e h)),
      subst (Cuts s) (sym f) (cuts_by (begins_with line_feed (drop n s)) s n refl (line_cuts s n e)),
    )
