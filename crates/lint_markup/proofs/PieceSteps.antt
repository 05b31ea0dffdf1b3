-- A piece of a text, byte by byte.
use Rattle.std.proofs.Common.{◌≡◌, ◌∙◌, ℕ, ◌+◌, ◌<◌, ◌≤◌, true, false, [], ◌∷◌, ◌++◌, length, drop, take, get_or, refl, ap, sym, arith, append_assoc, append-nil}
use Rattle.std.proofs.lemmas.Bool.Decides.{nat_tests}
use Rattle.std.proofs.lemmas.List.{drop_more, take_more}
use Rattle.fluent_grammar.specs.Words.{Text}
use Rattle.fluent_tokens.specs.Counted.{Cuts}
use Rattle.lint_findings.specs.Runs.{piece}
use Rattle.lint_markup.specs.Pieces.{ends_piece}

stops : (s : Text) → ends_piece s ≡ true → piece s ≡ []
stops [] h = refl
stops (c ∷ cs) h = rw h refl

goes_on : (c : ℕ) (cs : Text) → ends_piece (c ∷ cs) ≡ false → piece (c ∷ cs) ≡ c ∷ piece cs
goes_on c cs h = rw h refl

pub piece_next : (s : Text) (i : ℕ) → i < length s → ends_piece (drop i s) ≡ false → take (i + 1) s ++ piece (drop (i + 1) s) ≡ take i s ++ piece (drop i s)
piece_next s i lt h =
    let front : drop i s ≡ get_or s i 0 ∷ drop (i + 1) s = drop_more s i 0 lt in
    let on : piece (drop i s) ≡ get_or s i 0 ∷ piece (drop (i + 1) s) = ap piece front ∙ goes_on (get_or s i 0) (drop (i + 1) s) (ap ends_piece (sym front) ∙ h) in
    ap (λ xs. xs ++ piece (drop (i + 1) s)) (take_more s i 0 lt)
    ∙ append_assoc (take i s) (get_or s i 0 ∷ []) (piece (drop (i + 1) s))
    ∙ ap (λ xs. take i s ++ xs) (sym on)

pub piece_ends : (s : Text) (i : ℕ) → ends_piece (drop i s) ≡ true → take i s ++ piece (drop i s) ≡ take i s
piece_ends s i h = ap (λ xs. take i s ++ xs) (stops (drop i s) h) ∙ append-nil (take i s)

-- a line feed, or the first byte of the sign
begins_character : (c : ℕ) (cs : Text) → ends_piece (c ∷ cs) ≡ true → 128 ≤ c → 192 ≤ c
begins_character c [] h high = grind (arith, nat_tests)
begins_character c (d ∷ []) h high = grind (arith, nat_tests)
begins_character c (d ∷ e ∷ cs) h high = grind (arith, nat_tests)

pub cut_piece : (s : Text) (i : ℕ) → i < length s → ends_piece (drop i s) ≡ true → Cuts s i
cut_piece s i lt h =
    let front : drop i s ≡ get_or s i 0 ∷ drop (i + 1) s = drop_more s i 0 lt in
    record {
      within = omega arith;
      boundary = λ _. (omega arith, λ _ high. begins_character (get_or s i 0) (drop (i + 1) s) (ap ends_piece (sym front) ∙ h) high);
    }
