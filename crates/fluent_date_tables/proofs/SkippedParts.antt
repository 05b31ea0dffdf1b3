-- A text without its first parts.
use Rattle.std.proofs.Common.{◌≡◌, ◌≢◌, ◌∙◌, ℕ, zero, suc, ◌+◌, ◌-◌, ◌<◌, ◌≤◌, List, [], ◌∷◌, refl, sym, ap, length, get_or, drop, add-one, arith}
use Rattle.std.proofs.lemmas.Bool.{cond-true, cond-false, eq-eqb, ne_eqb}
use Rattle.fluent_date_tables.specs.Parts.{before, after, part, skipped}
use Rattle.fluent_date_tables.specs.Tables.{Text}

-- a part is what the text begins with once those before it are skipped
pub part_skipped : (text : Text) (number : ℕ) → before (skipped text number) ≡ part text number
part_skipped text zero = refl
part_skipped text (suc number) = part_skipped (after text) number

-- of nothing nothing is left
pub skipped_nothing : (number : ℕ) → [] ≡ skipped [] number
skipped_nothing zero = refl
skipped_nothing (suc number) = skipped_nothing number

-- after a bar a part less is to be skipped
pub skipped_bar : (c : ℕ) (text : Text) (number : ℕ) → c ≡ 124 → skipped (c ∷ text) (suc number) ≡ skipped text number
skipped_bar c text number bar = ap (λ rest. skipped rest number) (cond-true _ _ _ (eq-eqb c 124 bar))

-- what isn't a bar is skipped with its part
pub skipped_other : (c : ℕ) (text : Text) (number : ℕ) → c ≢ 124 → skipped (c ∷ text) (suc number) ≡ skipped text (suc number)
skipped_other c text number other = ap (λ rest. skipped rest number) (cond-false _ _ _ (ne_eqb c 124 other))

-- the same at a place of a text
bar_at : (text : Text) (at number : ℕ) → at < length text → get_or text at 0 ≡ 124 → skipped (drop at text) (suc number) ≡ skipped (drop (suc at) text) number
bar_at [] at number inside bar = absurd (omega (arith, inside))
bar_at (c ∷ text) zero number inside bar = skipped_bar c text number bar
bar_at (c ∷ text) (suc at) number inside bar = bar_at text at number (omega (arith, inside)) bar

pub skipped_at_bar : (text : Text) (at number : ℕ) → at < length text → get_or text at 0 ≡ 124 → skipped (drop at text) (suc number) ≡ skipped (drop (at + 1) text) number
skipped_at_bar text at number inside bar =
    bar_at text at number inside bar ∙ ap (λ k. skipped (drop k text) number) (sym (add-one at))

other_at : (text : Text) (at number : ℕ) → at < length text → get_or text at 0 ≢ 124 → skipped (drop at text) (suc number) ≡ skipped (drop (suc at) text) (suc number)
other_at [] at number inside other = absurd (omega (arith, inside))
other_at (c ∷ text) zero number inside other = skipped_other c text number other
other_at (c ∷ text) (suc at) number inside other = other_at text at number (omega (arith, inside)) other

pub skipped_at_other : (text : Text) (at number : ℕ) → at < length text → get_or text at 0 ≢ 124 → skipped (drop at text) (suc number) ≡ skipped (drop (at + 1) text) (suc number)
skipped_at_other text at number inside other =
    other_at text at number inside other ∙ ap (λ k. skipped (drop k text) (suc number)) (sym (add-one at))

-- nothing is left after the end
pub skipped_past : (text : Text) (at number : ℕ) → length text ≤ at → [] ≡ skipped (drop at text) (suc number)
skipped_past [] zero number past = skipped_nothing number
skipped_past [] (suc at) number past = skipped_nothing number
skipped_past (c ∷ text) zero number past = absurd (omega (arith, past))
skipped_past (c ∷ text) (suc at) number past = skipped_past text at number (omega (arith, past))

-- a later part is what the rest after its bar begins with
pub part_found : (text : Text) (number : ℕ) (rest : Text) → number ≢ 0 → rest ≡ skipped text (suc (number - 1)) → before rest ≡ part text number
part_found text zero rest other found = absurd (other refl)
part_found text (suc number) rest other found =
    let same : suc number - 1 ≡ number = omega arith in
    ap before found ∙ ap (λ n. before (skipped text (suc n))) same ∙ part_skipped text (suc number)

pub part_missing : (text : Text) (number : ℕ) → number ≢ 0 → [] ≡ skipped text (suc (number - 1)) → [] ≡ part text number
part_missing text number other found = part_found text number [] other found
