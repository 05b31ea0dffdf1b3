-- Texts without Greek and Cyrillic letters, of whose words nothing is said.
use Rattle.std.proofs.Common.{◌≡◌, ◌∙◌, ℕ, suc, Bool, true, false, if◌then◌else◌, List, [], ◌∷◌, ◌++◌, Option, Some, None, refl, sym, ap, arith}
use Rattle.std.specs.Prelude.{◌==◌, ◌&&◌, ◌||◌, not, nat_le}
use Rattle.std.specs.Char.{is_ascii}
use Rattle.std.specs.List.{list_all, list_any}
use Rattle.fluent_grammar.specs.Words.{Text, is_between, is_letter}
use Rattle.lint_findings.specs.Scripts.{Script, latin, greek, cyrillic, ascii_letter, goes_on, is_cyrillic, is_greek, is_later_latin, letters_at, mixed, mixed_words, pair_script, with_pair, word_remarks, words_from}
use Rattle.lint_flaws.specs.Special.{begins_other}
use Rattle.std.proofs.lemmas.Bool.{ltb-true, or_from}
use Rattle.lint_flaws.proofs.PlainBytes.{differs_too, first_none, second_none}
use Rattle.lint_flaws.proofs.Spelled.{between}
use Rattle.lint_flaws.proofs.WordSteps.{IsLatin, cons_latin, if_latin, none_latin, nothing_of_these, pair_latin_too}

module _ (c d : ℕ) (other : begins_other c ≡ false) where
  differs_from : (a : ℕ) → begins_other a ≡ true → (c == a) ≡ false
  differs_from a passed = differs_too begins_other a c passed other

  no_greek : is_greek c d ≡ false
  no_greek =
      or_from (c == 0xCD && (nat_le 0xB0 d && not (d == 0xBE))) _ (ap (λ b. b && (nat_le 0xB0 d && not (d == 0xBE))) (differs_from 0xCD refl))
      (or_from (c == 0xCE && not (is_between 0x84 0x87 d)) _ (ap (λ b. b && not (is_between 0x84 0x87 d)) (differs_from 0xCE refl)) (differs_from 0xCF refl))

  no_cyrillic : is_cyrillic c d ≡ false
  no_cyrillic =
      or_from (c == 0xD2 && not (is_between 0x82 0x89 d)) _ (ap (λ b. b && not (is_between 0x82 0x89 d)) (differs_from 0xD2 refl))
      (or_from (c == 0xD0 || (c == 0xD1 || c == 0xD3)) _ (or_from (c == 0xD0) _ (differs_from 0xD0 refl) (or_from (c == 0xD1) _ (differs_from 0xD1 refl) (differs_from 0xD3 refl)))
      (ap (λ b. b && nat_le d 0xAF) (differs_from 0xD4 refl)))

  latin_or_none : pair_script c d ≡ (if is_later_latin c d then Some latin else None)
  latin_or_none =
      ap (λ b. if is_later_latin c d then Some latin else if b then Some greek else if is_cyrillic c d then Some cyrillic else None) no_greek
      ∙ ap (λ b. if is_later_latin c d then Some latin else if b then Some cyrillic else None) no_cyrillic

latin_letters : (n : ℕ) (s : Text) → list_any begins_other s ≡ false → IsLatin (letters_at n s)
latin_letters n [] none = none_latin
latin_letters n (c ∷ []) none = if_latin (is_letter c) (ascii_letter n c ∷ []) [] (λ h. cons_latin n c [] none_latin) (λ h. none_latin)
latin_letters n (c ∷ d ∷ s) none =
    let here = first_none (begins_other c) _ none in
    let later = second_none (begins_other c) _ none in
    if_latin (is_letter c) (ascii_letter n c ∷ letters_at (suc n) (d ∷ s)) (with_pair n c d (letters_at (suc (suc n)) s) (pair_script c d))
    (λ h. cons_latin n c (letters_at (suc n) (d ∷ s)) (latin_letters (suc n) (d ∷ s) later))
    (λ h. pair_latin_too (is_later_latin c d) (pair_script c d) n c d (letters_at (suc (suc n)) s) (latin_or_none c d here) (latin_letters (suc (suc n)) s (second_none (begins_other d) _ later)))

if_both : {X : Type 0} (b : Bool) (x y : X) → y ≡ x → (if b then x else y) ≡ x
if_both true x y e = refl
if_both false x y e = e

nothing_from : (n : ℕ) (within : Bool) (s : Text) → list_any begins_other s ≡ false → words_from n within s ≡ []
nothing_from n within [] none = refl
nothing_from n within (c ∷ s) none =
    ap (λ l. l ++ words_from (suc n) (goes_on within (c ∷ s)) s)
    (if_both within [] (word_remarks n (letters_at 0 (c ∷ s))) (nothing_of_these n (letters_at 0 (c ∷ s)) (latin_letters 0 (c ∷ s) none)))
    ∙ nothing_from (suc n) (goes_on within (c ∷ s)) s (second_none (begins_other c) _ none)

pub nothing_mixed : (s : Text) → list_any begins_other s ≡ false → mixed_words s ≡ []
nothing_mixed s none = if_both (list_all is_ascii s) [] (words_from 0 false s) (nothing_from 0 false s none)

-- ---- a text that has such letters isn't ASCII

above : (c : ℕ) → begins_other c ≡ true → is_ascii c ≡ false
above c e = by (is_ascii c) refl
  where
    by : (b : Bool) → is_ascii c ≡ b → b ≡ false
    by true h = absurd (let parts = between 0xCD 0xD4 c e in omega (arith, parts.0, ltb-true c 128 h))
    by false h = refl

after : (b : Bool) → (b && false) ≡ false
after true = refl
after false = refl

not_ascii_by : (c : ℕ) (s : Text) (b : Bool) → begins_other c ≡ b → (b || list_any begins_other s) ≡ true → (list_any begins_other s ≡ true → list_all is_ascii s ≡ false) → (is_ascii c && list_all is_ascii s) ≡ false
not_ascii_by c s true e h later = ap (λ x. x && list_all is_ascii s) (above c e)
not_ascii_by c s false e h later = ap (λ x. is_ascii c && x) (later h) ∙ after (is_ascii c)

not_ascii : (s : Text) → list_any begins_other s ≡ true → list_all is_ascii s ≡ false
not_ascii [] some = absurd cc
not_ascii (c ∷ s) some = not_ascii_by c s (begins_other c) refl some (not_ascii s)

pub all_words : (s : Text) → list_any begins_other s ≡ true → words_from 0 false s ≡ mixed_words s
all_words s some = sym (ap (λ b. if b then [] else words_from 0 false s) (not_ascii s some))
