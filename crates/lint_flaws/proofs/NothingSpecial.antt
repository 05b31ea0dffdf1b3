-- Texts of whose characters nothing is said.
use Rattle.std.proofs.Common.{◌≡◌, ◌∙◌, ℕ, suc, Bool, true, false, if◌then◌else◌, List, [], ◌∷◌, ◌++◌, drop, Option, Some, None, option_map, refl, sym, ap}
use Rattle.std.specs.Prelude.{◌==◌, ◌&&◌, ◌||◌, not, nat_lt}
use Rattle.std.specs.Option.{option_or}
use Rattle.fluent_grammar.specs.Words.{Text, line_feed, carriage_return, begins_with, is_between}
use Rattle.lint_findings.specs.Letters as l
use Rattle.lint_flaws.specs.Special.{has_special, is_plain, is_special}
use Rattle.std.proofs.lemmas.Bool.{or_from}
use Rattle.lint_flaws.proofs.PlainBytes.{differs, first_none, second_none}

-- ---- plain bytes

three_not : (a b d c : ℕ) (s : Text) → (c == a) ≡ false → l.begins_three a b d (c ∷ s) ≡ false
three_not a b d c [] e = refl
three_not a b d c (x ∷ []) e = refl
three_not a b d c (x ∷ y ∷ s) e = ap (λ t. t && (x == b && y == d)) e

module _ (c : ℕ) (s : Text) (plain : is_plain c ≡ true) where
  no_sign : (c == 0xE2) ≡ false
  no_sign = differs is_plain 0xE2 c refl plain

  three : (b d : ℕ) → l.begins_three 0xE2 b d (c ∷ s) ≡ false
  three b d = three_not 0xE2 b d c s no_sign

  no_later : (t : Text) → l.is_later_control (c ∷ t) ≡ false
  no_later [] = refl
  no_later (d ∷ t) = ap (λ b. b && is_between 0x80 0x9F d) (differs is_plain 0xC2 c refl plain)

  not_true : (b : Bool) → not b ≡ true → b ≡ false
  not_true true e = absurd cc
  not_true false e = refl

  none_of_them : (nat_lt c 32 || (c == 127 || (c == 0xC2 || (c == 0xE2 || c == 0xEF)))) ≡ false
  none_of_them = not_true (nat_lt c 32 || (c == 127 || (c == 0xC2 || (c == 0xE2 || c == 0xEF)))) plain

  no_control : l.is_control_byte (c ∷ s) ≡ false
  no_control =
      or_from (c == 127) _ (differs is_plain 127 c refl plain)
      (ap (λ b. b && (not (c == 9 || c == line_feed) && not (c == carriage_return && begins_with line_feed s))) (first_none (nat_lt c 32) _ none_of_them))

  no_opening : l.opens (c ∷ s) ≡ false
  no_opening =
      or_from (l.turns (c ∷ s)) _ (or_from (l.begins_three 0xE2 0x80 0xAD (c ∷ s)) _ (three 0x80 0xAD) (three 0x80 0xAE))
      (or_from (l.begins_three 0xE2 0x80 0xAA (c ∷ s)) _ (three 0x80 0xAA) (or_from (l.begins_three 0xE2 0x80 0xAB (c ∷ s)) _ (three 0x80 0xAB)
      (or_from (l.begins_three 0xE2 0x81 0xA6 (c ∷ s)) _ (three 0x81 0xA6) (or_from (l.begins_three 0xE2 0x81 0xA7 (c ∷ s)) _ (three 0x81 0xA7) (three 0x81 0xA8)))))

  plain_is_not : is_special (c ∷ s) ≡ false
  plain_is_not =
      or_from (l.is_later_control (c ∷ s)) _ (no_later s)
      (or_from (l.is_control_byte (c ∷ s)) _ no_control
      (or_from (l.is_lost (c ∷ s)) _ (three_not 0xEF 0xBF 0xBD c s (differs is_plain 0xEF c refl plain))
      (or_from (l.is_zero_width_space (c ∷ s)) _ (three 0x80 0x8B)
      (or_from (l.is_word_joiner (c ∷ s)) _ (three 0x81 0xA0)
      (or_from (l.is_mark (c ∷ s)) _ (three_not 0xEF 0xBB 0xBF c s (differs is_plain 0xEF c refl plain))
      (or_from (l.opens (c ∷ s)) _ no_opening
      (or_from (l.begins_three 0xE2 0x80 0xAC (c ∷ s)) _ (three 0x80 0xAC) (three 0x81 0xA9))))))))

-- ---- characters of which nothing is said

if_none : {X : Type 0} (b : Bool) (x : X) (y z : X) → b ≡ false → y ≡ z → (if b then x else y) ≡ z
if_none true x y z e f = absurd cc
if_none false x y z e f = f

if_either : {X : Type 0} (b : Bool) (x y : X) → y ≡ x → (if b then x else y) ≡ x
if_either true x y e = refl
if_either false x y e = e

module _ (begins : Bool) (d : ℕ) (t : Text) (quiet : is_special t ≡ false) where
  after_later : (l.is_control_byte t || (l.is_lost t || (l.is_zero_width_space t || (l.is_word_joiner t || (l.is_mark t || (l.opens t || l.closes t)))))) ≡ false
  after_later = second_none (l.is_later_control t) _ quiet

  after_control : (l.is_lost t || (l.is_zero_width_space t || (l.is_word_joiner t || (l.is_mark t || (l.opens t || l.closes t))))) ≡ false
  after_control = second_none (l.is_control_byte t) _ after_later

  after_lost : (l.is_zero_width_space t || (l.is_word_joiner t || (l.is_mark t || (l.opens t || l.closes t)))) ≡ false
  after_lost = second_none (l.is_lost t) _ after_control

  after_space : (l.is_word_joiner t || (l.is_mark t || (l.opens t || l.closes t))) ≡ false
  after_space = second_none (l.is_zero_width_space t) _ after_lost

  after_joiner : (l.is_mark t || (l.opens t || l.closes t)) ≡ false
  after_joiner = second_none (l.is_word_joiner t) _ after_space

  after_mark : (l.opens t || l.closes t) ≡ false
  after_mark = second_none (l.is_mark t) _ after_joiner

  no_opens : l.opens t ≡ false
  no_opens = first_none (l.opens t) _ after_mark

  control : l.control_of t ≡ None
  control =
      if_none (l.is_later_control t) _ _ None (first_none (l.is_later_control t) _ quiet)
      (if_none (l.is_control_byte t) _ _ None (first_none (l.is_control_byte t) _ after_later) refl)

  width : l.zero_width_name t ≡ None
  width =
      if_none (l.is_zero_width_space t && not (l.begins_spaceless (drop 3 t))) _ _ None
      (ap (λ b. b && not (l.begins_spaceless (drop 3 t))) (first_none (l.is_zero_width_space t) _ after_lost))
      (if_none (l.is_word_joiner t) _ _ None (first_none (l.is_word_joiner t) _ after_space) (if_none (l.is_mark t) _ _ None (first_none (l.is_mark t) _ after_joiner) refl))

  unseen : l.unseen_name begins t ≡ None
  unseen = if_either (begins || l.is_end (drop 3 t)) None (l.zero_width_name t) width

  direction : l.direction_words begins d t ≡ None
  direction =
      if_none (l.turns t) _ _ None (first_none (l.turns t) _ no_opens)
      (if_none (l.opens t && (not begins && l.is_left_open d t)) _ _ None (ap (λ b. b && (not begins && l.is_left_open d t)) no_opens)
      (if_none (l.closes t && d == 0) _ _ None (ap (λ b. b && d == 0) (second_none (l.opens t) _ after_mark)) refl))

  nothing_at : l.letter_at begins d t ≡ None
  nothing_at =
      ap (λ o. option_or (option_map l.control_remark o) (if l.is_lost t then Some l.lost_remark
      else option_or (option_map l.unseen_remark (l.unseen_name begins t)) (option_map l.direction_remark (l.direction_words begins d t)))) control
      ∙ if_none (l.is_lost t) _ _ None (first_none (l.is_lost t) _ after_control)
      (ap (λ o. option_or (option_map l.unseen_remark o) (option_map l.direction_remark (l.direction_words begins d t))) unseen ∙ ap (option_map l.direction_remark) direction)

quiet_at : (c : ℕ) (s : Text) → (not (is_plain c) && is_special (c ∷ s)) ≡ false → is_special (c ∷ s) ≡ false
quiet_at c s h = by (is_plain c) refl h
  where
    by : (b : Bool) → is_plain c ≡ b → (not b && is_special (c ∷ s)) ≡ false → is_special (c ∷ s) ≡ false
    by true e quiet = plain_is_not c s e
    by false e quiet = quiet

-- ---- of a text

nothing_from : (n : ℕ) (begins : Bool) (d : ℕ) (s : Text) → has_special s ≡ false → l.letters_from n begins d s ≡ []
nothing_from n begins d [] none = refl
nothing_from n begins d (c ∷ s) none =
    let here = quiet_at c s (first_none (not (is_plain c) && is_special (c ∷ s)) _ none) in
    ap (λ o. l.placed n o ++ l.letters_from (suc n) (l.begins_after begins c) (l.depth_after d (c ∷ s)) s) (nothing_at begins d (c ∷ s) here)
    ∙ nothing_from (suc n) (l.begins_after begins c) (l.depth_after d (c ∷ s)) s (second_none (not (is_plain c) && is_special (c ∷ s)) _ none)

pub nothing_special : (s : Text) → has_special s ≡ false → [] ≡ l.letters s
nothing_special s none = sym (nothing_from 0 true 0 s none)
