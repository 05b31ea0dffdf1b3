-- The parts of a text, and how they are split off.
use Rattle.std.proofs.Common.{◌≡◌, Bool, true, false, ℕ, suc, [], ◌∷◌, refl, ap, length, take, drop, map, ◌==◌, ◌∙◌, sym, subst, arith, ◌-◌, ◌<◌, ◌≤◌, length-drop}
use Rattle.std.proofs.lemmas.List.{take_all}
use Rattle.fluent_languages.specs.Steps.{Place, maximized, modern, place_of_tag}
use Rattle.std.proofs.lemmas.Bool.{ne_eqb}
use Rattle.std.specs.Prelude.{if◌then◌else◌, ◌||◌}
use Rattle.fluent_languages.specs.Posix.{base_of}
use Rattle.fluent_languages.specs.Tags.{Text, first_part, follows_part, is_empty, is_separator, more_parts, onto, parts, same_texts, small, Tag}

abbrev pub made : Tag → Tag → Tag → Place
made written tag full = record { written = written; tag = tag; full = full }

one_split : (is_end : Bool) (byte : ℕ) (text : Text)
    → parts text ≡ take (length (first_part text)) text ∷ more_parts (drop (length (first_part text)) text)
    → (if is_end then [] ∷ parts text else onto byte (parts text))
    ≡ take (length (if is_end then [] else byte ∷ first_part text)) (byte ∷ text)
    ∷ more_parts (drop (length (if is_end then [] else byte ∷ first_part text)) (byte ∷ text))
one_split true byte text e = refl
one_split false byte text e = ap (onto byte) e

-- the first part stands at the front, and the others after it
pub parts_split : (text : Text) → parts text ≡ take (length (first_part text)) text ∷ more_parts (drop (length (first_part text)) text)
parts_split [] = refl
parts_split (byte ∷ text) = one_split (is_separator byte) byte text (parts_split text)

one_follows : (is_end : Bool) (byte : ℕ) (text : Text) → is_separator byte ≡ is_end
    → follows_part (drop (length (first_part text)) text) ≡ true
    → follows_part (drop (length (if is_end then [] else byte ∷ first_part text)) (byte ∷ text)) ≡ true
one_follows true byte text e h = e
one_follows false byte text e h = h

-- nothing follows the first part, or a separator
follows_first : (text : Text) → follows_part (drop (length (first_part text)) text) ≡ true
follows_first [] = refl
follows_first (byte ∷ text) = one_follows (is_separator byte) byte text refl (follows_first text)

suc_is_some : (n : ℕ) → (suc n == 0) ≡ false
suc_is_some n = ne_eqb (suc n) 0 (λ e. absurd (omega (arith, e)))

-- nothing follows if no part does
pub no_parts_left : (text : Text) → is_empty (map small (more_parts text)) ≡ (length text == 0)
no_parts_left [] = refl
no_parts_left (byte ∷ text) =
    ap (λ ps. length (map small ps) == 0) (parts_split text) ∙ suc_is_some _ ∙ sym (suc_is_some (length text))

base_step : (is_end : Bool) (byte : ℕ) (name : Text) → take (length (base_of name)) name ≡ base_of name
    → take (length (if is_end then [] else byte ∷ base_of name)) (byte ∷ name) ≡ (if is_end then [] else byte ∷ base_of name)
base_step true byte name e = refl
base_step false byte name e = ap (λ rest. byte ∷ rest) e

-- a name begins with what stands before its encoding and its modifier
pub base_in_front : (name : Text) → take (length (base_of name)) name ≡ base_of name
base_in_front [] = refl
base_in_front (byte ∷ name) = base_step (byte == 46 || byte == 64) byte name (base_in_front name)

-- as `&text[..n]` and `&text[n..]` split it
pub parts_at : (text : Text) (n : ℕ) → n ≡ length (first_part text)
    → parts text ≡ take n text ∷ more_parts (take (length text - n) (drop n text))
parts_at text n e =
    let P : ℕ → Type 0 = λ m. parts text ≡ take m text ∷ more_parts (drop m text) in
    let whole : take (length text - n) (drop n text) ≡ drop n text = take_all (length text - n) (drop n text) (grind (arith, length-drop)) in
    subst P (sym e) (parts_split text) ∙ ap (λ rest. take n text ∷ more_parts rest) (sym whole)

pub follows_at : (text : Text) (n : ℕ) → n ≡ length (first_part text) → follows_part (take (length text - n) (drop n text)) ≡ true
follows_at text n e =
    let whole : take (length text - n) (drop n text) ≡ drop n text = take_all (length text - n) (drop n text) (grind (arith, length-drop)) in
    ap follows_part whole ∙ subst (λ m. follows_part (drop m text) ≡ true) (sym e) (follows_first text)

-- no variants aren't some
pub none_are_not_some : (a b : Text) → length a < 1 → 1 ≤ length b
    → false ≡ same_texts (map small (more_parts a)) (map small (more_parts b))
none_are_not_some [] [] none some = absurd (omega (arith, some))
none_are_not_some [] (byte ∷ b) none some = sym (ap (λ ps. same_texts [] (map small ps)) (parts_split b))
none_are_not_some (byte ∷ a) b none some = absurd (omega (arith, none))

-- a tag in its three forms
pub place_is : (written tag full : Tag) → tag ≡ modern written → full ≡ maximized tag → made written tag full ≡ place_of_tag written
place_is written tag full e f =
    ap (λ x. made written tag x) (f ∙ ap maximized e) ∙ ap (λ x. made written x (maximized (modern written))) e
