-- Digits that are written, and read again.
use Rattle.std.proofs.Common.{◌≡◌, ◌∙◌, ℕ, ◌+◌, ◌-◌, ◌*◌, ◌/◌, ◌%◌, ◌<◌, true, nat_le, if◌then◌else◌, cond, [], ◌∷◌, ◌++◌, None, Some, append_assoc, ap, ap₂, arith}
use Rattle.std.specs.Char.{is_ascii_digit}
use Rattle.std.specs.List.{prefix_len}
use Rattle.std.proofs.lemmas.Bool.{and_from, le-leb}
use Rattle.std.proofs.lemmas.Str.{encode_ascii}
use Rattle.fluent_number.specs.Digits.{Text, digits_worth}
use Rattle.fluent_date.specs.Iso.{digit, two}
use Rattle.fluent_date.specs.Reading.{fraction, fraction_digits, two_digits}

pub digit_is : (d : ℕ) → d < 10 → is_ascii_digit (48 + d) ≡ true
digit_is d low =
    and_from (nat_le 48 (48 + d)) (nat_le (48 + d) 57) (le-leb 48 (48 + d) (omega arith)) (le-leb (48 + d) 57 (omega (arith, low)))

pub digit_text : (n : ℕ) → digit n ≡ (48 + n % 10) ∷ []
digit_text n = encode_ascii (48 + n % 10) (omega arith)

pub two_text : (n : ℕ) → two n ≡ (48 + n / 10 % 10) ∷ (48 + n % 10) ∷ []
two_text n = ap₂ (λ a b. a ++ b) (digit_text (n / 10)) (digit_text n)

pub digits_read : (a b : ℕ) (rest : Text) → is_ascii_digit a ≡ true → is_ascii_digit b ≡ true → two_digits (a ∷ b ∷ rest) ≡ Some ((a - 48) * 10 + (b - 48), rest)
digits_read a b rest first second =
    ap (λ t. if t then Some ((a - 48) * 10 + (b - 48), rest) else None) (and_from (is_ascii_digit a) (is_ascii_digit b) first second)

-- the last two digits of a number are read as these
pub two_read : (n : ℕ) (rest : Text) → two_digits (two n ++ rest) ≡ Some (n % 100, rest)
two_read n rest =
    let worth : (48 + n / 10 % 10 - 48) * 10 + (48 + n % 10 - 48) ≡ n % 100 = omega arith in
    ap (λ t. two_digits (t ++ rest)) (two_text n)
    ∙ digits_read (48 + n / 10 % 10) (48 + n % 10) rest (digit_is (n / 10 % 10) (omega arith)) (digit_is (n % 10) (omega arith))
    ∙ ap (λ m. Some (m, rest)) worth

-- and a number below 100 as itself
pub two_same : (n : ℕ) (rest : Text) → n < 100 → two_digits (two n ++ rest) ≡ Some (n, rest)
two_same n rest small = two_read n rest ∙ ap (λ m. Some (m, rest)) (let e : n % 100 ≡ n = omega (arith, small) in e)

-- digits before others
one_more : (c : ℕ) (text : Text) → is_ascii_digit c ≡ true → prefix_len is_ascii_digit (c ∷ text) ≡ 1 + prefix_len is_ascii_digit text
one_more c text is = ap (λ b. cond b (1 + prefix_len is_ascii_digit text) 0) is

two_more : (n : ℕ) (text : Text) → prefix_len is_ascii_digit (two n ++ text) ≡ 1 + (1 + prefix_len is_ascii_digit text)
two_more n text =
    ap (λ t. prefix_len is_ascii_digit (t ++ text)) (two_text n)
    ∙ one_more (48 + n / 10 % 10) ((48 + n % 10) ∷ text) (digit_is (n / 10 % 10) (omega arith))
    ∙ ap (λ k. 1 + k) (one_more (48 + n % 10) text (digit_is (n % 10) (omega arith)))

-- nine digits, in which a fraction is written
abbrev three : ℕ → Text
three n = two (n / 10) ++ digit n

abbrev five : ℕ → Text
five n = two (n / 1000) ++ three n

abbrev seven : ℕ → Text
seven n = two (n / 100000) ++ five n

abbrev pub nine : ℕ → Text
nine n = two (n / 10000000) ++ seven n

nine_text : (n : ℕ) → nine n ≡ (48 + n / 10000000 / 10 % 10) ∷ (48 + n / 10000000 % 10) ∷ (48 + n / 100000 / 10 % 10) ∷ (48 + n / 100000 % 10) ∷ (48 + n / 1000 / 10 % 10) ∷ (48 + n / 1000 % 10) ∷ (48 + n / 10 / 10 % 10) ∷ (48 + n / 10 % 10) ∷ (48 + n % 10) ∷ []
nine_text n =
    ap₂ (λ a b. a ++ b) (two_text (n / 10000000))
    (ap₂ (λ a b. a ++ b) (two_text (n / 100000))
    (ap₂ (λ a b. a ++ b) (two_text (n / 1000))
    (ap₂ (λ a b. a ++ b) (two_text (n / 10)) (digit_text n))))

pair_worth : (m : ℕ) → (48 + m / 10 % 10 - 48) * 10 + (48 + m % 10 - 48) ≡ m % 100
pair_worth m = omega arith

nine_worth : (n : ℕ) → n < 1000000000 → digits_worth ((48 + n / 10000000 / 10 % 10) ∷ (48 + n / 10000000 % 10) ∷ (48 + n / 100000 / 10 % 10) ∷ (48 + n / 100000 % 10) ∷ (48 + n / 1000 / 10 % 10) ∷ (48 + n / 1000 % 10) ∷ (48 + n / 10 / 10 % 10) ∷ (48 + n / 10 % 10) ∷ (48 + n % 10) ∷ []) ≡ n
nine_worth n small =
    let a = pair_worth (n / 10000000) in
    let b = pair_worth (n / 100000) in
    let c = pair_worth (n / 1000) in
    let d = pair_worth (n / 10) in
    let parts : n ≡ n / 10000000 % 100 * 10000000 + (n / 100000 % 100 * 100000 + (n / 1000 % 100 * 1000 + (n / 10 % 100 * 10 + n % 10))) = omega (arith, small) in
    omega (arith, a, b, c, d, parts)

-- how many digits a text begins with, that some were put before
pairs_more : (n : ℕ) (more rest : Text) (k : ℕ) → prefix_len is_ascii_digit (more ++ rest) ≡ k → prefix_len is_ascii_digit ((two n ++ more) ++ rest) ≡ 1 + (1 + k)
pairs_more n more rest k is =
    ap (prefix_len is_ascii_digit) (append_assoc (two n) more rest) ∙ two_more n (more ++ rest) ∙ ap (λ j. 1 + (1 + j)) is

nine_more : (n : ℕ) (rest : Text) → prefix_len is_ascii_digit rest ≡ 0 → prefix_len is_ascii_digit (nine n ++ rest) ≡ 9
nine_more n rest none =
    let last : prefix_len is_ascii_digit (digit n ++ rest) ≡ 1 =
    ap (λ t. prefix_len is_ascii_digit (t ++ rest)) (digit_text n) ∙ one_more (48 + n % 10) rest (digit_is (n % 10) (omega arith)) ∙ ap (λ k. 1 + k) none in
    pairs_more (n / 10000000) (seven n) rest 7 (pairs_more (n / 100000) (five n) rest 5 (pairs_more (n / 1000) (three n) rest 3 (pairs_more (n / 10) (digit n) rest 1 last)))

-- a fraction in nine digits is read as itself
pub nine_read : (n : ℕ) (rest : Text) → n < 1000000000 → prefix_len is_ascii_digit rest ≡ 0 → fraction (nine n ++ rest) ≡ Some (n, rest)
nine_read n rest small none =
    ap (λ k. fraction_digits k (nine n ++ rest)) (nine_more n rest none)
    ∙ ap (λ t. fraction_digits 9 (t ++ rest)) (nine_text n)
    ∙ ap (λ m. Some (m, rest)) (let worth = nine_worth n small in omega (arith, worth))
