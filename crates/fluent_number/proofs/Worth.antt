-- What the digits at the front of a text are worth.
use Rattle.std.proofs.Common.{◌≡◌, ⊎_elim, true, false, ℕ, suc, ◌+◌, ◌-◌, ◌*◌, ◌^◌, ◌<◌, ◌≤◌, [], ◌∷◌, ◌++◌, sym, ap, ◌∙◌, get_or, subst, length, take, drop, arith}
use Rattle.std.proofs.lemmas.List.{length-append, take_more, take-append-drop, take-take}
use Rattle.std.proofs.lemmas.List.Sums.{prefix_len_is, prefix_len_stops}
use Rattle.std.proofs.lemmas.Nat.{pow-add}
use Rattle.std.proofs.Math.Nat.{pow-suc, le-mul_of_pos_right, one-le-pow, pow-le-pow_right}
use Rattle.std.proofs.lemmas.Bool.{both_ways, cases_lt}
use Rattle.std.specs.Char.{is_ascii_digit}
use Rattle.std.specs.List.{prefix_len}
use Rattle.fluent_number.specs.Digits.{Text, digits_worth}

-- digits in front of others count as many places more
pub worth-append : (a b : Text) → digits_worth (a ++ b) ≡ digits_worth a * 10 ^ length b + digits_worth b
worth-append [] b = omega arith
worth-append (c ∷ cs) b =
    let power : 10 ^ length (cs ++ b) ≡ 10 ^ length cs * 10 ^ length b = ap (λ k. 10 ^ k) (length-append cs b) ∙ pow-add 10 (length cs) (length b) in
    let times : (c - 48) * 10 ^ length (cs ++ b) ≡ (c - 48) * (10 ^ length cs * 10 ^ length b) = ap (λ p. (c - 48) * p) power in
    omega (arith, times, worth-append cs b)

-- one more digit
pub worth-take_more : (s : Text) (i : ℕ) → i < length s → digits_worth (take (i + 1) s) ≡ digits_worth (take i s) * 10 + (get_or s i 0 - 48)
worth-take_more s i low =
    let split = ap digits_worth (take_more s i 0 low) in
    let joined = worth-append (take i s) (get_or s i 0 ∷ []) in
    omega (arith, split, joined)

-- a front is worth no more than the whole
pub worth-take-le : (s : Text) (i : ℕ) → digits_worth (take i s) ≤ digits_worth s
worth-take-le s i =
    let split = ap digits_worth (take-append-drop i s) in
    let joined = worth-append (take i s) (drop i s) in
    let more = le-mul_of_pos_right {m = 10 ^ length (drop i s)} (digits_worth (take i s)) (one-le-pow (length (drop i s)) 10 (omega arith)) in
    omega (arith, split, joined, more)

-- this many digits stand at the front, and are worth this
pub record AreLeading (s : Text) (i worth : ℕ) : Type 0 where
  pub digits : (k : ℕ) → k < i → is_ascii_digit (get_or s k 0) ≡ true
  pub worth_is : worth ≡ digits_worth (take i s)

pub are_leading_more : (s : Text) (i worth : ℕ) → i < length s → AreLeading s i worth → is_ascii_digit (get_or s i 0) ≡ true → AreLeading s (i + 1) (worth * 10 + (get_or s i 0 - 48))
are_leading_more s i worth low before digit = record {
  digits = λ k h. ⊎_elim (λ (less : k < i). before.digits k less) (λ (here : i ≤ k). (let e : i ≡ k = omega (arith, here, h) in subst (λ j. is_ascii_digit (get_or s j 0) ≡ true) e digit)) (cases_lt k i);
  worth_is = (let step = worth-take_more s i low in let worth_is = before.worth_is in omega (arith, step, worth_is));
}

-- no digit follows
pub are_leading_all : (s : Text) (i worth : ℕ) → i ≤ length s → AreLeading s i worth → (i < length s → is_ascii_digit (get_or s i 0) ≡ false) → (i ≡ prefix_len is_ascii_digit s) × (worth ≡ digits_worth (take (prefix_len is_ascii_digit s) s))
are_leading_all s i worth within before stops =
    let count = sym (prefix_len_is is_ascii_digit s i 0 within before.digits stops) in
    (count, before.worth_is ∙ ap (λ n. digits_worth (take n s)) count)

-- digits at the front are among all digits at the front
leading_le : (s : Text) (i : ℕ) → i ≤ length s → ((k : ℕ) → k < i → is_ascii_digit (get_or s k 0) ≡ true) → i ≤ prefix_len is_ascii_digit s
leading_le s i within digits =
    ⊎_elim
    (λ (less : prefix_len is_ascii_digit s < i). absurd (both_ways (is_ascii_digit (get_or s (prefix_len is_ascii_digit s) 0)) (prefix_len_stops is_ascii_digit s 0 (omega (arith, less, within))) (digits (prefix_len is_ascii_digit s) less)))
    (λ (more : i ≤ prefix_len is_ascii_digit s). more)
    (cases_lt (prefix_len is_ascii_digit s) i)

-- where one more digit makes too large a number, all of them do
pub are_leading_large : (s : Text) (i worth : ℕ) → i < length s → AreLeading s i worth → is_ascii_digit (get_or s i 0) ≡ true → (worth * 10 + (get_or s i 0 - 48) < 2 ^ 64 → ⊥) → 2 ^ 64 ≤ digits_worth (take (prefix_len is_ascii_digit s) s)
are_leading_large s i worth low before digit large =
    let more = are_leading_more s i worth low before digit in
    let n = prefix_len is_ascii_digit s in
    let count = leading_le s (i + 1) (omega (arith, low)) more.digits in
    let front = worth-take-le (take n s) (i + 1) in
    let same = ap digits_worth (take-take (i + 1) n s count) in
    let worth_is = more.worth_is in
    ⊎_elim (λ (fits : worth * 10 + (get_or s i 0 - 48) < 2 ^ 64). absurd (large fits))
    (λ (high : 2 ^ 64 ≤ worth * 10 + (get_or s i 0 - 48)). omega (arith, front, same, worth_is, high))
    (cases_lt (worth * 10 + (get_or s i 0 - 48)) (2 ^ 64))

-- the same of few digits, which fit in any case
pub record AreShortLeading (s : Text) (i worth : ℕ) : Type 0 where
  pub leading : AreLeading s i worth
  pub small : worth < 10 ^ i

-- one more digit fits into 64 bits
pub short_fits : (i worth : ℕ) → i < 19 → worth < 10 ^ i → worth * 10 + 9 < 2 ^ 64
short_fits i worth few small =
    let power : 10 ^ suc i ≡ 10 ^ i * 10 = pow-suc 10 i in
    let most = pow-le-pow_right {n = 10} (omega arith) {i = suc i} {j = 19} (omega (arith, few)) in
    omega (arith, power, most, small)

pub are_short_leading_more : (s : Text) (i worth : ℕ) → i < length s → AreShortLeading s i worth → is_ascii_digit (get_or s i 0) ≡ true → get_or s i 0 ≤ 57 → AreShortLeading s (i + 1) (worth * 10 + (get_or s i 0 - 48))
are_short_leading_more s i worth low before digit range =
    let more : i + 1 ≡ suc i = omega arith in
    let power : 10 ^ (i + 1) ≡ 10 ^ i * 10 = ap (λ k. 10 ^ k) more ∙ pow-suc 10 i in
    let small = before.small in
    record {
      leading = are_leading_more s i worth low before.leading digit;
      small = omega (arith, power, range, small);
    }

-- the text ends after them
pub are_leading_end : (s : Text) (i worth : ℕ) → length s ≤ i → i ≤ length s → AreLeading s i worth → (length s ≡ prefix_len is_ascii_digit s) × (worth ≡ digits_worth (take (prefix_len is_ascii_digit s) s))
are_leading_end s i worth high within before =
    let all = are_leading_all s i worth within before (λ low. absurd (omega (arith, low, high))) in
    (omega (arith, all.0, high, within), all.1)
