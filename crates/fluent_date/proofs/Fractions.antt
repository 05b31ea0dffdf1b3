-- Fractions of a second, as the code reads them.
use Rattle.std.proofs.Common.{◌≡◌, ◌∙◌, ℕ, ◌+◌, ◌-◌, ◌*◌, ◌^◌, ◌<◌, ◌≤◌, Bool, true, false, ◌&&◌, cond, eqb, min, nat_le, if◌then◌else◌, Some, None, refl, ap, sym, length, take, drop, arith}
use Rattle.std.specs.Char.{is_ascii_digit}
use Rattle.std.specs.List.{prefix_len}
use Rattle.std.proofs.Math.Nat.{mul-lt-mul_of_pos_right, one-le-pow}
use Rattle.std.proofs.lemmas.Bool.{and_from, eqb-true, le-leb, lt-leb}
use Rattle.std.proofs.lemmas.List.{drop_all, length-take, take-append-drop, take-take}
use Rattle.std.proofs.lemmas.List.Folds.{prefix_len-append}
use Rattle.std.proofs.lemmas.List.Sums.{prefix_len-le-length}
use Rattle.std.proofs.lemmas.Nat.{pow-add}
use Rattle.fluent_number.specs.Digits.{Text, digits_worth}
use Rattle.fluent_date.specs.Reading.{fraction, fraction_digits}

-- as many digits as a fraction has, and those that it lacks
nine_power : (count : ℕ) → count ≤ 9 → 10 ^ count * 10 ^ (9 - count) ≡ 1000000000
nine_power count short = sym (pow-add 10 count (9 - count)) ∙ ap (λ k. 10 ^ k) (let e : count + (9 - count) ≡ 9 = omega (arith, short) in e)

pub nanoseconds_fit : (worth count : ℕ) → worth < 10 ^ count → count ≤ 9 → worth * 10 ^ (9 - count) < 1000000000
nanoseconds_fit worth count small short =
    let positive = one-le-pow (9 - count) 10 (omega arith) in
    let less = mul-lt-mul_of_pos_right {k = 10 ^ (9 - count)} small (omega (arith, positive)) in
    omega (arith, less, nine_power count short)

-- ---- digits at the front of the first bytes of a text

record IsTaken (n front whole : ℕ) : Type 0 where
  short : front < n → front ≡ whole
  long : n ≤ front → n ≤ whole

taken_by : (b : Bool) (n size front len more whole : ℕ) → eqb front len ≡ b → whole ≡ cond b (len + more) front → len ≡ min n size → front ≤ len → (size ≤ n → more ≡ 0) → IsTaken n front whole
taken_by true n size front len more whole test is long within none = record {
  short = λ less. (
      let same : front ≡ len = eqb-true front len test in
      let nothing = none (omega (arith, same, less, long)) in
      omega (arith, same, is, nothing)
      );
  long = λ all. (let same : front ≡ len = eqb-true front len test in omega (arith, same, is, all));
}
taken_by false n size front len more whole test is long within none = record {
  short = λ less. sym is;
  long = λ all. omega (arith, is, all);
}

taken : (n : ℕ) (text : Text) → IsTaken n (prefix_len is_ascii_digit (take n text)) (prefix_len is_ascii_digit text)
taken n text =
    let front = take n text in
    let rest = drop n text in
    taken_by (eqb (prefix_len is_ascii_digit front) (length front)) n (length text) (prefix_len is_ascii_digit front) (length front) (prefix_len is_ascii_digit rest) (prefix_len is_ascii_digit text) refl
    (ap (prefix_len is_ascii_digit) (sym (take-append-drop n text)) ∙ prefix_len-append is_ascii_digit front rest)
    (length-take n text) (prefix_len-le-length is_ascii_digit front)
    (λ short. ap (prefix_len is_ascii_digit) (drop_all n text short))

-- ---- what is read

no_both : (a : Bool) → (a && false) ≡ false
no_both true = refl
no_both false = refl

fraction_if : (b : Bool) (count : ℕ) (text : Text) → (nat_le 1 count && nat_le count 9) ≡ b
    → fraction_digits count text ≡ (if b then Some (digits_worth (take count text) * 10 ^ (9 - count), drop count text) else None)
fraction_if b count text test = ap (λ t. if t then Some (digits_worth (take count text) * 10 ^ (9 - count), drop count text) else None) test

pub fraction_none : (text : Text) (count : ℕ) → count ≡ prefix_len is_ascii_digit (take 10 text) → count < 1 → None ≡ fraction text
fraction_none text count is none =
    let whole : prefix_len is_ascii_digit text ≡ 0 = (let short = (taken 10 text).short in let same = short (omega (arith, is, none)) in omega (arith, is, none, same)) in
    sym (ap (λ k. fraction_digits k text) whole)

pub fraction_long : (text : Text) (count : ℕ) → count ≡ prefix_len is_ascii_digit (take 10 text) → 9 < count → None ≡ fraction text
fraction_long text count is many =
    let whole = prefix_len is_ascii_digit text in
    let past : 9 < whole = (let long = (taken 10 text).long in let more = long (omega (arith, is, many)) in omega (arith, more)) in
    sym (fraction_if false whole text (ap (λ b. nat_le 1 whole && b) (lt-leb whole 9 past) ∙ no_both (nat_le 1 whole)))

pub fraction_some : (text : Text) (count worth : ℕ) → count ≡ prefix_len is_ascii_digit (take 10 text) → worth ≡ digits_worth (take count (take 10 text)) → 1 ≤ count → count ≤ 9
    → Some (worth * 10 ^ (9 - count), drop count text) ≡ fraction text
fraction_some text count worth is worth_is some short =
    let same : count ≡ prefix_len is_ascii_digit text = is ∙ (taken 10 text).short (omega (arith, is, short)) in
    let digits : worth ≡ digits_worth (take count text) = worth_is ∙ ap digits_worth (take-take count 10 text (omega (arith, short))) in
    ap (λ w. Some (w * 10 ^ (9 - count), drop count text)) digits
    ∙ sym (fraction_if true count text (and_from (nat_le 1 count) (nat_le count 9) (le-leb 1 count some) (le-leb count 9 short)))
    ∙ ap (λ k. fraction_digits k text) same
