-- Zeros at the end of digits, taken off and put back.
use Rattle.std.proofs.Common.{◌≡◌, true, nat_le, ℕ, zero, suc, ◌+◌, ◌-◌, ◌*◌, ◌/◌, ◌%◌, ◌^◌, ◌<◌, ◌≤◌, [], ◌∷◌, ◌++◌, refl, sym, ap, ◌∙◌, get_or, length, take, drop, reverse, replicate, arith, add-zero}
use Rattle.std.specs.List.{suffix_len, list_all}
use Rattle.std.specs.Char.{is_ascii_digit}
use Rattle.std.proofs.lemmas.List.{append_assoc, append-nil, same_lists, length-drop, length-take-le, length-replicate, get_or-drop, get_or-replicate, get_or-reverse, take-append-drop, take_more, take_all}
use Rattle.std.proofs.lemmas.List.Sums.{prefix_len_passes, suffix_len-le-length}
use Rattle.std.proofs.lemmas.List.Folds.{list_all-append}
use Rattle.std.proofs.lemmas.Bool.{eqb-true, leb-true, and_parts}
use Rattle.std.proofs.Math.Nat.{pow-succ'}
use Rattle.fluent_number.specs.Digits.{Text, digits_worth, last_digits, without_end_zeros}
use Rattle.fluent_number.proofs.EndZeros.{is_zero, last_digits_step, last_digits_none, without_end_zeros_zero}
use Rattle.fluent_number.proofs.Worth.{worth-append}

-- this many zeros
abbrev pub zeros : ℕ → Text
zeros n = replicate n 48

-- the zeros at the end are zeros
end_zeros : (ds : Text) → drop (length ds - suffix_len is_zero ds) ds ≡ zeros (suffix_len is_zero ds)
end_zeros ds =
    let s = suffix_len is_zero ds in
    let within = suffix_len-le-length is_zero ds in
    same_lists (drop (length ds - s) ds) (zeros s)
    (length-drop (length ds - s) ds ∙ omega (arith, within, length-replicate {A = ℕ} s 48))
    (λ k d low.
    let short : k < s = omega (arith, low, length-drop (length ds - s) ds, within) in
    let back : length ds - 1 - (s - 1 - k) ≡ length ds - s + k = omega (arith, short, within) in
    let passes = prefix_len_passes is_zero (reverse ds) (s - 1 - k) d (omega (arith, short)) in
    let place = get_or-reverse ds (s - 1 - k) d (omega (arith, short, within)) in
    get_or-drop (length ds - s) ds k d
    ∙ ap (λ j. get_or ds j d) (sym back) ∙ sym place
    ∙ eqb-true (get_or (reverse ds) (s - 1 - k) d) 48 passes
    ∙ sym (get_or-replicate s k 48 d short))

-- digits are those without zeros at the end, and the zeros
pub zeros_back : (ds : Text) → without_end_zeros ds ++ zeros (length ds - length (without_end_zeros ds)) ≡ ds
zeros_back ds =
    let s = suffix_len is_zero ds in
    let within = suffix_len-le-length is_zero ds in
    let kept = length-take-le (length ds - s) ds (omega arith) in
    let count : length ds - length (without_end_zeros ds) ≡ s = omega (arith, kept, within) in
    ap (λ n. without_end_zeros ds ++ zeros n) count
    ∙ ap (λ r. without_end_zeros ds ++ r) (sym (end_zeros ds))
    ∙ take-append-drop (length ds - s) ds

-- one more zero at the end
zeros_push : (k : ℕ) → zeros k ++ 48 ∷ [] ≡ zeros (suc k)
zeros_push zero = refl
zeros_push (suc k) = ap (λ z. 48 ∷ z) (zeros_push k)

-- zeros put at the end are taken off again
pub without_end_zeros-zeros : (ds : Text) (k : ℕ) → without_end_zeros (ds ++ zeros k) ≡ without_end_zeros ds
without_end_zeros-zeros ds zero = ap without_end_zeros (append-nil ds)
without_end_zeros-zeros ds (suc k) =
    ap (λ z. without_end_zeros (ds ++ z)) (sym (zeros_push k))
    ∙ ap without_end_zeros (sym (append_assoc ds (zeros k) (48 ∷ [])))
    ∙ without_end_zeros_zero (ds ++ zeros k)
    ∙ without_end_zeros-zeros ds k

-- digits without zeros at the end stay
pub without_end_zeros-twice : (ds : Text) → without_end_zeros (without_end_zeros ds) ≡ without_end_zeros ds
without_end_zeros-twice ds =
    sym (without_end_zeros-zeros (without_end_zeros ds) (length ds - length (without_end_zeros ds)))
    ∙ ap without_end_zeros (zeros_back ds)

pub worth-zeros : (k : ℕ) → digits_worth (zeros k) ≡ 0
worth-zeros zero = refl
worth-zeros (suc k) = let rest = worth-zeros k in omega (arith, rest)

-- zeros at the end count as places
pub worth-append-zeros : (ds : Text) (k : ℕ) → digits_worth (ds ++ zeros k) ≡ digits_worth ds * 10 ^ k
worth-append-zeros ds k =
    worth-append ds (zeros k)
    ∙ (let none = worth-zeros k in let power : digits_worth ds * 10 ^ length (zeros k) ≡ digits_worth ds * 10 ^ k = ap (λ n. digits_worth ds * 10 ^ n) (length-replicate {A = ℕ} k 48) in omega (arith, none, power))

pub is_digit : (c : ℕ) → is_ascii_digit c ≡ true → (48 ≤ c) × (c ≤ 57)
is_digit c h =
    let ends = and_parts (nat_le 48 c) (nat_le c 57) h in
    (leb-true 48 c ends.0, leb-true c 57 ends.1)

-- the last digits of what digits write are those digits
pub last_digits-worth : (k : ℕ) (ds : Text) → list_all is_ascii_digit ds ≡ true → length ds ≡ k → last_digits k (digits_worth ds) ≡ ds
last_digits-worth zero ds digits long =
    last_digits_none (digits_worth ds) ∙ (let empty : ds ≡ [] = sym (take_all 0 ds (omega (arith, long))) in sym empty)
last_digits-worth (suc k) ds digits long =
    let front = take k ds in
    let last = get_or ds k 0 in
    let split : ds ≡ front ++ last ∷ [] = sym (take_all (k + 1) ds (omega (arith, long))) ∙ take_more ds k 0 (omega (arith, long)) in
    let tests = and_parts (list_all is_ascii_digit front) (list_all is_ascii_digit (last ∷ [])) (sym (list_all-append is_ascii_digit front (last ∷ [])) ∙ ap (list_all is_ascii_digit) (sym split) ∙ digits) in
    let range = is_digit last (and_parts (is_ascii_digit last) true tests.1).0 in
    let worth : digits_worth ds ≡ digits_worth front * 10 ^ 1 + digits_worth (last ∷ []) = ap digits_worth split ∙ worth-append front (last ∷ []) in
    let quotient : digits_worth ds / 10 ≡ digits_worth front = omega (arith, worth, range) in
    let remainder : 48 + digits_worth ds % 10 ≡ last = omega (arith, worth, range) in
    last_digits_step k (digits_worth ds)
    ∙ ap (λ n. last_digits k n ++ (48 + digits_worth ds % 10) ∷ []) quotient
    ∙ ap (λ c. last_digits k (digits_worth front) ++ c ∷ []) remainder
    ∙ ap (λ f. f ++ last ∷ []) (last_digits-worth k front tests.0 (length-take-le k ds (omega (arith, long))))
    ∙ sym split

-- a number that ends in zeros has them as its last digits
pub last_digits-scaled : (k m n : ℕ) → last_digits (k + m) (n * 10 ^ m) ≡ last_digits k n ++ zeros m
last_digits-scaled k zero n =
    ap (λ j. last_digits j (n * 1)) (add-zero k)
    ∙ ap (last_digits k) (let same : n * 1 ≡ n = omega arith in same)
    ∙ sym (append-nil (last_digits k n))
last_digits-scaled k (suc m) n =
    let count : k + suc m ≡ suc (k + m) = omega arith in
    let power = pow-succ' 10 m in
    let times : n * 10 ^ suc m ≡ n * (10 * 10 ^ m) = ap (λ p. n * p) power in
    let quotient : n * 10 ^ suc m / 10 ≡ n * 10 ^ m = omega (arith, times) in
    let remainder : 48 + n * 10 ^ suc m % 10 ≡ 48 = omega (arith, times, quotient) in
    let parted : last_digits (suc (k + m)) (n * 10 ^ suc m) ≡ last_digits (k + m) (n * 10 ^ suc m / 10) ++ (48 + n * 10 ^ suc m % 10) ∷ [] = last_digits_step (k + m) (n * 10 ^ suc m) in
    let cut : last_digits (k + m) (n * 10 ^ suc m / 10) ++ (48 + n * 10 ^ suc m % 10) ∷ [] ≡ last_digits (k + m) (n * 10 ^ m) ++ 48 ∷ [] = λ i. last_digits (k + m) (quotient i) ++ remainder i ∷ [] in
    let step : last_digits (k + suc m) (n * 10 ^ suc m) ≡ last_digits (k + m) (n * 10 ^ m) ++ 48 ∷ [] = ap (λ j. last_digits j (n * 10 ^ suc m)) count ∙ parted ∙ cut in
    step
    ∙ ap (λ ds. ds ++ 48 ∷ []) (last_digits-scaled k m n)
    ∙ append_assoc (last_digits k n) (zeros m) (48 ∷ [])
    ∙ ap (λ z. last_digits k n ++ z) (zeros_push m)
