-- Addresses in a text, their hosts, and where they may be cut.
use Rattle.std.proofs.Common.{◌≡◌, ◌∙◌, ℕ, zero, suc, ◌+◌, ◌-◌, ◌<◌, ◌≤◌, Bool, true, false, cond, not, ◌&&◌, ◌||◌, if◌then◌else◌, List, [], ◌∷◌, ◌++◌, length, map, drop, take, get_or, codes, refl, ap, sym, arith, length-take, length-drop, get_or-take, get_or-drop, subst}
use Rattle.std.specs.Prelude.{◌==◌, nat_le, filter}
use Rattle.std.specs.Char.{to_ascii_lowercase}
use Rattle.std.specs.List.{list_all, list_any, prefix_len}
use Rattle.std.specs.Str.{bytes_eq}
use Rattle.std.specs.Cmp.Lexicographic.{same_text}
use Rattle.std.proofs.lemmas.Bool.{and_parts, ne_eqb}
use Rattle.std.proofs.lemmas.Bool.Decides.{nat_tests}
use Rattle.std.proofs.lemmas.List.{drop_more, take_more}
use Rattle.std.proofs.lemmas.List.Folds.{list_all-append}
use Rattle.std.proofs.lemmas.List.Sums.{prefix_len-le-length, prefix_len_passes}
use Rattle.memchr.specs.Find.{is_byte2}
use Rattle.fluent_grammar.specs.Words.{Text, begins_with, dot}
use Rattle.fluent_tokens.specs.Counted.{Cuts}
use Rattle.fluent_tokens.proofs.Counted.{cut_before_ascii, cut_by_ascii}
use Rattle.lint_findings.specs.Addresses.{Address, address_after, address_at, addresses_in, at_sign, dots, has_dot, host_end, host_text, is_host_byte, last_labels, scheme_len, trim_dots}
use Rattle.lint_findings.specs.Keys.{small}
use Rattle.lint_texts.specs.AddressParts.{beginning_len}

-- ---- from place to place

pub address_next : (s : Text) (i : ℕ) → i < length s → addresses_in (drop i s) ≡ address_at (drop i s) ++ addresses_in (drop (i + 1) s)
address_next s i inside = rw (drop_more s i 0 inside) refl

by_len : (s : Text) (b : Bool) (n : ℕ) →
    (if b then address_after s 1 else if n == 0 then [] else address_after s n) ≡ (if (if b then 1 else n) == 0 then [] else address_after s (if b then 1 else n))
by_len s true n = refl
by_len s false n = refl

-- by how many bytes stand before the host
pub address_by : (s : Text) → address_at s ≡ (if beginning_len s == 0 then [] else address_after s (beginning_len s))
address_by s = by_len s (begins_with at_sign s && has_dot (drop 1 s)) (scheme_len s)

-- ---- where an address begins

-- so many bytes at the front are those
record BeginsBy (s w : Text) : Type 0 where
  long : length w ≤ length s
  reads : (k : ℕ) → k < length w → get_or s k 0 ≡ get_or w k 0

begins_by : (k : ℕ) (s w : Text) → length w ≡ k → bytes_eq (take k s) w ≡ true → BeginsBy s w
begins_by k s w e h =
    let same : take k s ≡ w = same_text (take k s) w (sym h) in
    let long = ap length same in
    record {
      long = omega (arith, e, long, length-take k s);
      reads = λ j lt. sym (get_or-take k s j 0 (omega (arith, lt, e))) ∙ ap (λ z. get_or z j 0) same;
    }

-- its first byte and the last before the host are ASCII, and a colon is among them or an at sign is the first
pub record Begins (s : Text) (n : ℕ) : Type 0 where
  pub long : n ≤ length s
  pub first : 0 < n → get_or s 0 0 < 128
  pub last : 0 < n → get_or s (n - 1) 0 < 128
  pub sign : 0 < n → (k : ℕ) × (k < length s) × (is_byte2 64 58 (get_or s k 0) ≡ true)

none_begins : (s : Text) → Begins s 0
none_begins s = record {
  long = omega arith;
  first = λ some. absurd (omega (arith, some));
  last = λ some. absurd (omega (arith, some));
  sign = λ some. absurd (omega (arith, some));
}

colon_is : (c : ℕ) → c ≡ 58 → is_byte2 64 58 c ≡ true
colon_is c e = grind (arith, nat_tests)

at_is : (c : ℕ) → (c == 64) ≡ true → (c < 128) × (is_byte2 64 58 c ≡ true)
at_is c e = grind (arith, nat_tests)

http : (s : Text) → bytes_eq (take 7 s) (codes "http://") ≡ true → Begins s 7
http s h =
    let there = begins_by 7 s (codes "http://") refl h in
    let long : 7 ≤ length s = there.long in
    record {
      long = long;
      first = λ _. omega (arith, there.reads 0 (omega arith));
      last = λ _. omega (arith, there.reads 6 (omega arith));
      sign = λ _. (4, omega (arith, long), colon_is _ (there.reads 4 (omega arith)));
    }

https : (s : Text) → bytes_eq (take 8 s) (codes "https://") ≡ true → Begins s 8
https s h =
    let there = begins_by 8 s (codes "https://") refl h in
    let long : 8 ≤ length s = there.long in
    record {
      long = long;
      first = λ _. omega (arith, there.reads 0 (omega arith));
      last = λ _. omega (arith, there.reads 7 (omega arith));
      sign = λ _. (5, omega (arith, long), colon_is _ (there.reads 5 (omega arith)));
    }

ftp : (s : Text) → bytes_eq (take 6 s) (codes "ftp://") ≡ true → Begins s 6
ftp s h =
    let there = begins_by 6 s (codes "ftp://") refl h in
    let long : 6 ≤ length s = there.long in
    record {
      long = long;
      first = λ _. omega (arith, there.reads 0 (omega arith));
      last = λ _. omega (arith, there.reads 5 (omega arith));
      sign = λ _. (3, omega (arith, long), colon_is _ (there.reads 3 (omega arith)));
    }

scheme_by : (s : Text) (a b d : Bool) → (a ≡ true → Begins s 7) → (b ≡ true → Begins s 8) → (d ≡ true → Begins s 6) →
    Begins s (if a then 7 else if b then 8 else if d then 6 else 0)
scheme_by s true b d first second third = first refl
scheme_by s false true d first second third = second refl
scheme_by s false false true first second third = third refl
scheme_by s false false false first second third = none_begins s

scheme_begins : (s : Text) → Begins s (scheme_len s)
scheme_begins s =
    scheme_by s (bytes_eq (take 7 s) (codes "http://")) (bytes_eq (take 8 s) (codes "https://")) (bytes_eq (take 6 s) (codes "ftp://")) (http s) (https s) (ftp s)

at_begins : (s : Text) → begins_with at_sign s ≡ true → Begins s 1
at_begins [] h = absurd cc
at_begins (c ∷ s) h =
    let is = at_is c h in
    record {
      long = omega arith;
      first = λ _. is.0;
      last = λ _. is.0;
      sign = λ _. (0, omega arith, is.1);
    }

begin_by : (s : Text) (b : Bool) → (b ≡ true → Begins s 1) → Begins s (if b then 1 else scheme_len s)
begin_by s true h = h refl
begin_by s false h = scheme_begins s

pub begins : (s : Text) → Begins s (beginning_len s)
begins s =
    begin_by s (begins_with at_sign s && has_dot (drop 1 s)) (λ h. at_begins s (and_parts (begins_with at_sign s) (has_dot (drop 1 s)) h).0)

pub cut_beginning : (s : Text) (n : ℕ) → n ≡ beginning_len s → Cuts s n
cut_beginning s n e = rw e (cut_by_ascii s (beginning_len s) (begins s).long (begins s).last)

-- ---- texts without a sign

if_none : (s : Text) (n : ℕ) → (0 < n → ⊥) → (if n == 0 then [] else address_after s n) ≡ []
if_none s zero never_some = refl
if_none s (suc n) never_some = absurd (never_some (omega arith))

none_at : (s : Text) → ((k : ℕ) → k < length s → is_byte2 64 58 (get_or s k 0) ≡ true → ⊥) → address_at s ≡ []
none_at s none =
    address_by s ∙ if_none s (beginning_len s) (λ some.
    let sign = (begins s).sign some in
    none sign.0 sign.1 sign.2)

none_from : (s : Text) → ((k : ℕ) → k < length s → is_byte2 64 58 (get_or s k 0) ≡ true → ⊥) → addresses_in s ≡ []
none_from [] none = refl
none_from (c ∷ s) none =
    ap (λ z. z ++ addresses_in s) (none_at (c ∷ s) none) ∙ none_from s (λ k lt. none (suc k) (omega (arith, lt)))

pub none_in : (s : Text) → ((k : ℕ) → 0 ≤ k → k < length s → is_byte2 64 58 (get_or s k 0) ≡ true → ⊥) → addresses_in s ≡ []
none_in s none = none_from s (λ k lt. none k (omega arith) lt)

-- ---- dots at the end of a host

and_true : (b : Bool) → (b && true) ≡ b
and_true true = refl
and_true false = refl

never : (b : Bool) → (b && false) ≡ false
never true = refl
never false = refl

-- whether all are dots
abbrev all_dots : Text → Bool
all_dots xs = list_all (λ d. d == dot) xs

push_by : (c : ℕ) (xs : Text) (a b : Bool) → a ≡ b → trim_dots (xs ++ dot ∷ []) ≡ trim_dots xs → (if a then [] else c ∷ trim_dots (xs ++ dot ∷ [])) ≡ (if b then [] else c ∷ trim_dots xs)
push_by c xs true true e later = refl
push_by c xs false false e later = ap (λ z. c ∷ z) later
push_by c xs true false e later = absurd cc
push_by c xs false true e later = absurd cc

trim_push : (xs : Text) → trim_dots (xs ++ dot ∷ []) ≡ trim_dots xs
trim_push [] = refl
trim_push (c ∷ xs) =
    push_by c xs (all_dots (c ∷ (xs ++ dot ∷ []))) (all_dots (c ∷ xs))
    (ap (λ b. (c == dot) && b) (list_all-append (λ d. d == dot) xs (dot ∷ []) ∙ and_true (all_dots xs))) (trim_push xs)

trim_other : (xs : Text) (c : ℕ) → (c == dot) ≡ false → trim_dots (xs ++ c ∷ []) ≡ xs ++ c ∷ []
trim_other [] c h = ap (λ b. if b && true then [] else c ∷ []) h
trim_other (x ∷ xs) c h =
    let last : all_dots (c ∷ []) ≡ false = ap (λ b. b && true) h in
    let none : all_dots (x ∷ (xs ++ c ∷ [])) ≡ false =
    ap (λ b. (x == dot) && b) (list_all-append (λ d. d == dot) xs (c ∷ []) ∙ ap (λ b. all_dots xs && b) last ∙ never (all_dots xs)) ∙ never (x == dot) in
    ap (λ b. if b then [] else x ∷ trim_dots (xs ++ c ∷ [])) none ∙ ap (λ z. x ∷ z) (trim_other xs c h)

last_of : (s : Text) (n : ℕ) → 0 < n → n ≤ length s → take n s ≡ take (n - 1) s ++ get_or s (n - 1) 0 ∷ []
last_of s n some le =
    let e : n - 1 + 1 ≡ n = omega (arith, some) in
    rw e at (take_more s (n - 1) 0 (omega (arith, some, le)))

dot_is : (c : ℕ) → c ≡ dot → (c == dot) ≡ true
dot_is c e = grind (arith, nat_tests)

-- a dot is cut
pub trimmed : (s : Text) (n : ℕ) → 0 < n → n ≤ length s → get_or s (n - 1) 0 ≡ 46 → trim_dots (take (n - 1) s) ≡ trim_dots (take n s)
trimmed s n some le is = sym (ap trim_dots (last_of s n some le) ∙ ap (λ c. trim_dots (take (n - 1) s ++ c ∷ [])) is ∙ trim_push (take (n - 1) s))

-- the rest stays
pub untrimmed : (s : Text) (n : ℕ) → 0 < n → n ≤ length s → (get_or s (n - 1) 0 == dot) ≡ false → trim_dots (take n s) ≡ take n s
untrimmed s n some le other =
    ap trim_dots (last_of s n some le) ∙ trim_other (take (n - 1) s) (get_or s (n - 1) 0) other ∙ sym (last_of s n some le)

host_ascii : (c : ℕ) → is_host_byte c ≡ true → c < 128
host_ascii c h = grind (arith, nat_tests)

pub cut_host : (s : Text) (n : ℕ) → n ≤ prefix_len is_host_byte s → Cuts s n
cut_host s n le =
    cut_by_ascii s n (omega (arith, le, prefix_len-le-length is_host_byte s))
    (λ some. host_ascii (get_or s (n - 1) 0) (prefix_len_passes is_host_byte s (n - 1) 0 (omega (arith, some, le))))

any_by : (p : ℕ → Bool) (x : ℕ) (xs : Text) (b : Bool) → not (length (filter p xs) == 0) ≡ list_any p xs → not (length (cond b (x ∷ filter p xs) (filter p xs)) == 0) ≡ (b || list_any p xs)
any_by p x xs true later = ap not (ne_eqb (suc (length (filter p xs))) 0 (λ e. omega (arith, e)))
any_by p x xs false later = later

count_any : (p : ℕ → Bool) (xs : Text) → not (length (filter p xs) == 0) ≡ list_any p xs
count_any p [] = refl
count_any p (x ∷ xs) = any_by p x xs (p x) (count_any p xs)

pub dotted : (s : Text) → has_dot s ≡ list_any (λ c. c == dot) (host_text s)
dotted s = count_any (λ c. c == dot) (host_text s)

-- ---- the last labels of a host

dots_cons : (c : ℕ) (s : Text) → dots s ≤ dots (c ∷ s)
dots_cons c s = by (c == dot)
  where
    by : (b : Bool) → dots s ≤ length (cond b (c ∷ filter (λ d. d == dot) s) (filter (λ d. d == dot) s))
    by true = omega arith
    by false = omega arith

dots_drop : (n : ℕ) (s : Text) → dots (drop n s) ≤ dots s
dots_drop zero s = omega arith
dots_drop (suc n) [] = omega arith
dots_drop (suc n) (c ∷ s) = omega (arith, dots_drop n s, dots_cons c s)

few : (c : ℕ) (s : Text) → dots (c ∷ s) ≤ 1 → last_labels (c ∷ s) ≡ c ∷ s
few c s le =
    let h : nat_le (dots (c ∷ s)) 1 ≡ true = grind (arith, nat_tests) in
    ap (λ b. if b then c ∷ s else last_labels s) h

many : (c : ℕ) (s : Text) → 2 ≤ dots (c ∷ s) → last_labels (c ∷ s) ≡ last_labels s
many c s le =
    let h : nat_le (dots (c ∷ s)) 1 ≡ false = grind (arith, nat_tests) in
    ap (λ b. if b then c ∷ s else last_labels s) h

one_less : (c : ℕ) (s : Text) (n : ℕ) → 0 < n → 2 ≤ dots (drop n (c ∷ s)) → 2 ≤ dots (drop (n - 1) s)
one_less c s zero some two = absurd (omega (arith, some))
one_less c s (suc n) some two =
    let e : suc n - 1 ≡ n = omega arith in
    rw e two

pub labels_from : (s : Text) (n : ℕ) → n ≤ length s → dots (drop n s) ≤ 1 → (0 < n → 2 ≤ dots (drop (n - 1) s)) → last_labels s ≡ drop n s
labels_from [] zero le small_left before = refl
labels_from (c ∷ s) zero le small_left before = few c s small_left
labels_from [] (suc n) le small_left before = absurd (omega (arith, le))
labels_from (c ∷ s) (suc n) le small_left before =
    let e : suc n - 1 ≡ n = omega arith in
    let two : 2 ≤ dots (drop n (c ∷ s)) = rw e at (before (omega arith)) in
    many c s (omega (arith, two, dots_drop n (c ∷ s))) ∙ labels_from s n (omega (arith, le)) small_left (λ some. one_less c s n some two)

front_by : (c : ℕ) (rest : Text) (b : Bool) → length (cond b (c ∷ filter (λ d. d == dot) rest) (filter (λ d. d == dot) rest)) ≡ (if b then 1 else 0) + dots rest
front_by c rest true = omega arith
front_by c rest false = omega arith

front_dots : (s : Text) (i : ℕ) → i < length s → dots (drop i s) ≡ (if get_or s i 0 == dot then 1 else 0) + dots (drop (i + 1) s)
front_dots s i inside = rw (drop_more s i 0 inside) (front_by (get_or s i 0) (drop (i + 1) s) (get_or s i 0 == dot))

-- one byte further to the front
pub dots_before : (s : Text) (n : ℕ) → 0 < n → n ≤ length s → dots (drop (n - 1) s) ≡ (if get_or s (n - 1) 0 == dot then 1 else 0) + dots (drop n s)
dots_before s n some le =
    let e : n - 1 + 1 ≡ n = omega (arith, some) in
    rw e at (front_dots s (n - 1) (omega (arith, some, le)))

-- ---- small letters

small_is : (c : ℕ) → to_ascii_lowercase c ≡ small c
small_is c = grind (arith, nat_tests)

pub all_small : (s : Text) → map to_ascii_lowercase s ≡ map small s
all_small [] = refl
all_small (c ∷ s) = ap (λ x. x ∷ map to_ascii_lowercase s) (small_is c) ∙ ap (λ z. small c ∷ z) (all_small s)

pub at_most_one : (b : Bool) (n : ℕ) → n ≡ (if b then 1 else 0) → n ≤ 1
at_most_one true n h = omega (arith, h)
at_most_one false n h = omega (arith, h)

-- two dots are left
pub two_left : (s : Text) (n : ℕ) (b : Bool) → 0 < n → n ≤ length s → dots (drop n s) ≡ (if b then 1 else 0) → b ≡ true → (get_or s (n - 1) 0 == dot) ≡ true → 2 ≤ dots (drop (n - 1) s)
two_left s n b some le one h is =
    let left : dots (drop n s) ≡ 1 = one ∙ ap (λ b. if b then 1 else 0) h in
    let here : ◌≡◌ {A = ℕ} (if get_or s (n - 1) 0 == dot then 1 else 0) 1 = ap (λ b. if b then 1 else 0) is in
    omega (arith, dots_before s n some le, left, here)

dot_ascii : (c : ℕ) → (c == dot) ≡ true → c < 128
dot_ascii c h = grind (arith, nat_tests)

pub cut_after_dot : (s : Text) (n : ℕ) → n ≤ length s → (get_or s (n - 1) 0 == dot) ≡ true → Cuts s n
cut_after_dot s n le is = cut_by_ascii s n le (λ _. dot_ascii (get_or s (n - 1) 0) is)

-- ---- the address at a place

abbrev of_len : Text → ℕ → List Address
of_len s n = if n == 0 then [] else address_after s n

pub address_is : (s : Text) (n : ℕ) (host at : Text) → n ≡ beginning_len s → 0 < n → host ≡ host_end (drop n s) → at ≡ s → record { host = host; at = at } ∷ [] ≡ address_at s
address_is s n host at e some host_is at_is =
    let here : of_len s n ≡ address_after s n = ap (λ b. if b then [] else address_after s n) (ne_eqb n 0 (λ z. omega (arith, z, some))) in
    rw (host_is, at_is) (sym (address_by s ∙ ap (of_len s) (sym e) ∙ here))

pub no_address : (s : Text) (n : ℕ) → n ≡ beginning_len s → n ≡ 0 → address_at s ≡ []
no_address s n e none = address_by s ∙ ap (of_len s) (sym e ∙ none)

-- the text may be cut before it
pub cut_address : (s : Text) (i n : ℕ) → n ≡ beginning_len (drop i s) → 0 < n → Cuts s i
cut_address s i n e some =
    let there = begins (drop i s) in
    let long : n ≤ length (drop i s) = rw e there.long in
    let zero_more : i + 0 ≡ i = omega arith in
    let first : get_or s i 0 < 128 = rw zero_more at (subst (λ x. x < 128) (get_or-drop i s 0 0) (there.first (omega (arith, e, some)))) in
    cut_before_ascii s i (omega (arith, long, some, length-drop i s)) first
