-- What is written of a value is read as it.
use Rattle.std.proofs.Common.{◌≡◌, ◌∙◌, ℕ, suc, ◌+◌, ◌*◌, ◌/◌, ◌%◌, ◌<◌, ◌≤◌, Bool, true, false, ◌&&◌, not, ◌||◌, ◌==◌, nat_lt, nat_le, if◌then◌else◌, [], ◌∷◌, ◌++◌, Option, Some, None, Ok, refl, ap, sym, append_assoc, append-nil, codes, pos, arith}
use Rattle.std.specs.Char.{is_ascii_digit}
use Rattle.std.specs.List.{prefix_len}
use Rattle.std.proofs.lemmas.Bool.{and_from, and_parts, eqb-true, leb-true, lt-leb, lt-ltb, ltb-true}
use Rattle.fluent_number.specs.Digits.{Text}
use Rattle.std.specs.Prelude.{Err, Result, int_lt}
use Rattle.fluent_date.specs.Calendar.{days_in, in_cycle, is_leap}
use Rattle.fluent_date.specs.Civil.{date_of, is_day, is_month, is_year, time_of, offset_of}
use Rattle.fluent_date.specs.Iso.{clock_iso, date_iso, fraction_iso, iso_text, minus_iso, odd_seconds_iso, offset_iso, offset_iso_of, sign_iso, time_iso, two, year_iso}
use Rattle.fluent_date.specs.Laws.{IsDate, IsMade, IsOffset, IsTime, offset_shown}
use Rattle.fluent_date.specs.Reading.{after_date, after_sign, before, clock, date, iso_value, odd_seconds, offset_parts, or_text, parts, seconds, signed_offset, some_offset, and_then, two_digits, value_of, zone}
use Rattle.fluent_date.specs.declared.civil.CivilDate as civil
use Rattle.fluent_date.specs.declared.time.TimeOfDay as time
use Rattle.fluent_date.specs.declared.offset.Offset as offset
use Rattle.fluent_date.specs.declared.date_time.FluentDateTime as date_time
use Rattle.fluent_date.proofs.Digits.{nine, nine_read, two_read, two_same}

-- a date from the numbers that its text has
pub date_step : (text r1 r2 r3 rest : Text) (century year month day : ℕ) → two_digits text ≡ Some (century, r1) → two_digits r1 ≡ Some (year, r2) → after_sign r2 45 ≡ Some (month, r3) → after_sign r3 45 ≡ Some (day, rest)
    → date text ≡ before (date_of (pos (century * 100 + year)) month day) rest
date_step text r1 r2 r3 rest century year month day e1 e2 e3 e4 = rw e1 (rw e2 (rw e3 (rw e4 refl)))

-- the text of a date, and then another
abbrev after_year : ℕ → ℕ → Text → Text
after_year month day rest = 45 ∷ (two month ++ 45 ∷ (two day ++ rest))

-- a year that isn't negative has no sign
unsigned : (year : ℕ) → int_lt (pos year) (pos 0) ≡ false
unsigned year = lt-leb (suc year) 0 (omega arith)

year_text : (year : ℕ) → year_iso (pos year) ≡ two (year / 100) ++ two year
year_text year = ap (λ b. minus_iso b ++ (two (year / 100) ++ two year)) (unsigned year)

date_text : (d : civil.CivilDate) (year : ℕ) (rest : Text) → d.year ≡ pos year → date_iso d ++ rest ≡ two (year / 100) ++ (two year ++ after_year d.month d.day rest)
date_text d year rest is =
    ap (λ y. (year_iso y ++ (codes "-" ++ (two d.month ++ (codes "-" ++ two d.day)))) ++ rest) is
    ∙ append_assoc (year_iso (pos year)) (codes "-" ++ (two d.month ++ (codes "-" ++ two d.day))) rest
    ∙ ap (λ t. t ++ ((codes "-" ++ (two d.month ++ (codes "-" ++ two d.day))) ++ rest)) (year_text year)
    ∙ append_assoc (two (year / 100)) (two year) ((codes "-" ++ (two d.month ++ (codes "-" ++ two d.day))) ++ rest)
    ∙ ap (λ t. two (year / 100) ++ (two year ++ 45 ∷ t)) (append_assoc (two d.month) (codes "-" ++ two d.day) rest)

-- ---- what constructors make is small

if_ok : {A E : Type 0} (b : Bool) (e : E) (r : Result A E) (a : A) → (if not b then Err e else r) ≡ Ok a → (b ≡ true) × (r ≡ Ok a)
if_ok true e r a h = (refl, h)
if_ok false e r a h = cc

days_most : (a b c d : Bool) → (if a then (if b then 29 else 28) else (if c then 30 else (if d then 31 else 0))) ≤ 31
days_most true true c d = omega arith
days_most true false c d = omega arith
days_most false b true d = omega arith
days_most false b false true = omega arith
days_most false b false false = omega arith

few_days : (year month : ℕ) → days_in year month ≤ 31
few_days year month =
    days_most (month == 2) (is_leap year) (month == 4 || (month == 6 || (month == 9 || month == 11))) (nat_lt 0 month && nat_lt month 13)

record IsSmallDate (y m d : ℕ) : Type 0 where
  year : y ≤ 9999
  month : m ≤ 12
  day : d ≤ 31

small_date : (year month day : ℕ) (d : civil.CivilDate) → date_of (pos year) month day ≡ Ok d → IsSmallDate year month day
small_date year month day d made =
    let y = if_ok (is_year (pos year)) _ _ d made in
    let m = if_ok (is_month month) _ _ d y.1 in
    let n = if_ok (is_day (pos year) month day) _ _ d m.1 in
    let months = leb-true month 12 (and_parts (nat_le 1 month) (nat_le month 12) m.0).1 in
    let days = leb-true day (days_in (in_cycle (pos year)) month) (and_parts (nat_le 1 day) (nat_le day (days_in (in_cycle (pos year)) month)) n.0).1 in
    record { year = leb-true year 9999 y.0; month = months; day = omega (arith, days, few_days (in_cycle (pos year)) month) }

date_back : (d : civil.CivilDate) (year : ℕ) (rest : Text) → d.year ≡ pos year → IsDate d → date (date_iso d ++ rest) ≡ Ok (d, rest)
date_back d year rest is made =
    let there : date_of (pos year) d.month d.day ≡ Ok d = sym (ap (λ y. date_of y d.month d.day) is) ∙ made in
    let small = small_date year d.month d.day d there in
    let first = two_same (year / 100) (two year ++ after_year d.month d.day rest) (omega (arith, small.year)) in
    let second = two_read year (after_year d.month d.day rest) in
    let third = two_same d.month (45 ∷ (two d.day ++ rest)) (omega (arith, small.month)) in
    let fourth = two_same d.day rest (omega (arith, small.day)) in
    let whole : year / 100 * 100 + year % 100 ≡ year = omega arith in
    ap date (date_text d year rest is)
    ∙ date_step (two (year / 100) ++ (two year ++ after_year d.month d.day rest)) (two year ++ after_year d.month d.day rest) (after_year d.month d.day rest) (45 ∷ (two d.day ++ rest)) rest (year / 100) (year % 100) d.month d.day first second third fourth
    ∙ ap (λ y. before (date_of (pos y) d.month d.day) rest) whole
    ∙ ap (λ r. before r rest) there

-- ---- times

-- what may be after a clock: no fraction, and no digit
pub record IsAfterClock (rest : Text) : Type 0 where
  pub whole : parts rest ≡ Ok (0, rest)
  pub other : prefix_len is_ascii_digit rest ≡ 0

parts_by : (b : Bool) (n : ℕ) (rest : Text) → (n == 0) ≡ b → n < 1000000000 → IsAfterClock rest → parts (fraction_iso n ++ rest) ≡ Ok (n, rest)
parts_by true n rest test small end =
    ap (λ t. parts ((if t then [] else codes "." ++ nine n) ++ rest)) test
    ∙ end.whole ∙ ap (λ m. Ok (m, rest)) (sym (eqb-true n 0 test))
parts_by false n rest test small end =
    ap (λ t. parts ((if t then [] else codes "." ++ nine n) ++ rest)) test
    ∙ ap or_text (nine_read n rest small end.other)

seconds_step : (text r1 r2 : Text) (second nanosecond : ℕ) → two_digits text ≡ Some (second, r1) → parts r1 ≡ Ok (nanosecond, r2) → seconds (58 ∷ text) ≡ Ok ((second, nanosecond), r2)
seconds_step text r1 r2 second nanosecond e1 e2 = rw e1 (rw e2 refl)

pub clock_step : (text r1 r2 rest : Text) (hour minute second nanosecond : ℕ) → two_digits text ≡ Some (hour, r1) → after_sign r1 58 ≡ Some (minute, r2) → seconds r2 ≡ Ok ((second, nanosecond), rest)
    → clock text ≡ before (time_of hour minute second nanosecond) rest
clock_step text r1 r2 rest hour minute second nanosecond e1 e2 e3 = rw e1 (rw e2 (rw e3 refl))

record IsSmallTime (t : time.TimeOfDay) : Type 0 where
  hour : t.hour < 24
  minute : t.minute < 60
  second : t.second < 60
  nanosecond : t.nanosecond < 1000000000

small_time : (t : time.TimeOfDay) → time_of t.hour t.minute t.second t.nanosecond ≡ Ok t → IsSmallTime t
small_time t made =
    let h = if_ok (nat_lt t.hour 24) _ _ t made in
    let m = if_ok (nat_lt t.minute 60) _ _ t h.1 in
    let s = if_ok (nat_lt t.second 60) _ _ t m.1 in
    let n = if_ok (nat_lt t.nanosecond 1000000000) _ _ t s.1 in
    record {
      hour = ltb-true t.hour 24 h.0;
      minute = ltb-true t.minute 60 m.0;
      second = ltb-true t.second 60 s.0;
      nanosecond = ltb-true t.nanosecond 1000000000 n.0;
    }

abbrev after_minute : time.TimeOfDay → Text → Text
after_minute t rest = 58 ∷ (two t.second ++ (fraction_iso t.nanosecond ++ rest))

time_text : (t : time.TimeOfDay) (rest : Text) → time_iso t ++ rest ≡ two t.hour ++ 58 ∷ (two t.minute ++ after_minute t rest)
time_text t rest =
    append_assoc (two t.hour) (codes ":" ++ (two t.minute ++ (codes ":" ++ (two t.second ++ fraction_iso t.nanosecond)))) rest
    ∙ ap (λ x. two t.hour ++ 58 ∷ x) (append_assoc (two t.minute) (codes ":" ++ (two t.second ++ fraction_iso t.nanosecond)) rest)
    ∙ ap (λ x. two t.hour ++ 58 ∷ (two t.minute ++ 58 ∷ x)) (append_assoc (two t.second) (fraction_iso t.nanosecond) rest)

clock_back : (t : time.TimeOfDay) (rest : Text) → time_of t.hour t.minute t.second t.nanosecond ≡ Ok t → IsAfterClock rest → clock (time_iso t ++ rest) ≡ Ok (t, rest)
clock_back t rest made end =
    let small = small_time t made in
    let first = two_same t.hour (58 ∷ (two t.minute ++ after_minute t rest)) (omega (arith, small.hour)) in
    let second = two_same t.minute (after_minute t rest) (omega (arith, small.minute)) in
    let third = two_same t.second (fraction_iso t.nanosecond ++ rest) (omega (arith, small.second)) in
    let fourth = parts_by (t.nanosecond == 0) t.nanosecond rest refl small.nanosecond end in
    ap clock (time_text t rest)
    ∙ clock_step (two t.hour ++ 58 ∷ (two t.minute ++ after_minute t rest)) (58 ∷ (two t.minute ++ after_minute t rest)) (after_minute t rest) rest t.hour t.minute t.second t.nanosecond first second
    (seconds_step (two t.second ++ (fraction_iso t.nanosecond ++ rest)) (fraction_iso t.nanosecond ++ rest) rest t.second t.nanosecond third fourth)
    ∙ ap (λ r. before r rest) made

-- ---- offsets

pub signed_step : (is_negative : Bool) (text r1 r2 rest : Text) (hours minutes seconds : ℕ) → two_digits text ≡ Some (hours, r1) → after_sign r1 58 ≡ Some (minutes, r2) → odd_seconds r2 ≡ Some (seconds, rest)
    → signed_offset is_negative text ≡ offset_parts is_negative hours minutes seconds rest
signed_step is_negative text r1 r2 rest hours minutes seconds e1 e2 e3 = rw e1 (rw e2 (rw e3 refl))

odd_by : (b : Bool) (k : ℕ) → (k == 0) ≡ b → k < 60 → odd_seconds (odd_seconds_iso k) ≡ Some (k, [])
odd_by true k test small =
    ap (λ t. odd_seconds (if t then [] else codes ":" ++ two k)) test ∙ ap (λ m. Some (m, [])) (sym (eqb-true k 0 test))
odd_by false k test small =
    ap (λ t. odd_seconds (if t then [] else codes ":" ++ two k)) test
    ∙ ap two_digits (sym (append-nil (two k))) ∙ two_same k [] (omega (arith, small))

abbrev after_offset_sign : ℕ → Text
after_offset_sign s = two (s / 3600) ++ (codes ":" ++ (two (s / 60 % 60) ++ odd_seconds_iso (s % 60)))

signed_back : (is_negative : Bool) (o : offset.Offset) → offset_of is_negative o.seconds ≡ Ok o → signed_offset is_negative (after_offset_sign o.seconds) ≡ Ok o
signed_back is_negative o made =
    let s = o.seconds in
    let small = ltb-true s 86400 (if_ok (nat_lt s 86400) _ _ o made).0 in
    let m = s / 60 % 60 in
    let k = s % 60 in
    let first = two_same (s / 3600) (codes ":" ++ (two m ++ odd_seconds_iso k)) (omega (arith, small)) in
    let second = two_same m (odd_seconds_iso k) (omega arith) in
    let third = odd_by (k == 0) k refl (omega arith) in
    let below = and_from (nat_lt m 60) (nat_lt k 60) (lt-ltb m 60 (omega arith)) (lt-ltb k 60 (omega arith)) in
    let whole : s / 3600 * 3600 + m * 60 + k ≡ s = omega arith in
    signed_step is_negative (after_offset_sign s) (codes ":" ++ (two m ++ odd_seconds_iso k)) (odd_seconds_iso k) [] (s / 3600) m k first second third
    ∙ rw below (ap (offset_of is_negative) whole ∙ made)

utc_back : (is_negative : Bool) (o : offset.Offset) → offset_of is_negative 0 ≡ Ok o → zone (codes "Z") ≡ Ok (Some o)
utc_back true o made = ap some_offset made
utc_back false o made = ap some_offset made

zone_by : (b negative : Bool) (o : offset.Offset) → (o.seconds == 0) ≡ b → o.is_negative ≡ negative → offset_of negative o.seconds ≡ Ok o → zone (offset_iso o) ≡ Ok (Some o)
zone_by true negative o test sign made =
    ap (λ t. zone (if t then codes "Z" else sign_iso o.is_negative ++ after_offset_sign o.seconds)) test
    ∙ utc_back negative o (ap (offset_of negative) (sym (eqb-true o.seconds 0 test)) ∙ made)
zone_by false true o test sign made =
    ap (λ t. zone (if t then codes "Z" else sign_iso o.is_negative ++ after_offset_sign o.seconds)) test
    ∙ ap (λ n. zone (sign_iso n ++ after_offset_sign o.seconds)) sign
    ∙ ap some_offset (signed_back true o made)
zone_by false false o test sign made =
    ap (λ t. zone (if t then codes "Z" else sign_iso o.is_negative ++ after_offset_sign o.seconds)) test
    ∙ ap (λ n. zone (sign_iso n ++ after_offset_sign o.seconds)) sign
    ∙ ap some_offset (signed_back false o made)

zone_back : (o : Option offset.Offset) → IsOffset o → zone (offset_iso_of o) ≡ Ok o
zone_back None made = refl
zone_back (Some o) made = zone_by (o.seconds == 0) o.is_negative o refl refl made

after_clock_by : (zero negative : Bool) (more : Text) → IsAfterClock (if zero then codes "Z" else sign_iso negative ++ more)
after_clock_by true negative more = record { whole = refl; other = refl }
after_clock_by false true more = record { whole = refl; other = refl }
after_clock_by false false more = record { whole = refl; other = refl }

after_clock : (o : Option offset.Offset) → IsAfterClock (offset_iso_of o)
after_clock None = record { whole = refl; other = refl }
after_clock (Some o) = after_clock_by (o.seconds == 0) o.is_negative (after_offset_sign o.seconds)

-- ---- values

after_step : (d : civil.CivilDate) (text rest : Text) (t : time.TimeOfDay) (o : Option offset.Offset) → clock text ≡ Ok (t, rest) → zone rest ≡ Ok o → after_date d (84 ∷ text) ≡ Ok (value_of d (Some t) o)
after_step d text rest t o e1 e2 = rw e1 (rw e2 refl)

clock_of_back : (d : civil.CivilDate) (t : Option time.TimeOfDay) (o : Option offset.Offset) → IsTime t → IsOffset o → after_date d (clock_iso t o) ≡ Ok (value_of d t (offset_shown t o))
clock_of_back d None o made offset_made = refl
clock_of_back d (Some t) o made offset_made =
    after_step d (time_iso t ++ offset_iso_of o) (offset_iso_of o) t o (clock_back t (offset_iso_of o) made (after_clock o)) (zone_back o offset_made)

pub reads_its_text : (value : date_time.FluentDateTime) (year : ℕ) → IsMade value → value.date.year ≡ pos year
    → iso_value (iso_text value) ≡ Ok (value_of value.date value.time (offset_shown value.time value.offset))
reads_its_text value year made is =
    ap (λ r. and_then r (λ d. after_date d.0 d.1)) (date_back value.date year (clock_iso value.time value.offset) is made.date)
    ∙ clock_of_back value.date value.time value.offset made.time made.offset
