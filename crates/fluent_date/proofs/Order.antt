-- The order of dates and of times of day.
use Rattle.std.proofs.Common.{◌≡◌, ◌⊎◌, ◌<◌, ◌<ℤ◌, ℕ, ℤ, inl, inr, refl, sym, Less, Equal, Greater, Ordering}
use Rattle.std.proofs.lemmas.Cmp.{ranked}
use Rattle.std.specs.Cmp.{int_ranks}
use Rattle.std.specs.Ordering.{MatchOrdering, int_cmp, nat_cmp, ordering_then}
use Rattle.fluent_date.specs.Laws.{IsEarlierDate, IsEarlierTime}
use Rattle.fluent_date.specs.declared.civil.CivilDate as civil
use Rattle.fluent_date.specs.declared.time.TimeOfDay as time

-- by one thing, and where that is the same by others
then_ranks : (o p : Ordering) (L E F G M N H : Type 0) → (E → F) → MatchOrdering o L E G → MatchOrdering p M N H → MatchOrdering (ordering_then o p) (L ⊎ (E × M)) (E × N) (G ⊎ (F × H))
then_ranks Less p L E F G M N H flip h k = inl h
then_ranks Equal Less L E F G M N H flip h k = inr (h, k)
then_ranks Equal Equal L E F G M N H flip h k = (h, k)
then_ranks Equal Greater L E F G M N H flip h k = inr (flip h, k)
then_ranks Greater p L E F G M N H flip h k = inl h

where_equal : (o : Ordering) (L E F G : Type 0) → (E → F) → MatchOrdering o L E G → MatchOrdering o L F G
where_equal Less L E F G into h = h
where_equal Equal L E F G into h = into h
where_equal Greater L E F G into h = h

nat_then : (a b : ℕ) (p : Ordering) (M N H : Type 0) → MatchOrdering p M N H
    → MatchOrdering (ordering_then (nat_cmp a b) p) ((a < b) ⊎ ((a ≡ b) × M)) ((a ≡ b) × N) ((b < a) ⊎ ((b ≡ a) × H))
nat_then a b p M N H k = then_ranks (nat_cmp a b) p (a < b) (a ≡ b) (b ≡ a) (b < a) M N H sym (ranked a b (nat_cmp a b) refl) k

int_then : (a b : ℤ) (p : Ordering) (M N H : Type 0) → MatchOrdering p M N H
    → MatchOrdering (ordering_then (int_cmp a b) p) ((a <ℤ b) ⊎ ((a ≡ b) × M)) ((a ≡ b) × N) ((b <ℤ a) ⊎ ((b ≡ a) × H))
int_then a b p M N H k = then_ranks (int_cmp a b) p (a <ℤ b) (a ≡ b) (b ≡ a) (b <ℤ a) M N H sym (int_ranks a b) k

last_ranks : (a b : ℕ) → MatchOrdering (nat_cmp a b) (a < b) (a ≡ b) (b < a)
last_ranks a b = ranked a b (nat_cmp a b) refl

-- which of two months is earlier, and which of two days in one month
abbrev IsEarlierMonth : civil.CivilDate → civil.CivilDate → Type 0
IsEarlierMonth a b = (a.month < b.month) ⊎ ((a.month ≡ b.month) × (a.day < b.day))

pub dates_ordered : (a b : civil.CivilDate) → MatchOrdering (ordering_then (int_cmp a.year b.year) (ordering_then (nat_cmp a.month b.month) (nat_cmp a.day b.day))) (IsEarlierDate a b) (a ≡ b) (IsEarlierDate b a)
dates_ordered a b =
    where_equal (ordering_then (int_cmp a.year b.year) (ordering_then (nat_cmp a.month b.month) (nat_cmp a.day b.day)))
    (IsEarlierDate a b) ((a.year ≡ b.year) × ((a.month ≡ b.month) × (a.day ≡ b.day))) (a ≡ b) (IsEarlierDate b a)
    (λ same j. record { year = same.0 j; month = same.1.0 j; day = same.1.1 j })
    (int_then a.year b.year (ordering_then (nat_cmp a.month b.month) (nat_cmp a.day b.day)) (IsEarlierMonth a b) ((a.month ≡ b.month) × (a.day ≡ b.day)) (IsEarlierMonth b a)
    (nat_then a.month b.month (nat_cmp a.day b.day) (a.day < b.day) (a.day ≡ b.day) (b.day < a.day) (last_ranks a.day b.day)))

-- which of two seconds is earlier, and which of two minutes
abbrev IsEarlierSecond : time.TimeOfDay → time.TimeOfDay → Type 0
IsEarlierSecond a b = (a.second < b.second) ⊎ ((a.second ≡ b.second) × (a.nanosecond < b.nanosecond))

abbrev IsEarlierMinute : time.TimeOfDay → time.TimeOfDay → Type 0
IsEarlierMinute a b = (a.minute < b.minute) ⊎ ((a.minute ≡ b.minute) × IsEarlierSecond a b)

pub times_ordered : (a b : time.TimeOfDay)
    → MatchOrdering (ordering_then (nat_cmp a.hour b.hour) (ordering_then (nat_cmp a.minute b.minute) (ordering_then (nat_cmp a.second b.second) (nat_cmp a.nanosecond b.nanosecond)))) (IsEarlierTime a b) (a ≡ b) (IsEarlierTime b a)
times_ordered a b =
    let seconds = nat_then a.second b.second (nat_cmp a.nanosecond b.nanosecond) (a.nanosecond < b.nanosecond) (a.nanosecond ≡ b.nanosecond) (b.nanosecond < a.nanosecond) (last_ranks a.nanosecond b.nanosecond) in
    let minutes = nat_then a.minute b.minute (ordering_then (nat_cmp a.second b.second) (nat_cmp a.nanosecond b.nanosecond)) (IsEarlierSecond a b) ((a.second ≡ b.second) × (a.nanosecond ≡ b.nanosecond)) (IsEarlierSecond b a) seconds in
    where_equal (ordering_then (nat_cmp a.hour b.hour) (ordering_then (nat_cmp a.minute b.minute) (ordering_then (nat_cmp a.second b.second) (nat_cmp a.nanosecond b.nanosecond))))
    (IsEarlierTime a b) ((a.hour ≡ b.hour) × ((a.minute ≡ b.minute) × ((a.second ≡ b.second) × (a.nanosecond ≡ b.nanosecond)))) (a ≡ b) (IsEarlierTime b a)
    (λ same j. record { hour = same.0 j; minute = same.1.0 j; second = same.1.1.0 j; nanosecond = same.1.1.1 j })
    (nat_then a.hour b.hour (ordering_then (nat_cmp a.minute b.minute) (ordering_then (nat_cmp a.second b.second) (nat_cmp a.nanosecond b.nanosecond))) (IsEarlierMinute a b)
    ((a.minute ≡ b.minute) × ((a.second ≡ b.second) × (a.nanosecond ≡ b.nanosecond))) (IsEarlierMinute b a) minutes)
