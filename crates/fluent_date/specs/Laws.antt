-- The laws of dates and times.
use Rattle.std.specs.Prelude.{◌≡◌, ◌↔◌, ◌⊎◌, ◌<◌, ◌<ℤ◌, ℕ, Bool, true, IfSome, Option, Some, None, Ok, pos}
use Rattle.std.specs.Ordering.{MatchOrdering}
use Rattle.std.specs.declared.cmp.Ordering.{Ordering}
use Rattle.fluent_date.specs.Civil.{date_of, time_of, offset_of}
use Rattle.fluent_date.specs.Iso.{iso_text}
use Rattle.fluent_date.specs.Reading.{iso_value, value_of}
use Rattle.fluent_date.specs.declared.civil.CivilDate as civil
use Rattle.fluent_date.specs.declared.time.TimeOfDay as time
use Rattle.fluent_date.specs.declared.offset.Offset as offset
use Rattle.fluent_date.specs.declared.date_time.FluentDateTime as date_time

-- what constructors make
abbrev pub IsDate : civil.CivilDate → Type 0
IsDate d = date_of d.year d.month d.day ≡ Ok d

abbrev pub IsTime : Option time.TimeOfDay → Type 0
IsTime of_day = IfSome of_day (λ t. time_of t.hour t.minute t.second t.nanosecond ≡ Ok t)

abbrev pub IsOffset : Option offset.Offset → Type 0
IsOffset known = IfSome known (λ o. offset_of o.is_negative o.seconds ≡ Ok o)

pub record IsMade (value : date_time.FluentDateTime) : Type 0 where
  pub date : IsDate value.date
  pub time : IsTime value.time
  pub offset : IsOffset value.offset

-- the offset that a text shows: that of a clock
abbrev pub offset_shown : Option time.TimeOfDay → Option offset.Offset → Option offset.Offset
offset_shown None o = None
offset_shown (Some t) o = o

-- A value of which constructors made the parts, and whose year isn't negative, is read as itself from its own text: its options aren't
-- written, and neither is the offset of a day as such.
abbrev pub ReadsItsText : Type 0
ReadsItsText =
    (value : date_time.FluentDateTime) (year : ℕ) → IsMade value → value.date.year ≡ pos year
    → iso_value (iso_text value) ≡ Ok (value_of value.date value.time (offset_shown value.time value.offset))

-- ---- order and equality

-- whether a date or a time of day is before another
abbrev pub IsEarlierDate : civil.CivilDate → civil.CivilDate → Type 0
IsEarlierDate a b =
    (a.year <ℤ b.year) ⊎ ((a.year ≡ b.year) × ((a.month < b.month) ⊎ ((a.month ≡ b.month) × (a.day < b.day))))

abbrev pub IsEarlierTime : time.TimeOfDay → time.TimeOfDay → Type 0
IsEarlierTime a b =
    (a.hour < b.hour) ⊎ ((a.hour ≡ b.hour) × ((a.minute < b.minute) ⊎ ((a.minute ≡ b.minute)
    × ((a.second < b.second) ⊎ ((a.second ≡ b.second) × (a.nanosecond < b.nanosecond))))))

-- Of two values the earlier is less, and those that are equal are the same.
abbrev pub OrdersBy : {A : Type 0} → (A → A → Ordering) → (A → A → Type 0) → Type 0
OrdersBy {A} cmp earlier = (a b : A) → MatchOrdering (cmp a b) (earlier a b) (a ≡ b) (earlier b a)

-- Values are equal exactly if they are the same.
abbrev pub EqualIfSame : {A : Type 0} → (A → A → Bool) → Type 0
EqualIfSame {A} equal = (a b : A) → (equal a b ≡ true) ↔ (a ≡ b)
