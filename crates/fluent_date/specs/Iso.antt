-- Dates and times as ISO 8601 writes them.
use Rattle.std.specs.Prelude.{ℕ, Bool, true, false, ◌+◌, ◌/◌, ◌%◌, ◌==◌, if◌then◌else◌, [], ◌++◌, encode_utf8, Option, Some, None, codes, ℤ, pos, int_lt, unsigned_abs}
use Rattle.fluent_number.specs.Digits.{Text}
use Rattle.fluent_date.specs.declared.civil.CivilDate as civil
use Rattle.fluent_date.specs.declared.time.TimeOfDay as time
use Rattle.fluent_date.specs.declared.offset.Offset as offset
use Rattle.fluent_date.specs.declared.date_time.FluentDateTime as date_time

-- the last digit of a number, and its last two
abbrev pub digit : ℕ → Text
digit n = encode_utf8 (48 + n % 10)

abbrev pub two : ℕ → Text
two n = digit (n / 10) ++ digit n

-- the sign of a negative number, and of any
abbrev pub minus_iso : Bool → Text
minus_iso true = codes "-"
minus_iso false = []

abbrev pub sign_iso : Bool → Text
sign_iso true = codes "-"
sign_iso false = codes "+"

-- a minus before a negative year, and its four digits
abbrev pub year_iso : ℤ → Text
year_iso year = let size = unsigned_abs year in minus_iso (int_lt year (pos 0)) ++ (two (size / 100) ++ two size)

abbrev pub date_iso : civil.CivilDate → Text
date_iso d = year_iso d.year ++ (codes "-" ++ (two d.month ++ (codes "-" ++ two d.day)))

-- a second's fraction: a point and nine digits, or nothing if it is none
abbrev pub fraction_iso : ℕ → Text
fraction_iso n =
    if n == 0 then []
    else codes "." ++ (two (n / 10000000) ++ (two (n / 100000) ++ (two (n / 1000) ++ (two (n / 10) ++ digit n))))

abbrev pub time_iso : time.TimeOfDay → Text
time_iso t =
    two t.hour ++ (codes ":" ++ (two t.minute ++ (codes ":" ++ (two t.second ++ fraction_iso t.nanosecond))))

abbrev pub odd_seconds_iso : ℕ → Text
odd_seconds_iso seconds = if seconds == 0 then [] else codes ":" ++ two seconds

-- `Z`, or a sign with hours and minutes, and seconds if there are any
abbrev pub offset_iso : offset.Offset → Text
offset_iso o =
    if o.seconds == 0 then codes "Z"
    else sign_iso o.is_negative ++ (two (o.seconds / 3600) ++ (codes ":" ++ (two (o.seconds / 60 % 60)
    ++ odd_seconds_iso (o.seconds % 60))))

abbrev pub offset_iso_of : Option offset.Offset → Text
offset_iso_of None = []
offset_iso_of (Some o) = offset_iso o

abbrev pub clock_iso : Option time.TimeOfDay → Option offset.Offset → Text
clock_iso None offset = []
clock_iso (Some t) offset = codes "T" ++ (time_iso t ++ offset_iso_of offset)

-- the date, and the time and the offset if there are any: `2026-11-28T20:26:05+01:00`
abbrev pub iso_text : date_time.FluentDateTime → Text
iso_text value = date_iso value.date ++ clock_iso value.time value.offset
