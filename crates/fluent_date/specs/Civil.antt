-- Which numbers make a date, a time of day and an offset, and what is wrong with others.
use Rattle.std.specs.Prelude.{ℕ, Bool, ◌&&◌, not, nat_lt, nat_le, if◌then◌else◌, ℤ, pos, negsuc, Result, Ok, Err}
use Rattle.fluent_date.specs.Calendar.{in_cycle, days_in}
use Rattle.fluent_date.specs.declared.civil.CivilDate as civil
use Rattle.fluent_date.specs.declared.time.TimeOfDay as time
use Rattle.fluent_date.specs.declared.offset.Offset as offset
use Rattle.fluent_date.specs.declared.error.DateError.{DateError}
use Rattle.fluent_date.specs.declared.error.DateError.TheVariants as wrong

-- years from -9999 to 9999
abbrev pub is_year : ℤ → Bool
is_year (pos year) = nat_le year 9999
is_year (negsuc year) = nat_lt year 9999

abbrev pub is_month : ℕ → Bool
is_month month = nat_le 1 month && nat_le month 12

abbrev pub is_day : ℤ → ℕ → ℕ → Bool
is_day year month day = nat_le 1 day && nat_le day (days_in (in_cycle year) month)

-- the date of these numbers, or the first that is wrong
abbrev pub date_of : ℤ → ℕ → ℕ → Result civil.CivilDate DateError
date_of year month day =
    if not (is_year year) then Err wrong.Year
    else (if not (is_month month) then Err wrong.Month
    else (if not (is_day year month day) then Err wrong.Day
    else Ok (record { year = year; month = month; day = day })))

-- the time of these numbers, or the first that is wrong
abbrev pub time_of : ℕ → ℕ → ℕ → ℕ → Result time.TimeOfDay DateError
time_of hour minute second nanosecond =
    if not (nat_lt hour 24) then Err wrong.Hour
    else (if not (nat_lt minute 60) then Err wrong.Minute
    else (if not (nat_lt second 60) then Err wrong.Second
    else (if not (nat_lt nanosecond 1000000000) then Err wrong.Nanosecond
    else Ok (record { hour = hour; minute = minute; second = second; nanosecond = nanosecond }))))

-- The offset of this number of seconds, if it is less than a day. One of none is never negative.
abbrev pub offset_of : Bool → ℕ → Result offset.Offset DateError
offset_of is_negative seconds =
    if not (nat_lt seconds 86400) then Err wrong.Offset
    else Ok (record { is_negative = is_negative && nat_lt 0 seconds; seconds = seconds })
