-- The Gregorian calendar, also for the time before it was made: years, months, days, weekdays.
use Rattle.std.specs.Prelude.{ℕ, zero, suc, true, false, ◌+◌, ◌-◌, ◌*◌, ◌/◌, ◌%◌, Bool, ◌&&◌, ◌||◌, not, ◌==◌, nat_lt, if◌then◌else◌, ℤ, pos, negsuc}
use Rattle.fluent_date.specs.declared.calendar.Weekday.{Weekday}
use Rattle.fluent_date.specs.declared.calendar.Weekday.TheVariants.{Sunday, Monday, Tuesday, Wednesday, Thursday, Friday, Saturday}

-- a year modulo 400, also of years before the year 0
abbrev pub in_cycle : ℤ → ℕ
in_cycle (pos year) = year % 400
in_cycle (negsuc year) = 399 - year % 400

-- Whether a year, modulo 400, has 366 days: each fourth does, but for those of a century that 400 doesn't divide.
abbrev pub is_leap : ℕ → Bool
is_leap year = year % 4 == 0 && (not (year % 100 == 0) || year % 400 == 0)

-- the days of a month in a year modulo 400; none if there is no such month
abbrev pub days_in : ℕ → ℕ → ℕ
days_in year month =
    if month == 2 then (if is_leap year then 29 else 28)
    else (if month == 4 || (month == 6 || (month == 9 || month == 11)) then 30
    else (if nat_lt 0 month && nat_lt month 13 then 31 else 0))

-- The weekday, from Sunday, 0. January and February count as months 13 and 14 of the year before; 400 years are complete weeks.
abbrev pub weekday_by : ℕ → ℕ → ℕ → ℕ
weekday_by year month day = (day + 13 * (month + 1) / 5 + year + year / 4 - year / 100 + year / 400 + 6) % 7

abbrev pub weekday : ℤ → ℕ → ℕ → ℕ
weekday year month day =
    if nat_lt month 3 then weekday_by (in_cycle year + 399) (month + 12) day else weekday_by (in_cycle year) month day

abbrev pub weekday_number : Weekday → ℕ
weekday_number Sunday = 0
weekday_number Monday = 1
weekday_number Tuesday = 2
weekday_number Wednesday = 3
weekday_number Thursday = 4
weekday_number Friday = 5
weekday_number Saturday = 6

-- whether a date is before the first year
abbrev pub is_before_christ : ℤ → Bool
is_before_christ (pos zero) = true
is_before_christ (pos (suc year)) = false
is_before_christ (negsuc year) = true

-- the year of its era: 1 BC is the year 0, and 2 BC the year -1
abbrev pub year_of_era : ℤ → ℕ
year_of_era (pos zero) = 1
year_of_era (pos (suc year)) = suc year
year_of_era (negsuc year) = year + 2
