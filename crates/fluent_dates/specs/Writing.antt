-- The text of a date and time in a locale.
use Rattle.std.specs.Prelude.{ℕ, ℤ, ◌+◌, ◌-◌, ◌/◌, ◌%◌, Bool, true, false, ◌&&◌, ◌||◌, not, ◌==◌, nat_lt, nat_le, if◌then◌else◌, List, [], ◌∷◌, ◌++◌, Option, Some, None, codes, encode_utf8, slice_index_or, length}
use Rattle.std.specs.Int.{from_bool}
use Rattle.fluent_date.specs.Calendar.{weekday, year_of_era, is_before_christ}
use Rattle.fluent_dates.specs.Fields.{Field, letter, is_any}
use Rattle.fluent_dates.specs.Items.{shows}
use Rattle.fluent_date_tables.specs.Parts.{part}
use Rattle.fluent_dates.specs.Numbers.{number}
use Rattle.fluent_dates.specs.Patterns.{pattern_of}
use Rattle.fluent_date_tables.specs.Tables.{Text, Row, utf8}
use Rattle.fluent_date_tables.specs.Texts.{text_numbered}
use Rattle.fluent_dates.specs.declared.items.Item.{Item}
use Rattle.fluent_dates.specs.declared.items.Item.TheVariants as item
use Rattle.fluent_date.specs.declared.civil.CivilDate as civil_date
use Rattle.fluent_date.specs.declared.time.TimeOfDay as time_of_day
use Rattle.fluent_date.specs.declared.offset.Offset as offset
use Rattle.fluent_date.specs.declared.date_time.FluentDateTime as date_time

-- an hour from 0 to 23 as it is counted
abbrev pub hour_shown : ℕ → ℕ → ℕ
hour_shown letter hour =
    if is_any letter (codes "h") then (if hour % 12 == 0 then 12 else hour % 12)
    else (if is_any letter (codes "K") then hour % 12
    else (if is_any letter (codes "k") then (if hour == 0 then 24 else hour) else hour))

-- the place of names of a width: abbreviated, wide, narrow
abbrev pub width_place : ℕ → ℕ
width_place count = if count == 4 then 1 else (if count == 5 then 2 else 0)

abbrev pub names : List ℕ → ℕ → Text
names numbers count = text_numbered (slice_index_or numbers (width_place count) 0)

abbrev pub is_empty : Text → Bool
is_empty text = length text == 0

abbrev pub half_text : Row → ℕ → ℕ → Text
half_text row hour count = part (names row.halves count) (hour / 12)

-- whether the time as it is shown is 12 sharp
abbrev pub is_noon : time_of_day.TimeOfDay → Bool → Bool → Bool
is_noon t shows_minute shows_second =
    t.hour == 12 && ((not shows_minute || t.minute == 0) && (not shows_second || t.second == 0))

-- the name of an hour's part of the day, which is a digit or `-`
abbrev pub usual_part : Text → ℕ → Text
usual_part names c = if nat_le 48 c && nat_le c 57 then part names (c - 48) else []

-- the part of the day: noon if it is that and has a name; the empty text if there is no name
abbrev pub part_name : Row → time_of_day.TimeOfDay → ℕ → Bool → Bool → Text
part_name row t count shows_minute shows_second =
    let hours = text_numbered row.hours in
    let parts = names row.parts count in
    if nat_lt 24 (length hours) && (is_noon t shows_minute shows_second && not (is_empty (part parts 1))) then part parts 1
    else usual_part parts (slice_index_or hours t.hour 45)

-- the part of the day in a pattern of these items, or the half of the day if it has no name
abbrev pub part_text : Row → time_of_day.TimeOfDay → ℕ → List Item → Text
part_text row t count items =
    let name = part_name row t count (shows items (letter "m")) (shows items (letter "s")) in
    if is_empty name then half_text row t.hour count else name

-- a part of a form, if it is shown
abbrev pub part_if : Text → ℕ → Bool → Text
part_if form number true = part form number
part_if form number false = []

-- minutes or seconds of an offset after their sign, if they are shown
abbrev pub counted_if : Row → Text → ℕ → Bool → Text
counted_if row form value true = part form 6 ++ number row.digits value 2
counted_if row form value false = []

-- the hours of an offset, its minutes if they are shown, and its seconds if not zero
abbrev pub counts : Row → Text → ℕ → ℕ → Bool → Text
counts row form seconds least has_minutes =
    number row.digits (seconds / 3600) least
    ++ (counted_if row form (seconds / 60 % 60) has_minutes ++ counted_if row form (seconds % 60) (nat_lt 0 (seconds % 60)))

-- whether an offset is shown with its minutes: if long, or if it isn't of complete hours
abbrev pub shows_minutes : ℕ → Bool → Bool
shows_minutes seconds is_long = is_long || (nat_lt 0 (seconds / 60 % 60) || nat_lt 0 (seconds % 60))

-- the place of what is before the hours, in the form of an offset
abbrev pub side_of : Bool → ℕ
side_of true = 4
side_of false = 2

-- the number of digits that the hours have at least
abbrev pub hour_digits : Bool → ℕ
hour_digits true = 2
hour_digits false = 1

-- how far a clock is from UTC
abbrev pub offset_text : Row → offset.Offset → Bool → Text
offset_text row o is_long =
    let form = text_numbered row.gmt in
    let side = side_of o.is_negative in
    let has_minutes = shows_minutes o.seconds is_long in
    part form 0 ++ (part form side ++ (counts row form o.seconds (hour_digits is_long) has_minutes
    ++ (part_if form (side + 1) has_minutes ++ part form 1)))

-- the name of UTC that a field asks for, or the empty text if it asks for none
abbrev pub utc_name : Row → offset.Offset → Field → Text
utc_name row o field =
    if field.letter == letter "z" && o.seconds == 0 then part (text_numbered row.utc) (from_bool (field.count == 4)) else []

-- the zone: UTC by its name if it is asked for and there is one
abbrev pub zone_text : Row → offset.Offset → Field → Text
zone_text row o field =
    let name = utc_name row o field in if is_empty name then offset_text row o (field.count == 4) else name

abbrev pub month_text : Row → ℕ → List ℕ → ℕ → Text
month_text row month lists count = if nat_lt count 3 then number row.digits month count else part (names lists count) (month - 1)

abbrev pub year_text : Row → ℕ → ℕ → Text
year_text row year count = if count == 2 then number row.digits (year % 100) 2 else number row.digits year count

-- the first digits of the second's parts: one, two or three
abbrev pub fraction_text : Row → ℕ → ℕ → Text
fraction_text row nanosecond count =
    if count == 1 then number row.digits (nanosecond / 100000000) 1
    else (if count == 2 then number row.digits (nanosecond / 10000000) 2 else number row.digits (nanosecond / 1000000) 3)

abbrev pub roman : ℕ → Text
roman month = part (utf8 "i|ii|iii|iv|v|vi|vii|viii|ix|x|xi|xii") (month - 1)

-- the place of an era: that before the year 1, and that since
abbrev pub era_of : ℤ → ℕ
era_of year = if is_before_christ year then 0 else 1

-- the name of the era or the weekday of a date, or its month in small Roman numbers
abbrev pub date_name : Row → civil_date.CivilDate → Field → Text
date_name row d field =
    let c = field.letter in
    let day = weekday d.year d.month d.day in
    if c == letter "G" then part (names row.eras field.count) (era_of d.year)
    else (if c == letter "r" then roman d.month
    else (if c == letter "E" then part (names row.day field.count) day else part (names row.own_day field.count) day))

-- the year, the month or the day of a date
abbrev pub date_number : Row → civil_date.CivilDate → Field → Text
date_number row d field =
    let c = field.letter in
    let count = field.count in
    if c == letter "y" then year_text row (year_of_era d.year) count
    else (if c == letter "M" then month_text row d.month row.month count
    else (if c == letter "L" then month_text row d.month row.own_month count
    else number row.digits d.day count))

-- the minute, the second, its fraction or the hour of a time
abbrev pub clock_text : Row → time_of_day.TimeOfDay → Field → Text
clock_text row t field =
    let c = field.letter in
    let count = field.count in
    if c == letter "m" then number row.digits t.minute count
    else (if c == letter "s" then number row.digits t.second count
    else (if c == letter "S" then fraction_text row t.nanosecond count
    else number row.digits (hour_shown c t.hour) count))

-- a field of a time in a pattern of these items
abbrev pub time_field_text : Row → time_of_day.TimeOfDay → List Item → Field → Text
time_field_text row t items field =
    if field.letter == letter "a" then half_text row t.hour field.count
    else (if field.letter == letter "B" then part_text row t field.count items else clock_text row t field)

abbrev pub if_time : Row → Option time_of_day.TimeOfDay → List Item → Field → Text
if_time row None items field = []
if_time row (Some t) items field = time_field_text row t items field

abbrev pub if_zone : Row → Option offset.Offset → Field → Text
if_zone row None field = []
if_zone row (Some o) field = zone_text row o field

-- a field of a pattern of these items; what a value has nothing for is left out
abbrev pub field_text : Row → date_time.FluentDateTime → List Item → Field → Text
field_text row value items field =
    if is_any field.letter (codes "GrEc") then date_name row value.date field
    else (if is_any field.letter (codes "yMLd") then date_number row value.date field
    else (if is_any field.letter (codes "zOvZ") then if_zone row value.offset field
    else if_time row value.time items field))

abbrev pub item_text : Row → date_time.FluentDateTime → List Item → Item → Text
item_text row value items (item.Char c) = encode_utf8 c
item_text row value items (item.Field field) = field_text row value items field

-- what is left of a pattern of these items, written
abbrev pub written : Row → date_time.FluentDateTime → List Item → List Item → Text
written row value items [] = []
written row value items (i ∷ rest) = item_text row value items i ++ written row value items rest

-- the text of a value in a locale
abbrev pub date_text : Row → date_time.FluentDateTime → Text
date_text row value = let items = pattern_of row value in written row value items items
