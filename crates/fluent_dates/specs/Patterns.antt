-- The pattern of a locale for options.
use Rattle.std.specs.Prelude.{ℕ, zero, suc, ◌+◌, ◌-◌, ◌/◌, ◌%◌, max, min, Bool, true, false, ◌&&◌, ◌||◌, not, ◌==◌, nat_lt, if◌then◌else◌, List, [], ◌∷◌, ◌++◌, map, Option, Some, None, is_some, is_none, codes, slice_index_or, slice_set}
use Rattle.std.specs.Str.{chars}
use Rattle.fluent_dates.specs.Fields.{Field, f, none, letter, is_any, place_of, is_number, at, has, complete}
use Rattle.fluent_dates.specs.Items.{items_of, fields_in, shows}
use Rattle.fluent_dates.specs.Matching.{Found, nearest}
use Rattle.fluent_date_tables.specs.Parts.{part}
use Rattle.fluent_date_tables.specs.Tables.{Text, Row, utf8}
use Rattle.fluent_date_tables.specs.Texts.{text_numbered}
use Rattle.fluent_dates.specs.declared.items.Item.{Item}
use Rattle.fluent_dates.specs.declared.items.Item.TheVariants as item
use Rattle.fluent_date.specs.declared.options.TextWidth.{TextWidth}
use Rattle.fluent_date.specs.declared.options.TextWidth.TheVariants as text_width
use Rattle.fluent_date.specs.declared.options.NumberWidth.{NumberWidth}
use Rattle.fluent_date.specs.declared.options.NumberWidth.TheVariants as number_width
use Rattle.fluent_date.specs.declared.options.MonthWidth.{MonthWidth}
use Rattle.fluent_date.specs.declared.options.MonthWidth.TheVariants as month_width
use Rattle.fluent_date.specs.declared.options.ZoneName.{ZoneName}
use Rattle.fluent_date.specs.declared.options.ZoneName.TheVariants as zone_name
use Rattle.fluent_date.specs.declared.options.DateStyle.{DateStyle}
use Rattle.fluent_date.specs.declared.options.DateStyle.TheVariants as style
use Rattle.fluent_date.specs.declared.options.HourCycle.{HourCycle}
use Rattle.fluent_date.specs.declared.options.HourCycle.TheVariants as cycle
use Rattle.fluent_date.specs.declared.options.FluentDateTimeOptions as options
use Rattle.fluent_date.specs.declared.date_time.FluentDateTime as date_time

-- ------------------------------------------------------------------------------------------------- the fields that are wanted

abbrev pub text_field : ℕ → ℕ → Option TextWidth → Field
text_field c short None = none
text_field c short (Some text_width.Narrow) = f c 5
text_field c short (Some text_width.Short) = f c short
text_field c short (Some text_width.Long) = f c 4

abbrev pub number_field : ℕ → Option NumberWidth → Field
number_field c None = none
number_field c (Some number_width.Numeric) = f c 1
number_field c (Some number_width.TwoDigit) = f c 2

abbrev pub month_field : Option MonthWidth → Field
month_field None = none
month_field (Some (month_width.Number width)) = number_field (letter "M") (Some width)
month_field (Some (month_width.Text width)) = text_field (letter "M") 3 (Some width)

abbrev pub zone_field : Option ZoneName → Field
zone_field None = none
zone_field (Some zone_name.Short) = f (letter "z") 1
zone_field (Some zone_name.Long) = f (letter "z") 4
zone_field (Some zone_name.ShortOffset) = f (letter "O") 1
zone_field (Some zone_name.LongOffset) = f (letter "O") 4
zone_field (Some zone_name.ShortGeneric) = f (letter "v") 1
zone_field (Some zone_name.LongGeneric) = f (letter "v") 4

abbrev pub fraction_field : Option ℕ → Field
fraction_field None = none
fraction_field (Some digits) = f (letter "S") (min digits 3)

abbrev pub hour_letter : HourCycle → ℕ
hour_letter cycle.H11 = letter "K"
hour_letter cycle.H12 = letter "h"
hour_letter cycle.H23 = letter "H"
hour_letter cycle.H24 = letter "k"

-- how hours are counted: `hour12` counts before `hourCycle`, and both before what the locale does
abbrev pub cycle_by : Row → Option Bool → Option HourCycle → HourCycle
cycle_by row (Some true) asked = row.twelve
cycle_by row (Some false) asked = cycle.H23
cycle_by row None (Some asked) = asked
cycle_by row None None = row.cycle

abbrev pub cycle_of : Row → options.FluentDateTimeOptions → HourCycle
cycle_of row o = cycle_by row o.hour12 o.hour_cycle

-- whether year, month and day are meant, since nothing else is asked for
abbrev pub is_bare : options.FluentDateTimeOptions → Bool
is_bare o =
    is_none o.weekday && (is_none o.year && (is_none o.month && (is_none o.day && (is_none o.day_period
    && (is_none o.hour && (is_none o.minute && (is_none o.second && is_none o.fractional_second_digits)))))))

abbrev pub asked_fields : Row → options.FluentDateTimeOptions → List Field
asked_fields row o =
    text_field (letter "G") 3 o.era
    ∷ (if is_bare o then f (letter "y") 1 else number_field (letter "y") o.year)
    ∷ (if is_bare o then f (letter "M") 1 else month_field o.month)
    ∷ text_field (letter "E") 3 o.weekday
    ∷ (if is_bare o then f (letter "d") 1 else number_field (letter "d") o.day)
    ∷ text_field (letter "B") 1 o.day_period
    ∷ number_field (hour_letter (cycle_of row o)) o.hour
    ∷ number_field (letter "m") o.minute
    ∷ number_field (letter "s") o.second
    ∷ fraction_field o.fractional_second_digits
    ∷ zone_field o.time_zone_name
    ∷ []

abbrev pub wanted_fields : Row → options.FluentDateTimeOptions → List Field
wanted_fields row o = complete (asked_fields row o)

-- --------------------------------------------------------------------------------------------- a pattern in the wanted widths

-- the pattern's letter of hours; but where the locale has the other letter for as many hours, that one
abbrev pub adjusted_hour : ℕ → ℕ → ℕ → ℕ
adjusted_hour found asked usual =
    if (is_any asked (codes "hK") && is_any usual (codes "hK")) || (is_any asked (codes "Hk") && is_any usual (codes "Hk")) then usual else found

abbrev pub asked_count : Field → ℕ
asked_count asked = if asked.letter == letter "E" then max asked.count 3 else asked.count

-- whether CLDR gave the pattern's field for this count, or the pattern has a text for a number, or a number for a text
abbrev pub is_given : Found → ℕ → Field → Field → Bool
is_given known place found asked =
    known.skeleton.given && (not (asked.letter == letter "c")
    && (slice_index_or known.skeleton.counts place 0 == asked_count asked
    || ((is_number found && not (is_number asked)) || (not (is_number found) && is_number asked))))

-- The count that is asked for. But minutes and seconds stay as they are, and so does a field that is given.
abbrev pub adjusted_count : Found → ℕ → Field → Field → ℕ
adjusted_count known place found asked =
    if place == 7 || (place == 8 || is_given known place found asked) then found.count else asked_count asked

abbrev pub adjusted_letter : Row → ℕ → Field → Field → ℕ
adjusted_letter row place found asked =
    if place == 1 || (place == 2 || place == 3) then found.letter
    else (if place == 6 then adjusted_hour found.letter asked.letter (hour_letter row.cycle) else asked.letter)

abbrev pub adjusted_at : Row → Found → List Field → Field → Option ℕ → Field
adjusted_at row known wanted found None = found
adjusted_at row known wanted found (Some place) =
    if has wanted place
    then f (adjusted_letter row place found (at wanted place)) (adjusted_count known place found (at wanted place))
    else found

abbrev pub adjusted_item : Row → Found → List Field → Item → Item
adjusted_item row known wanted (item.Char c) = item.Char c
adjusted_item row known wanted (item.Field found) = item.Field (adjusted_at row known wanted found (place_of found.letter))

-- the nearest pattern in the widths that are wanted
abbrev pub adjusted : Row → Found → List Field → List Item
adjusted row known wanted = map (adjusted_item row known wanted) (items_of (text_numbered known.pattern))

-- ------------------------------------------------------------------------------------------------------ patterns put together

abbrev pub as_items : Text → List Item
as_items text = map (λ c. item.Char c) (chars text)

-- what a fraction adds after a field: the sign before it and its digits, if that field is the seconds
abbrev pub fraction_after : Row → Field → Field → List Item
fraction_after row fraction field =
    if field.letter == letter "s" then as_items (text_numbered row.decimal) ++ (item.Field fraction ∷ []) else []

-- the digits of a second's fraction right after the seconds
abbrev pub with_fraction : Row → Field → List Item → List Item
with_fraction row fraction [] = []
with_fraction row fraction (item.Char c ∷ items) = item.Char c ∷ with_fraction row fraction items
with_fraction row fraction (item.Field field ∷ items) =
    item.Field field ∷ (fraction_after row fraction field ++ with_fraction row fraction items)

-- what a form has in the place of a character: in that of 0 the first part, of 1 the second, of 2 a name
abbrev pub filled : List Item → List Item → Text → ℕ → List Item
filled first second name c =
    if c == letter "0" then first else (if c == letter "1" then second else (if c == letter "2" then as_items name else item.Char c ∷ []))

abbrev pub joined_items : List Item → List Item → Text → List Item → List Item
joined_items first second name [] = []
joined_items first second name (item.Field field ∷ form) = item.Field field ∷ joined_items first second name form
joined_items first second name (item.Char c ∷ form) = filled first second name c ++ joined_items first second name form

-- `1 'at' 0` with its parts and a name
abbrev pub joined : Text → List Item → List Item → Text → List Item
joined form first second name = joined_items first second name (items_of form)

-- the place of a field among the forms of a row: there are none for the part of the day and for a fraction
abbrev pub append_place : ℕ → ℕ
append_place place = if place == 10 then 8 else (if nat_lt 5 place then place - 1 else place)

-- how a pattern is put to one that lacks it, by the last of its fields
abbrev pub append_form : Row → ℕ → Text
append_form row place =
    if place == 5 || place == 9 then utf8 "0 ├2: 1┤" else text_numbered (slice_index_or row.append (append_place place) 0)

-- the place of a field among the names of fields
abbrev pub name_place : ℕ → Option ℕ
name_place place =
    if place == 2 then Some 0
    else (if place == 4 then Some 1
    else (if place == 6 then Some 2
    else (if place == 7 then Some 3
    else (if place == 8 then Some 4
    else (if place == 5 then Some 5 else None)))))

abbrev pub name_at : Row → Option ℕ → Text
name_at row None = utf8 "F14"
name_at row (Some number) = part (text_numbered row.fields) number

-- the name of a field; ICU has none for the others
abbrev pub append_name : Row → ℕ → Text
append_name row place = name_at row (name_place place)

-- a field, if its place is the first of these places
abbrev pub kept : ℕ → Field → Field
kept places field = if places % 2 == 1 then field else none

-- the fields of these places, a bit for each
abbrev pub of_places : List Field → ℕ → List Field
of_places [] places = []
of_places (field ∷ fields) places = kept places field ∷ of_places fields (places / 2)

-- this place, if it is the first of some places and not of others, and otherwise the last until now
abbrev pub later : ℕ → ℕ → ℕ → ℕ → ℕ
later places others place last = if places % 2 == 1 && others % 2 == 0 then place else last

-- the last of some places that others lack, of this number of places from the first on
abbrev pub last_from : ℕ → ℕ → ℕ → ℕ → ℕ → ℕ
last_from zero place last places others = last
last_from (suc left) place last places others =
    last_from left (place + 1) (later places others place last) (places / 2) (others / 2)

-- the last of some places that others lack, of all eleven; the first if there is none
abbrev pub last_place : ℕ → ℕ → ℕ
last_place places others = last_from 11 0 0 places others

abbrev pub appended_more : Row → List Field → List Item → ℕ → Option Found → List Item
appended_more row wanted items lacks None = items
appended_more row wanted items lacks (Some known) =
    let last = last_place lacks known.gap.lacks in
    joined (append_form row last) items (adjusted row known wanted) (append_name row last)

-- the places that a pattern lacks without that of the fraction
abbrev pub without_fraction : ℕ → ℕ
without_fraction lacks = lacks - 512

-- whether a pattern has seconds and lacks their fraction
abbrev pub lacks_fraction : List Field → ℕ → Bool
lacks_fraction wanted lacks = lacks / 512 % 2 == 1 && (lacks / 256 % 2 == 0 && has wanted 8)

abbrev pub appended_to : Row → List Field → List Item → ℕ → List Item
appended_to row wanted items lacks =
    if lacks == 0 then items else appended_more row wanted items lacks (nearest row (of_places wanted lacks))

-- The nearest pattern; a fraction that it lacks goes right after the seconds; then for what it still lacks the nearest pattern is put to
-- it, once. What that one lacks is left out, as ICU does.
abbrev pub appended_by : Row → List Field → Option Found → List Item
appended_by row wanted None = []
appended_by row wanted (Some known) =
    let items = adjusted row known wanted in
    if lacks_fraction wanted known.gap.lacks
    then appended_to row wanted (with_fraction row (at wanted 9) items) (without_fraction known.gap.lacks)
    else appended_to row wanted items known.gap.lacks

abbrev pub appended : Row → List Field → List Item
appended row wanted = appended_by row wanted (nearest row wanted)

-- date and time are joined as in a full, long, medium or short date, by the width of the month
abbrev pub glue_place : List Field → ℕ
glue_place date =
    if (at date 2).count == 4 then (if has date 3 then 0 else 1)
    else (if (at date 2).count == 3 then 2 else 3)

abbrev pub has_any : List Field → Bool
has_any [] = false
has_any (field ∷ fields) = nat_lt 0 field.count || has_any fields

-- one pattern of the date and one of the time, joined
abbrev pub both : Row → List Field → List Field → List Item
both row date time =
    if not (has_any time) then appended row date
    else (if not (has_any date) then appended row time
    else joined (text_numbered (slice_index_or row.glue (glue_place date) 0)) (appended row time) (appended row date) [])

-- a pattern that has all fields that are wanted, and no others
abbrev pub if_fits : Option Found → Option Found
if_fits None = None
if_fits (Some known) = if known.gap.lacks == 0 && not known.gap.extra then Some known else None

abbrev pub fitting : Row → List Field → Option Found
fitting row wanted = if_fits (nearest row wanted)

abbrev pub best_by : Row → List Field → Option Found → List Item
best_by row wanted None = both row (of_places wanted 0x1f) (of_places wanted 0x7e0)
best_by row wanted (Some known) = adjusted row known wanted

-- the pattern for the fields that are wanted: one for all of them, or one of the date and one of the time
abbrev pub best_pattern : Row → List Field → List Item
best_pattern row wanted = best_by row wanted (fitting row wanted)

-- -------------------------------------------------------------------------------------------------------------------- styles

abbrev pub is_hour : Field → Bool
is_hour field = is_any field.letter (codes "hKHk")

-- a pattern with its hours counted so; a day right before them is set off by a space
abbrev pub with_hours : ℕ → Bool → List Item → List Item
with_hours c after_day [] = []
with_hours c after_day (item.Char d ∷ items) = item.Char d ∷ with_hours c false items
with_hours c after_day (item.Field field ∷ items) =
    if is_hour field
    then (if after_day then item.Char 32 ∷ [] else []) ++ (item.Field (f c field.count) ∷ with_hours c false items)
    else item.Field field ∷ with_hours c (field.letter == letter "d") items

abbrev pub style_place : DateStyle → ℕ
style_place style.Full = 0
style_place style.Long = 1
style_place style.Medium = 2
style_place style.Short = 3

abbrev pub styled : List ℕ → DateStyle → Text
styled numbers s = text_numbered (slice_index_or numbers (style_place s) 0)

abbrev pub styled_both : Row → Option DateStyle → DateStyle → List Item
styled_both row None time = items_of (styled row.times time)
styled_both row (Some date) time = joined (styled row.glue date) (items_of (styled row.times time)) (items_of (styled row.dates date)) []

-- fields with a month, if the pattern has one in small Roman numbers, which has no place
abbrev pub with_month : List Field → Bool → List Field
with_month fields true = slice_set fields 2 (f (letter "M") 1)
with_month fields false = fields

-- the fields of a style's pattern with hours of this letter
abbrev pub restyled : List Item → ℕ → List Field
restyled items c =
    let fields = slice_set (slice_set (fields_in items) 6 (f c (at (fields_in items) 6).count)) 5 none in
    complete (with_month fields (shows items (letter "r")))

abbrev pub recounted : Row → ℕ → List Item → List Item
recounted row c items = if (at (fields_in items) 6).letter == c then items else with_hours c false (best_pattern row (restyled items c))

abbrev pub styled_by : Row → HourCycle → Option DateStyle → Option DateStyle → List Item
styled_by row hours None None = []
styled_by row hours (Some date) None = items_of (styled row.dates date)
styled_by row hours date (Some time) = recounted row (hour_letter hours) (styled_both row date time)

abbrev pub style_pattern : Row → options.FluentDateTimeOptions → List Item
style_pattern row o = styled_by row (cycle_of row o) o.date_style o.time_style

abbrev pub component_pattern : Row → options.FluentDateTimeOptions → List Item
component_pattern row o =
    let items = best_pattern row (wanted_fields row o) in
    if is_some o.hour then with_hours (hour_letter (cycle_of row o)) false items else items

-- the pattern for options that a value has everything for
abbrev pub pattern_for : Row → options.FluentDateTimeOptions → List Item
pattern_for row o =
    if is_some o.date_style || is_some o.time_style then style_pattern row o else component_pattern row o

-- ----------------------------------------------------------------------------------------------- what a value has nothing for

-- options of a value without a time
abbrev pub without_time : options.FluentDateTimeOptions → options.FluentDateTimeOptions
without_time o = record o {
  time_style = None;
  day_period = None;
  hour = None;
  minute = None;
  second = None;
  fractional_second_digits = None;
  time_zone_name = None;
}

abbrev pub without_zone_style : Option DateStyle → Option DateStyle
without_zone_style None = None
without_zone_style (Some style.Full) = Some style.Medium
without_zone_style (Some style.Long) = Some style.Medium
without_zone_style (Some s) = Some s

-- options of a value of whose zone nothing is known
abbrev pub without_zone : options.FluentDateTimeOptions → options.FluentDateTimeOptions
without_zone o = record o { time_zone_name = None; time_style = without_zone_style o.time_style }

abbrev pub options_for : Bool → Bool → options.FluentDateTimeOptions → options.FluentDateTimeOptions
options_for has_time has_zone o =
    let timed = if has_time then o else without_time o in if has_zone then timed else without_zone timed

-- the options that a value has everything for
abbrev pub options_of : date_time.FluentDateTime → options.FluentDateTimeOptions
options_of value = options_for (is_some value.time) (is_some value.offset) value.options

-- the pattern of a locale for a value
abbrev pub pattern_of : Row → date_time.FluentDateTime → List Item
pattern_of row value = pattern_for row (options_of value)
