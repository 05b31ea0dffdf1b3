-- Options by the names and values that `DATETIME` has for them.
use Rattle.std.specs.Prelude.{ℕ, Bool, true, false, ◌||◌, ◌==◌, Option, Some, None, codes, bytes_eq, if◌then◌else◌}
use Rattle.fluent_number.specs.Conversion.{unsigned_of}
use Rattle.fluent_number.specs.Digits.{Text}
use Rattle.fluent_number.specs.Number.{Number}
use Rattle.fluent_date.specs.Options.{Options}
use Rattle.fluent_date.specs.declared.options.TextWidth.{TextWidth}
use Rattle.fluent_date.specs.declared.options.TextWidth.TheVariants as text_width
use Rattle.fluent_date.specs.declared.options.NumberWidth.{NumberWidth}
use Rattle.fluent_date.specs.declared.options.NumberWidth.TheVariants as number_width
use Rattle.fluent_date.specs.declared.options.MonthWidth.{MonthWidth}
use Rattle.fluent_date.specs.declared.options.MonthWidth.TheVariants as month_width
use Rattle.fluent_date.specs.declared.options.ZoneName.{ZoneName}
use Rattle.fluent_date.specs.declared.options.ZoneName.TheVariants as zone_name
use Rattle.fluent_date.specs.declared.options.DateStyle.{DateStyle}
use Rattle.fluent_date.specs.declared.options.DateStyle.TheVariants as style
use Rattle.fluent_date.specs.declared.options.HourCycle.{HourCycle}
use Rattle.fluent_date.specs.declared.options.HourCycle.TheVariants as cycle

abbrev pub text_width_named : Text → Option TextWidth
text_width_named text =
    if bytes_eq text (codes "narrow") then Some text_width.Narrow
    else (if bytes_eq text (codes "short") then Some text_width.Short
    else (if bytes_eq text (codes "long") then Some text_width.Long else None))

abbrev pub number_width_named : Text → Option NumberWidth
number_width_named text =
    if bytes_eq text (codes "numeric") then Some number_width.Numeric
    else (if bytes_eq text (codes "2-digit") then Some number_width.TwoDigit else None)

-- the width of a month's name
abbrev pub month_name_named : Text → Option MonthWidth
month_name_named text =
    if bytes_eq text (codes "narrow") then Some (month_width.Text text_width.Narrow)
    else (if bytes_eq text (codes "short") then Some (month_width.Text text_width.Short)
    else (if bytes_eq text (codes "long") then Some (month_width.Text text_width.Long) else None))

abbrev pub month_width_named : Text → Option MonthWidth
month_width_named text =
    if bytes_eq text (codes "numeric") then Some (month_width.Number number_width.Numeric)
    else (if bytes_eq text (codes "2-digit") then Some (month_width.Number number_width.TwoDigit) else month_name_named text)

abbrev pub style_named : Text → Option DateStyle
style_named text =
    if bytes_eq text (codes "full") then Some style.Full
    else (if bytes_eq text (codes "long") then Some style.Long
    else (if bytes_eq text (codes "medium") then Some style.Medium
    else (if bytes_eq text (codes "short") then Some style.Short else None)))

abbrev pub cycle_named : Text → Option HourCycle
cycle_named text =
    if bytes_eq text (codes "h11") then Some cycle.H11
    else (if bytes_eq text (codes "h12") then Some cycle.H12
    else (if bytes_eq text (codes "h23") then Some cycle.H23
    else (if bytes_eq text (codes "h24") then Some cycle.H24 else None)))

-- the names of an offset other than `short` and `long`
abbrev pub offset_name_named : Text → Option ZoneName
offset_name_named text =
    if bytes_eq text (codes "shortOffset") then Some zone_name.ShortOffset
    else (if bytes_eq text (codes "longOffset") then Some zone_name.LongOffset
    else (if bytes_eq text (codes "shortGeneric") then Some zone_name.ShortGeneric
    else (if bytes_eq text (codes "longGeneric") then Some zone_name.LongGeneric else None)))

abbrev pub zone_named : Text → Option ZoneName
zone_named text =
    if bytes_eq text (codes "short") then Some zone_name.Short
    else (if bytes_eq text (codes "long") then Some zone_name.Long else offset_name_named text)

abbrev pub truth_named : Text → Option Bool
truth_named text =
    if bytes_eq text (codes "true") then Some true else (if bytes_eq text (codes "false") then Some false else None)

-- one to three digits: a number's whole part, as a `usize`
abbrev pub digits_of : Number → Option ℕ
digits_of number =
    let count = unsigned_of 64 number.value in if count == 1 || (count == 2 || count == 3) then Some count else None

-- the new value, or the old one if there is none
abbrev pub newer : {A : Type 0} → Option A → Option A → Option A
newer None old = old
newer (Some new) old = Some new

-- an option that a value under its key sets, if the value names one
abbrev pub named : {V A : Type 0} → (V → Option A) → Option V → Option A → Option A
named read None old = old
named read (Some value) old = newer (read value) old

abbrev pub with_styles : (Text → Option Text) → Options → Options
with_styles text o = record o {
  date_style = named style_named (text (codes "dateStyle")) o.date_style;
  time_style = named style_named (text (codes "timeStyle")) o.time_style;
  hour_cycle = named cycle_named (text (codes "hourCycle")) o.hour_cycle;
  hour12 = named truth_named (text (codes "hour12")) o.hour12;
}

abbrev pub with_date : (Text → Option Text) → Options → Options
with_date text o = record o {
  weekday = named text_width_named (text (codes "weekday")) o.weekday;
  era = named text_width_named (text (codes "era")) o.era;
  year = named number_width_named (text (codes "year")) o.year;
  month = named month_width_named (text (codes "month")) o.month;
  day = named number_width_named (text (codes "day")) o.day;
}

abbrev pub with_clock : (Text → Option Text) → Options → Options
with_clock text o = record o {
  day_period = named text_width_named (text (codes "dayPeriod")) o.day_period;
  hour = named number_width_named (text (codes "hour")) o.hour;
  minute = named number_width_named (text (codes "minute")) o.minute;
  second = named number_width_named (text (codes "second")) o.second;
}

abbrev pub with_parts : (Text → Option Text) → (Text → Option Number) → Options → Options
with_parts text number o = record o {
  fractional_second_digits = named digits_of (number (codes "fractionalSecondDigits")) o.fractional_second_digits;
  time_zone_name = named zone_named (text (codes "timeZoneName")) o.time_zone_name;
}

-- The options after a merge with a source that has these texts and these numbers under its keys.
abbrev pub merged : (Text → Option Text) → (Text → Option Number) → Options → Options
merged text number o = with_parts text number (with_clock text (with_date text (with_styles text o)))
