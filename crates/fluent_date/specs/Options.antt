-- How a date or time is to be shown.
use Rattle.std.specs.Prelude.{Bool, ◌||◌, None, is_some}
use Rattle.fluent_date.specs.declared.options.FluentDateTimeOptions as options

abbrev pub Options : Type 0
Options = options.FluentDateTimeOptions

abbrev pub no_options : Options
no_options = record {
  date_style = None;
  time_style = None;
  hour_cycle = None;
  hour12 = None;
  weekday = None;
  era = None;
  year = None;
  month = None;
  day = None;
  day_period = None;
  hour = None;
  minute = None;
  second = None;
  fractional_second_digits = None;
  time_zone_name = None;
}

abbrev pub has_style : Options → Bool
has_style o = is_some o.date_style || is_some o.time_style

-- an option that a style goes without
abbrev pub has_component : Options → Bool
has_component o =
    is_some o.weekday || (is_some o.era || (is_some o.year || (is_some o.month || (is_some o.day || (is_some o.day_period
    || (is_some o.hour || (is_some o.minute || (is_some o.second || (is_some o.fractional_second_digits
    || is_some o.time_zone_name)))))))))
