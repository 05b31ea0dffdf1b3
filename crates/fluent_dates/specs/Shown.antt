-- How a locale shows dates and numbers.
use Rattle.std.specs.Prelude.{ℕ, List, Option, Some, None}
use Rattle.fluent_date.specs.declared.date_time.FluentDateTime.{FluentDateTime}
use Rattle.fluent_dates.specs.Writing.{date_text}
use Rattle.fluent_dates.specs.declared.dates.LocaleDates.{LocaleDates}
use Rattle.fluent_numerals.specs.Text.{value_text}
use Rattle.fluent_numerals.specs.Views.{locale_view}
use Rattle.fluent_numerals.specs.declared.numerals.LocaleNumerals.{LocaleNumerals}
use Rattle.fluent_value.specs.Value.{Value, text, number, custom, none, error}
use Rattle.fluent_dates.specs.declared.formatter.LocaleFormatter.{LocaleFormatter}

-- a date as the locale writes it, if the locale is known
abbrev pub date_shown : Option LocaleDates → FluentDateTime → Option (List ℕ)
date_shown None date = None
date_shown (Some dates) date = Some (date_text dates.row.now date)

-- any other value as the locale writes it, if it does
abbrev pub other_shown : Option LocaleNumerals → Value FluentDateTime → Option (List ℕ)
other_shown None value = None
other_shown (Some numerals) value = value_text (locale_view numerals) value

-- the text of a value, if there is one for it
abbrev pub shown_by : LocaleFormatter → Value FluentDateTime → Option (List ℕ)
shown_by formatter (text s) = other_shown formatter.numerals (text s)
shown_by formatter (number n) = other_shown formatter.numerals (number n)
shown_by formatter (custom date) = date_shown formatter.dates date
shown_by formatter none = other_shown formatter.numerals none
shown_by formatter error = other_shown formatter.numerals error
