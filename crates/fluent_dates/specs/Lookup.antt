-- How a locale is found by its tag.
use Rattle.std.specs.Prelude.{ℕ, Option, Some, None, slice_get}
use Rattle.fluent_date_tables.specs.Rows.{rows}
use Rattle.fluent_date_tables.specs.Tables.{Text, Row}
use Rattle.fluent_date_tables.specs.Tags.{row_for}
use Rattle.fluent_dates.specs.declared.dates.LocaleDates as locale_dates

abbrev pub row_numbered : Option ℕ → Option Row
row_numbered None = None
row_numbered (Some number) = slice_get rows number

-- what the locale of a tag writes dates by, if CLDR knows its language
abbrev pub locale_for : Text → Option Row
locale_for tag = row_numbered (row_for tag)

-- what a formatter writes dates by
abbrev pub row_of : Option locale_dates.LocaleDates → Option Row
row_of None = None
row_of (Some dates) = Some dates.row.now
