-- What is said of numbers and texts that make no date.
use Rattle.std.specs.Prelude.{ℕ, List, codes}
use Rattle.fluent_date.specs.declared.error.DateError.{DateError}
use Rattle.fluent_date.specs.declared.error.DateError.TheVariants as wrong

abbrev pub error_text : DateError → List ℕ
error_text wrong.Year = codes "the year isn't from -9999 to 9999"
error_text wrong.Month = codes "the month isn't from 1 to 12"
error_text wrong.Day = codes "the month has no such day"
error_text wrong.Hour = codes "the hour isn't below 24"
error_text wrong.Minute = codes "the minute isn't below 60"
error_text wrong.Second = codes "the second isn't below 60"
error_text wrong.Nanosecond = codes "the nanosecond isn't below 1000000000"
error_text wrong.Offset = codes "the offset isn't below a day"
error_text wrong.Text = codes "not a date in ISO 8601"
