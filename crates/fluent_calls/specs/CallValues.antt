-- What the code's values stand for.
use Rattle.std.specs.Prelude.{List, map}
use Rattle.serde_json.specs.Data.{Items}
use Rattle.serde_json.specs.View.{items_of}
use Rattle.fluent_value.specs.Value.{Value}
use Rattle.fluent_value.specs.View.{value_view}
use Rattle.fluent_value.specs.declared.value.FluentValue.{FluentValue}
use Rattle.fluent_calls.specs.Calls.{value_data}
use Rattle.fluent_date.specs.declared.date_time.FluentDateTime.{FluentDateTime}
use Rattle.fluent_dates.specs.declared.value.DateTimeValue.{DateTimeValue}

abbrev pub plain : FluentValue DateTimeValue → Value FluentDateTime
plain value = value_view (λ c. c.0) value

abbrev pub plain_all : List (FluentValue DateTimeValue) → List (Value FluentDateTime)
plain_all values = map plain values

-- values as the items of an array
abbrev pub items_data : List (Value FluentDateTime) → Items
items_data values = items_of (map value_data values)
