-- A call of a function as a text: an array of JSON with the function's name, the positional arguments, and an object of the named ones.
use Rattle.std.specs.Prelude.{◌≡◌, List, [], ◌∷◌, map, codes}
use Rattle.serde_json.specs.Data.{Data, null, string, array, object, no_items, item, Members, no_members, member, put}
use Rattle.serde_json.specs.View.{items_of}
use Rattle.serde_json.specs.Written.{compact_text}
use Rattle.fluent_date.specs.Iso.{iso_text}
use Rattle.fluent_grammar.specs.Words.{Text}
use Rattle.fluent_number.specs.Text.{number_text}
use Rattle.fluent_value.specs.Value.{Value, text, number, custom, none, error}
use Rattle.fluent_date.specs.declared.date_time.FluentDateTime.{FluentDateTime}

-- A text is a text; a number an object with its text, as it is shown without a locale; a date an object with its text by ISO 8601, without
-- its options; and no value is null.
abbrev pub value_data : Value FluentDateTime → Data
value_data (text s) = string s
value_data (number n) = object (member (codes "number") (string (number_text n)) no_members)
value_data (custom date) = object (member (codes "date") (string (iso_text date)) no_members)
value_data none = null
value_data error = null

-- members with those of named arguments put in, one after the other
abbrev pub all_put : Members → List (Text × Value FluentDateTime) → Members
all_put members [] = members
all_put members (pair ∷ pairs) = all_put (put pair.0 (value_data pair.1) members) pairs

-- three values in an array
abbrev pub three : Data → Data → Data → Data
three a b c = array (item a (item b (item c no_items)))

-- a call of a function of this name, with these positional and named arguments
abbrev pub call_data : Text → List (Value FluentDateTime) → List (Text × Value FluentDateTime) → Data
call_data name values pairs = three (string name) (array (items_of (map value_data values))) (object (all_put no_members pairs))

abbrev pub call_text : Text → List (Value FluentDateTime) → List (Text × Value FluentDateTime) → Text
call_text name values pairs = compact_text (call_data name values pairs)

-- a text is that of a call of a function of this name
pub record IsCallOf (name call : Text) : Type 0 where
  pub values : List (Value FluentDateTime)
  pub pairs : List (Text × Value FluentDateTime)
  pub is : call ≡ call_text name values pairs
