-- Patterns of UTS 35, taken apart.
use Rattle.std.specs.Prelude.{ℕ, ◌+◌, min, Bool, true, false, ◌&&◌, ◌||◌, not, ◌==◌, if◌then◌else◌, List, [], ◌∷◌, ◌++◌, Option, Some, None, is_some, slice_set, replicate}
use Rattle.fluent_dates.specs.Fields.{Field, f, none, letter, place_of}
use Rattle.std.specs.Str.{chars}
use Rattle.fluent_date_tables.specs.Tables.{Text}
use Rattle.fluent_dates.specs.declared.items.Reading as code_reading
use Rattle.fluent_dates.specs.declared.items.Item.{Item}
use Rattle.fluent_dates.specs.declared.items.Item.TheVariants as item

-- whether a character outside of quotes is a field's; `r`, a month in small Roman numbers, is for Hawaiian alone
abbrev pub is_letter : ℕ → Bool
is_letter c = c == letter "r" || is_some (place_of c)

-- the letter of the field that a character asks for, if it does
abbrev pub letter_of : ℕ → Option ℕ
letter_of c = if is_letter c then Some c else None

-- How far a pattern is read: whether a quote is open, whether the last character was a quote after which none is due, and the field
-- whose letters were read last.
abbrev pub Reading : Type 0
Reading = code_reading.Reading

abbrev pub at_start : Reading
at_start = record { quoted = false; after_quote = false; field = none }

-- a field as an item, if it is one
abbrev pub flushed : Field → List Item
flushed field = if field.count == 0 then [] else item.Field field ∷ []

-- the field of letters with one more letter
abbrev pub with_letter : Field → ℕ → Field
with_letter field c = if field.letter == c then f c (min (field.count + 1) 255) else f c 1

-- What is read on at a character. A quote right after a quote is one, and what is between quotes is text.
abbrev pub next_reading : Reading → ℕ → Reading
next_reading s c =
    if c == letter "'" then record { quoted = not s.quoted; after_quote = not s.after_quote; field = none }
    else (if is_letter c && not s.quoted then record { quoted = s.quoted; after_quote = false; field = with_letter s.field c }
    else record { quoted = s.quoted; after_quote = false; field = none })

-- the items that are complete at a field's letter
abbrev pub completed : Field → ℕ → List Item
completed field c = if field.letter == c then [] else flushed field

-- a quote, if it is text
abbrev pub quote_if : Bool → List Item
quote_if true = item.Char 39 ∷ []
quote_if false = []

-- the items that are complete at a character
abbrev pub emitted : Reading → ℕ → List Item
emitted s c =
    if c == letter "'" then flushed s.field ++ quote_if s.after_quote
    else (if is_letter c && not s.quoted then completed s.field c
    else flushed s.field ++ (item.Char c ∷ []))

abbrev pub read : Reading → List ℕ → List Item
read s [] = flushed s.field
read s (c ∷ cs) = emitted s c ++ read (next_reading s c) cs

-- the items of a pattern
abbrev pub items_of : Text → List Item
items_of pattern = read at_start (chars pattern)

-- fields with one more at its place
abbrev pub with_field : List Field → Field → Option ℕ → List Field
with_field fields field None = fields
with_field fields field (Some place) = slice_set fields place field

-- the fields of items; of two for one place the last counts
abbrev pub fields_from : List Field → List Item → List Field
fields_from fields [] = fields
fields_from fields (item.Char c ∷ items) = fields_from fields items
fields_from fields (item.Field field ∷ items) = fields_from (with_field fields field (place_of field.letter)) items

abbrev pub fields_in : List Item → List Field
fields_in items = fields_from (replicate 11 none) items

-- whether there is a field of this letter
abbrev pub shows : List Item → ℕ → Bool
shows [] c = false
shows (item.Char d ∷ items) c = shows items c
shows (item.Field field ∷ items) c = field.letter == c || shows items c
