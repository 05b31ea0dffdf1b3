-- The fields of dates and times, by the letters of UTS 35.
use Prim.Native.String.{String}
use Rattle.std.specs.Prelude.{ℕ, ◌+◌, ◌-◌, Bool, false, ◌&&◌, ◌||◌, ◌==◌, nat_lt, nat_le, if◌then◌else◌, List, [], ◌∷◌, Option, Some, None, codes, slice_index_or, slice_set}
use Rattle.fluent_dates.specs.declared.fields.Field as code_field

-- a letter, and how often it stands; no field if the count is 0
abbrev pub Field : Type 0
Field = code_field.Field

abbrev pub f : ℕ → ℕ → Field
f letter count = record { letter = letter; count = count }

abbrev pub none : Field
none = f 0 0

abbrev pub is_any : ℕ → List ℕ → Bool
is_any c [] = false
is_any c (d ∷ ds) = c == d || is_any c ds

-- a text's one letter
abbrev pub letter : String → ℕ
letter text = slice_index_or (codes text) 0 0

-- the place of a letter's field: era, year, month, weekday, day, part of the day, hour, minute, second, fraction, zone
abbrev pub place_of : ℕ → Option ℕ
place_of c =
    if is_any c (codes "G") then Some 0 else
    (if is_any c (codes "y") then Some 1 else
    (if is_any c (codes "ML") then Some 2 else
    (if is_any c (codes "Ec") then Some 3 else
    (if is_any c (codes "d") then Some 4 else
    (if is_any c (codes "aB") then Some 5 else
    (if is_any c (codes "hKHk") then Some 6 else
    (if is_any c (codes "m") then Some 7 else
    (if is_any c (codes "s") then Some 8 else
    (if is_any c (codes "S") then Some 9 else
    (if is_any c (codes "zOvZ") then Some 10 else None))))))))))

-- whether a field is written as a number
abbrev pub is_number : Field → Bool
is_number field = is_any field.letter (codes "ydhKHkmsS") || (is_any field.letter (codes "MLc") && nat_le field.count 2)

-- how far a letter is from the first of its field
abbrev pub apart : ℕ → ℕ
apart c =
    if is_any c (codes "LKOZ") then 16 else
    (if is_any c (codes "cv") then 32 else
    (if is_any c (codes "B") then 48 else
    (if is_any c (codes "H") then 160 else
    (if is_any c (codes "k") then 176 else 0))))

-- What fields are compared by: numbers are far from texts, and each width and each letter is a little apart.
abbrev pub measure : Field → ℕ
measure field =
    if field.count == 0 then 0 else
    (if is_number field then 0x300 + apart field.letter + field.count else
    (if field.count == 5 then 0xff - apart field.letter else
    (if field.count == 4 then 0xfc - apart field.letter else 0xfd - apart field.letter)))

-- the field at a place
abbrev pub at : List Field → ℕ → Field
at fields place = slice_index_or fields place none

abbrev pub has : List Field → ℕ → Bool
has fields place = nat_lt 0 (at fields place).count

-- minutes with a fraction have seconds
abbrev pub with_second : List Field → List Field
with_second fields = if has fields 7 && (has fields 9 && (at fields 8).count == 0) then slice_set fields 8 (f (letter "s") 1) else fields

-- twelve hours ask for half of the day, and 24 have none
abbrev pub with_half : List Field → List Field
with_half fields =
    if has fields 6 then
    (if is_any (at fields 6).letter (codes "hK")
    then (if has fields 5 then fields else slice_set fields 5 (f (letter "a") 1))
    else slice_set fields 5 none)
    else fields

abbrev pub complete : List Field → List Field
complete fields = with_half (with_second fields)
