-- Which texts of ISO 8601 are read, as what, and what is wrong with others.
use Rattle.std.specs.Prelude.{ℕ, ◌+◌, ◌-◌, ◌*◌, ◌^◌, Bool, true, false, ◌&&◌, ◌||◌, ◌==◌, nat_lt, nat_le, if◌then◌else◌, [], ◌∷◌, take, drop, Option, Some, None, Result, Ok, Err, pos}
use Rattle.std.specs.Borrow.{Bor}
use Rattle.std.specs.Char.{is_ascii_digit}
use Rattle.std.specs.List.{prefix_len}
use Rattle.fluent_number.specs.Digits.{Text, digits_worth}
use Rattle.fluent_date.specs.Civil.{date_of, time_of, offset_of}
use Rattle.fluent_date.specs.Options.{no_options}
use Rattle.fluent_date.specs.declared.civil.CivilDate as civil
use Rattle.fluent_date.specs.declared.time.TimeOfDay as time
use Rattle.fluent_date.specs.declared.offset.Offset as offset
use Rattle.fluent_date.specs.declared.date_time.FluentDateTime as date_time
use Rattle.fluent_date.specs.declared.error.DateError.{DateError}
use Rattle.fluent_date.specs.declared.error.DateError.TheVariants as wrong

-- ------------------------------------------------------------------------------------------------------------ readings

-- what is found at the front of a text, and what is after it; or what is wrong
abbrev pub Read : Type 0 → Type 0
Read A = Result (A × Text) DateError

-- what is read next, unless something was wrong
abbrev pub and_then : {A B : Type 0} → Result A DateError → (A → Result B DateError) → Result B DateError
and_then (Ok a) more = more a
and_then (Err error) more = Err error

-- a value before what is left of a text
abbrev pub before : {A : Type 0} → Result A DateError → Text → Read A
before (Ok a) rest = Ok (a, rest)
before (Err error) rest = Err error

-- a text in which this isn't found is no date
abbrev pub or_text : {A : Type 0} → Option A → Result A DateError
or_text (Some a) = Ok a
or_text None = Err wrong.Text

-- readings as the code has them
abbrev pub found_before : {A : Type 0} → Option (A × Bor Text) → Option (A × Text)
found_before (Some found) = Some (found.0, found.1.now)
found_before None = None

abbrev pub read_before : {A : Type 0} → Result (A × Bor Text) DateError → Read A
read_before (Ok found) = Ok (found.0, found.1.now)
read_before (Err error) = Err error

-- ------------------------------------------------------------------------------------------------------------- numbers

-- the number that two digits write
abbrev pub two_digits : Text → Option (ℕ × Text)
two_digits [] = None
two_digits (a ∷ []) = None
two_digits (a ∷ b ∷ rest) =
    if is_ascii_digit a && is_ascii_digit b then Some ((a - 48) * 10 + (b - 48), rest) else None

-- the number that two digits after a sign write
abbrev pub after_sign : Text → ℕ → Option (ℕ × Text)
after_sign [] sign = None
after_sign (c ∷ rest) sign = if c == sign then two_digits rest else None

-- the nanoseconds that digits after a point are, of which there are one to nine
abbrev pub fraction_digits : ℕ → Text → Option (ℕ × Text)
fraction_digits count text =
    if nat_le 1 count && nat_le count 9 then Some (digits_worth (take count text) * 10 ^ (9 - count), drop count text) else None

abbrev pub fraction : Text → Option (ℕ × Text)
fraction text = fraction_digits (prefix_len is_ascii_digit text) text

-- --------------------------------------------------------------------------------------------------------------- dates

-- `YYYY-MM-DD`
abbrev pub date : Text → Read civil.CivilDate
date text =
    and_then (or_text (two_digits text)) (λ century.
    and_then (or_text (two_digits century.1)) (λ year.
    and_then (or_text (after_sign year.1 45)) (λ month.
    and_then (or_text (after_sign month.1 45)) (λ day.
    before (date_of (pos (century.0 * 100 + year.0)) month.0 day.0) day.1))))

-- --------------------------------------------------------------------------------------------------------------- times

-- the fraction of a second after a point or a comma, or none
abbrev pub parts : Text → Read ℕ
parts [] = Ok (0, [])
parts (c ∷ rest) = if c == 46 || c == 44 then or_text (fraction rest) else Ok (0, c ∷ rest)

-- seconds after a colon, with their fraction if there is one; or none
abbrev pub seconds : Text → Read (ℕ × ℕ)
seconds [] = Ok ((0, 0), [])
seconds (c ∷ rest) =
    if c == 58
    then and_then (or_text (two_digits rest)) (λ second. and_then (parts second.1) (λ nanosecond. Ok ((second.0, nanosecond.0), nanosecond.1)))
    else Ok ((0, 0), c ∷ rest)

-- `HH:MM`, with seconds if they are there
abbrev pub clock : Text → Read time.TimeOfDay
clock text =
    and_then (or_text (two_digits text)) (λ hour.
    and_then (or_text (after_sign hour.1 58)) (λ minute.
    and_then (seconds minute.1) (λ second.
    before (time_of hour.0 minute.0 second.0.0 second.0.1) second.1)))

-- ------------------------------------------------------------------------------------------------------------- offsets

-- seconds of an offset, which may be missing at the end of a text
abbrev pub odd_seconds : Text → Option (ℕ × Text)
odd_seconds [] = Some (0, [])
odd_seconds (c ∷ rest) = after_sign (c ∷ rest) 58

-- the offset of these numbers, if nothing is after them
abbrev pub offset_parts : Bool → ℕ → ℕ → ℕ → Text → Result offset.Offset DateError
offset_parts is_negative hours minutes seconds [] =
    if nat_lt minutes 60 && nat_lt seconds 60 then offset_of is_negative (hours * 3600 + minutes * 60 + seconds) else Err wrong.Offset
offset_parts is_negative hours minutes seconds (c ∷ rest) = Err wrong.Text

-- `HH:MM`, with seconds if they are there, and nothing after them
abbrev pub signed_offset : Bool → Text → Result offset.Offset DateError
signed_offset is_negative text =
    and_then (or_text (two_digits text)) (λ hours.
    and_then (or_text (after_sign hours.1 58)) (λ minutes.
    and_then (or_text (odd_seconds minutes.1)) (λ seconds.
    offset_parts is_negative hours.0 minutes.0 seconds.0 seconds.1)))

abbrev pub utc : offset.Offset
utc = record { is_negative = false; seconds = 0 }

-- `Z` in either case, with nothing after it
abbrev pub utc_only : Text → Result offset.Offset DateError
utc_only [] = Ok utc
utc_only (c ∷ rest) = Err wrong.Text

abbrev pub some_offset : Result offset.Offset DateError → Result (Option offset.Offset) DateError
some_offset (Ok o) = Ok (Some o)
some_offset (Err error) = Err error

-- the offset that a text is: none, `Z`, or one with its sign
abbrev pub zone : Text → Result (Option offset.Offset) DateError
zone [] = Ok None
zone (c ∷ rest) =
    some_offset (if c == 90 || c == 122 then utc_only rest
    else (if c == 43 then signed_offset false rest
    else (if c == 45 then signed_offset true rest else Err wrong.Text)))

-- ------------------------------------------------------------------------------------------------------------- a value

abbrev pub value_of : civil.CivilDate → Option time.TimeOfDay → Option offset.Offset → date_time.FluentDateTime
value_of d t o = record { date = d; time = t; offset = o; options = no_options }

-- what is after a date: nothing, or `T` in either case or a space, a time, and an offset if there is one
abbrev pub after_date : civil.CivilDate → Text → Result date_time.FluentDateTime DateError
after_date d [] = Ok (value_of d None None)
after_date d (c ∷ rest) =
    if c == 84 || (c == 116 || c == 32)
    then and_then (clock rest) (λ t. and_then (zone t.1) (λ o. Ok (value_of d (Some t.0) o)))
    else Err wrong.Text

-- the value that a text is, without options, or the first thing that is wrong
abbrev pub iso_value : Text → Result date_time.FluentDateTime DateError
iso_value text = and_then (date text) (λ d. after_date d.0 d.1)
