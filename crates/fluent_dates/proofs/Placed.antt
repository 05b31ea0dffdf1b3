-- Fields that stand at the places of their letters.
use Rattle.std.proofs.Common.{◌≡◌, ◌≢◌, ℕ, zero, suc, ◌/◌, ◌%◌, Bool, true, false, ◌&&◌, not, ◌==◌, if◌then◌else◌, List, [], ◌∷◌, Option, Some, None, refl, min, arith}
use Rattle.std.specs.Prelude.{codes, nat_lt, slice_set}
use Rattle.fluent_date.specs.declared.options.HourCycle.{HourCycle}
use Rattle.fluent_date.specs.declared.options.HourCycle.TheVariants as cycle
use Rattle.fluent_date.specs.declared.options.MonthWidth.{MonthWidth}
use Rattle.fluent_date.specs.declared.options.MonthWidth.TheVariants as month_width
use Rattle.fluent_date.specs.declared.options.NumberWidth.{NumberWidth}
use Rattle.fluent_date.specs.declared.options.NumberWidth.TheVariants as number_width
use Rattle.fluent_date.specs.declared.options.TextWidth.{TextWidth}
use Rattle.fluent_date.specs.declared.options.TextWidth.TheVariants as text_width
use Rattle.fluent_date.specs.declared.options.ZoneName.{ZoneName}
use Rattle.fluent_date.specs.declared.options.ZoneName.TheVariants as zone_name
use Rattle.fluent_date.specs.declared.options.FluentDateTimeOptions as options
use Rattle.fluent_date_tables.specs.Tables.{Row}
use Rattle.fluent_dates.specs.Fields.{Field, at, f, has, is_any, letter, none, place_of, with_half, with_second}
use Rattle.fluent_dates.specs.Patterns.{asked_fields, cycle_of, fraction_field, hour_letter, is_bare, month_field, number_field, of_places, text_field, wanted_fields, zone_field}

-- ---- what holds of each field of a list

-- after one was set
pub set_with : (P : ℕ → Field → Type 0) (fields : List Field) (i p : ℕ) (x : Field) → P p (at fields p) → P i x → P p (at (slice_set fields i x) p)
set_with P [] i p x h there = h
set_with P (a ∷ fields) zero zero x h there = there
set_with P (a ∷ fields) zero (suc p) x h there = h
set_with P (a ∷ fields) (suc i) zero x h there = h
set_with P (a ∷ fields) (suc i) (suc p) x h there = set_with (λ q. P (suc q)) fields i p x h there

-- of those of some places
kept_with : (P : ℕ → Field → Type 0) (b : Bool) (p : ℕ) (field : Field) → P p field → P p none → P p (if b then field else none)
kept_with P true p field h other = h
kept_with P false p field h other = other

pub places_with : (P : ℕ → Field → Type 0) (fields : List Field) (places p : ℕ) → P p (at fields p) → P p none → P p (at (of_places fields places) p)
places_with P [] places p h other = h
places_with P (a ∷ fields) places zero h other = kept_with P (places % 2 == 1) zero a h other
places_with P (a ∷ fields) places (suc p) h other = places_with (λ q. P (suc q)) fields (places / 2) p h other

-- ---- letters

abbrev pub IsCounted : Field → Type 0
IsCounted field = nat_lt 0 field.count ≡ true

-- a field that stands at the place of its letter, and that of seconds has the letter `s`
pub record IsOf (place : ℕ) (field : Field) : Type 0 where
  pub there : place_of field.letter ≡ Some place
  pub second : place ≡ 8 → field.letter ≡ 115

abbrev pub IsPlaced : ℕ → Field → Type 0
IsPlaced place field = IsCounted field → IsOf place field

abbrev pub ArePlaced : List Field → Type 0
ArePlaced fields = (place : ℕ) → IsPlaced place (at fields place)

none_placed : (place : ℕ) → IsPlaced place none
none_placed place counted = absurd (let no : false ≡ true = counted in cc)

pub places_placed : (fields : List Field) (places : ℕ) → ArePlaced fields → ArePlaced (of_places fields places)
places_placed fields places placed place = places_with IsPlaced fields places place (placed place) (none_placed place)

abbrev IsPlaceOf : ℕ → ℕ → Type 0
IsPlaceOf place c = IsOf place (f c 1)

placed_as : (place c count : ℕ) → IsPlaceOf place c → IsPlaced place (f c count)
placed_as place c count is counted = record { there = is.there; second = is.second }

text_placed : (place c short : ℕ) (width : Option TextWidth) → IsPlaceOf place c → IsPlaced place (text_field c short width)
text_placed place c short None is = none_placed place
text_placed place c short (Some text_width.Narrow) is = placed_as place c 5 is
text_placed place c short (Some text_width.Short) is = placed_as place c short is
text_placed place c short (Some text_width.Long) is = placed_as place c 4 is

number_placed : (place c : ℕ) (width : Option NumberWidth) → IsPlaceOf place c → IsPlaced place (number_field c width)
number_placed place c None is = none_placed place
number_placed place c (Some number_width.Numeric) is = placed_as place c 1 is
number_placed place c (Some number_width.TwoDigit) is = placed_as place c 2 is

-- the place of a letter other than that of the seconds
other_place : (place c : ℕ) → place_of c ≡ Some place → place ≢ 8 → IsPlaceOf place c
other_place place c is other = record { there = is; second = λ e. absurd (other e) }

month_placed : (width : Option MonthWidth) → IsPlaced 2 (month_field width)
month_placed None = none_placed 2
month_placed (Some (month_width.Number width)) = number_placed 2 77 (Some width) (other_place 2 77 refl (λ e. omega (arith, e)))
month_placed (Some (month_width.Text width)) = text_placed 2 77 3 (Some width) (other_place 2 77 refl (λ e. omega (arith, e)))

zone_letter : (c : ℕ) → place_of c ≡ Some 10 → IsPlaceOf 10 c
zone_letter c is = other_place 10 c is (λ e. omega (arith, e))

zone_placed : (name : Option ZoneName) → IsPlaced 10 (zone_field name)
zone_placed None = none_placed 10
zone_placed (Some zone_name.Short) = placed_as 10 122 1 (zone_letter 122 refl)
zone_placed (Some zone_name.Long) = placed_as 10 122 4 (zone_letter 122 refl)
zone_placed (Some zone_name.ShortOffset) = placed_as 10 79 1 (zone_letter 79 refl)
zone_placed (Some zone_name.LongOffset) = placed_as 10 79 4 (zone_letter 79 refl)
zone_placed (Some zone_name.ShortGeneric) = placed_as 10 118 1 (zone_letter 118 refl)
zone_placed (Some zone_name.LongGeneric) = placed_as 10 118 4 (zone_letter 118 refl)

fraction_placed : (digits : Option ℕ) → IsPlaced 9 (fraction_field digits)
fraction_placed None = none_placed 9
fraction_placed (Some n) = placed_as 9 83 (min n 3) (other_place 9 83 refl (λ e. omega (arith, e)))

pub hour_place : (c : HourCycle) → place_of (hour_letter c) ≡ Some 6
hour_place cycle.H11 = refl
hour_place cycle.H12 = refl
hour_place cycle.H23 = refl
hour_place cycle.H24 = refl

either_placed : (b : Bool) (place : ℕ) (x y : Field) → IsPlaced place x → IsPlaced place y → IsPlaced place (if b then x else y)
either_placed true place x y hx hy = hx
either_placed false place x y hx hy = hy

second_place : IsPlaceOf 8 115
second_place = record { there = refl; second = λ e. refl }

asked_placed : (row : Row) (o : options.FluentDateTimeOptions) → ArePlaced (asked_fields row o)
asked_placed row o zero = text_placed 0 71 3 o.era (other_place 0 71 refl (λ e. omega (arith, e)))
asked_placed row o (suc zero) =
    let is = other_place 1 121 refl (λ e. omega (arith, e)) in
    either_placed (is_bare o) 1 (f 121 1) (number_field 121 o.year) (placed_as 1 121 1 is) (number_placed 1 121 o.year is)
asked_placed row o (suc (suc zero)) =
    let is = other_place 2 77 refl (λ e. omega (arith, e)) in
    either_placed (is_bare o) 2 (f 77 1) (month_field o.month) (placed_as 2 77 1 is) (month_placed o.month)
asked_placed row o (suc (suc (suc zero))) = text_placed 3 69 3 o.weekday (other_place 3 69 refl (λ e. omega (arith, e)))
asked_placed row o (suc (suc (suc (suc zero)))) =
    let is = other_place 4 100 refl (λ e. omega (arith, e)) in
    either_placed (is_bare o) 4 (f 100 1) (number_field 100 o.day) (placed_as 4 100 1 is) (number_placed 4 100 o.day is)
asked_placed row o (suc (suc (suc (suc (suc zero))))) = text_placed 5 66 1 o.day_period (other_place 5 66 refl (λ e. omega (arith, e)))
asked_placed row o (suc (suc (suc (suc (suc (suc zero)))))) =
    number_placed 6 (hour_letter (cycle_of row o)) o.hour (other_place 6 (hour_letter (cycle_of row o)) (hour_place (cycle_of row o)) (λ e. omega (arith, e)))
asked_placed row o (suc (suc (suc (suc (suc (suc (suc zero))))))) = number_placed 7 109 o.minute (other_place 7 109 refl (λ e. omega (arith, e)))
asked_placed row o (suc (suc (suc (suc (suc (suc (suc (suc zero)))))))) = number_placed 8 115 o.second second_place
asked_placed row o (suc (suc (suc (suc (suc (suc (suc (suc (suc zero))))))))) = fraction_placed o.fractional_second_digits
asked_placed row o (suc (suc (suc (suc (suc (suc (suc (suc (suc (suc zero)))))))))) = zone_placed o.time_zone_name
asked_placed row o (suc (suc (suc (suc (suc (suc (suc (suc (suc (suc (suc p))))))))))) = none_placed (suc (suc (suc (suc (suc (suc (suc (suc (suc (suc (suc p)))))))))))

-- ---- completed

-- what holds of each field holds of each after a field was set or not
pub second_with : (P : ℕ → Field → Type 0) (b : Bool) (fields : List Field) (p : ℕ) → P p (at fields p) → P 8 (f 115 1) → P p (at (if b then slice_set fields 8 (f (letter "s") 1) else fields) p)
second_with P true fields p h there = set_with P fields 8 p (f 115 1) h there
second_with P false fields p h there = h

pub half_with : (P : ℕ → Field → Type 0) (shown twelve there : Bool) (fields : List Field) (p : ℕ) → P p (at fields p) → P 5 (f 97 1) → ((shown && not twelve) ≡ true → P 5 none)
    → P p (at (if shown then (if twelve then (if there then fields else slice_set fields 5 (f (letter "a") 1)) else slice_set fields 5 none) else fields) p)
half_with P false twelve there fields p h a other = h
half_with P true true true fields p h a other = h
half_with P true true false fields p h a other = set_with P fields 5 p (f 97 1) h a
half_with P true false there fields p h a other = set_with P fields 5 p none h (other refl)

half_placed : (fields : List Field) → ArePlaced fields → ArePlaced (with_half fields)
half_placed fields placed place =
    half_with IsPlaced (has fields 6) (is_any (at fields 6).letter (codes "hK")) (has fields 5) fields place (placed place)
    (placed_as 5 97 1 (other_place 5 97 refl (λ e. omega (arith, e)))) (λ e. none_placed 5)

second_placed : (fields : List Field) → ArePlaced fields → ArePlaced (with_second fields)
second_placed fields placed place =
    second_with IsPlaced (has fields 7 && (has fields 9 && (at fields 8).count == 0)) fields place (placed place) (placed_as 8 115 1 second_place)

pub wanted_placed : (row : Row) (o : options.FluentDateTimeOptions) → ArePlaced (wanted_fields row o)
wanted_placed row o =
    half_placed (with_second (asked_fields row o)) (second_placed (asked_fields row o) (asked_placed row o))
