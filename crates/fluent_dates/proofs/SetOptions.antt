-- Options that are set ask for their fields.
use Rattle.std.proofs.Common.{◌≡◌, ◌∙◌, ◌≢◌, ℕ, zero, suc, Bool, true, false, ◌&&◌, not, ◌==◌, if◌then◌else◌, List, Option, Some, None, refl, ap, sym, min, arith}
use Rattle.std.specs.Prelude.{codes, is_some, nat_lt, slice_set}
use Rattle.std.proofs.lemmas.Bool.{eq-eqb, lt-ltb, ltb-true}
use Rattle.fluent_date.specs.declared.options.MonthWidth.{MonthWidth}
use Rattle.fluent_date.specs.declared.options.MonthWidth.TheVariants as month_width
use Rattle.fluent_date.specs.declared.options.NumberWidth.{NumberWidth}
use Rattle.fluent_date.specs.declared.options.NumberWidth.TheVariants as number_width
use Rattle.fluent_date.specs.declared.options.TextWidth.{TextWidth}
use Rattle.fluent_date.specs.declared.options.TextWidth.TheVariants as text_width
use Rattle.fluent_date.specs.declared.options.ZoneName.{ZoneName}
use Rattle.fluent_date.specs.declared.options.ZoneName.TheVariants as zone_name
use Rattle.fluent_date.specs.declared.options.FluentDateTimeOptions as options
use Rattle.fluent_date_tables.specs.Tables.{Row}
use Rattle.fluent_dates.specs.Fields.{Field, at, f, has, is_any, with_second}
use Rattle.fluent_dates.specs.Laws.{has_24_hours, has_digits, is_set}
use Rattle.fluent_dates.specs.Patterns.{asked_fields, cycle_of, fraction_field, hour_letter, is_bare, month_field, number_field, text_field, wanted_fields, zone_field}
use Rattle.fluent_dates.proofs.Placed.{IsCounted, half_with, second_with}

-- ---- fields of options that are set

text_counted : (c short : ℕ) (width : Option TextWidth) → nat_lt 0 short ≡ true → is_some width ≡ true → IsCounted (text_field c short width)
text_counted c short None some h = absurd (let no : false ≡ true = h in cc)
text_counted c short (Some text_width.Narrow) some h = refl
text_counted c short (Some text_width.Short) some h = some
text_counted c short (Some text_width.Long) some h = refl

number_counted : (c : ℕ) (width : Option NumberWidth) → is_some width ≡ true → IsCounted (number_field c width)
number_counted c None h = absurd (let no : false ≡ true = h in cc)
number_counted c (Some number_width.Numeric) h = refl
number_counted c (Some number_width.TwoDigit) h = refl

month_counted : (width : Option MonthWidth) → is_some width ≡ true → IsCounted (month_field width)
month_counted None h = absurd (let no : false ≡ true = h in cc)
month_counted (Some (month_width.Number width)) h = number_counted 77 (Some width) refl
month_counted (Some (month_width.Text width)) h = text_counted 77 3 (Some width) refl refl

zone_counted : (name : Option ZoneName) → is_some name ≡ true → IsCounted (zone_field name)
zone_counted None h = absurd (let no : false ≡ true = h in cc)
zone_counted (Some zone_name.Short) h = refl
zone_counted (Some zone_name.Long) h = refl
zone_counted (Some zone_name.ShortOffset) h = refl
zone_counted (Some zone_name.LongOffset) h = refl
zone_counted (Some zone_name.ShortGeneric) h = refl
zone_counted (Some zone_name.LongGeneric) h = refl

fraction_counted : (digits : Option ℕ) → has_digits digits ≡ true → IsCounted (fraction_field digits)
fraction_counted None h = absurd (let no : false ≡ true = h in cc)
fraction_counted (Some n) h = lt-ltb 0 (min n 3) (omega (arith, ltb-true 0 n h))

either_counted : (b : Bool) (x y : Field) → IsCounted x → IsCounted y → IsCounted (if b then x else y)
either_counted true x y hx hy = hx
either_counted false x y hx hy = hy

asked_counted : (row : Row) (o : options.FluentDateTimeOptions) (place : ℕ) → is_set o place ≡ true → IsCounted (at (asked_fields row o) place)
asked_counted row o zero h = text_counted 71 3 o.era refl h
asked_counted row o (suc zero) h = either_counted (is_bare o) (f 121 1) (number_field 121 o.year) refl (number_counted 121 o.year h)
asked_counted row o (suc (suc zero)) h = either_counted (is_bare o) (f 77 1) (month_field o.month) refl (month_counted o.month h)
asked_counted row o (suc (suc (suc zero))) h = text_counted 69 3 o.weekday refl h
asked_counted row o (suc (suc (suc (suc zero)))) h = either_counted (is_bare o) (f 100 1) (number_field 100 o.day) refl (number_counted 100 o.day h)
asked_counted row o (suc (suc (suc (suc (suc zero))))) h = text_counted 66 1 o.day_period refl h
asked_counted row o (suc (suc (suc (suc (suc (suc zero)))))) h = number_counted (hour_letter (cycle_of row o)) o.hour h
asked_counted row o (suc (suc (suc (suc (suc (suc (suc zero))))))) h = number_counted 109 o.minute h
asked_counted row o (suc (suc (suc (suc (suc (suc (suc (suc zero)))))))) h = number_counted 115 o.second h
asked_counted row o (suc (suc (suc (suc (suc (suc (suc (suc (suc zero))))))))) h = fraction_counted o.fractional_second_digits h
asked_counted row o (suc (suc (suc (suc (suc (suc (suc (suc (suc (suc zero)))))))))) h = zone_counted o.time_zone_name h
asked_counted row o (suc (suc (suc (suc (suc (suc (suc (suc (suc (suc (suc p))))))))))) h = absurd (let no : false ≡ true = h in cc)

-- ---- completed

-- counted, unless it is the part of the day and this is so
abbrev IsCountedUnless : Bool → ℕ → Field → Type 0
IsCountedUnless b place field = (place ≡ 5 → b ≢ true) → IsCounted field

-- hours of 24 among the fields are those of the options
clock : (l : ℕ) (hour : Option NumberWidth) → (nat_lt 0 (number_field l hour).count && not (is_any (number_field l hour).letter (codes "hK"))) ≡ true
    → (is_some hour && not (is_any l (codes "hK"))) ≡ true
clock l None h = h
clock l (Some number_width.Numeric) h = h
clock l (Some number_width.TwoDigit) h = h

-- the hours stay if seconds are put to minutes with a fraction
hours_stay : (b : Bool) (fields : List Field) → at (if b then slice_set fields 8 (f 115 1) else fields) 6 ≡ at fields 6
hours_stay b fields = second_with (λ p field. p ≡ 6 → field ≡ at fields 6) b fields 6 (λ e. refl) (λ e. absurd (omega (arith, e))) refl

not_both : (b c : Bool) → b ≡ true → c ≡ true → (b && c) ≢ false
not_both true true hb hc is = let it : true ≡ false = is in cc
not_both false c hb hc is = let it : false ≡ true = hb in cc
not_both true false hb hc is = let it : false ≡ true = hc in cc

pub set_is_wanted : (row : Row) (o : options.FluentDateTimeOptions) (place : ℕ) → is_set o place ≡ true → (place == 5 && has_24_hours row o) ≡ false → has (wanted_fields row o) place ≡ true
set_is_wanted row o place set unless =
    let asked = asked_fields row o in
    let fields = with_second asked in
    let second : IsCountedUnless (has_24_hours row o) place (at fields place) =
    second_with (IsCountedUnless (has_24_hours row o)) (has asked 7 && (has asked 9 && (at asked 8).count == 0)) asked place (λ e. asked_counted row o place set) (λ e. refl) in
    let hours : at fields 6 ≡ at asked 6 = hours_stay (has asked 7 && (has asked 9 && (at asked 8).count == 0)) asked in
    let l = hour_letter (cycle_of row o) in
    let of_24 : (has fields 6 && not (is_any (at fields 6).letter (codes "hK"))) ≡ true → has_24_hours row o ≡ true =
    λ h. clock l o.hour (sym (ap (λ (field : Field). nat_lt 0 field.count && not (is_any field.letter (codes "hK"))) hours) ∙ h) in
    half_with (IsCountedUnless (has_24_hours row o)) (has fields 6) (is_any (at fields 6).letter (codes "hK")) (has fields 5) fields place second (λ e. refl) (λ h other. absurd (other refl (of_24 h)))
    (λ e h. not_both (place == 5) (has_24_hours row o) (eq-eqb place 5 e) h unless)
