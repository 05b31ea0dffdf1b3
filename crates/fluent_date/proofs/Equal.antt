-- Equality of values and of their options.
use Rattle.std.proofs.Common.{◌≡◌, Bool, true, false, ◌&&◌, ◌==◌, eqb, refl, sym, ap, ◌∙◌, Option, Some, None, Decides, rules}
use Rattle.std.specs.Option.{option_eq}
use Rattle.std.specs.Ordering.{int_eq}
use Rattle.std.specs.Cmp.{booleans_Decides}
use Rattle.std.proofs.lemmas.Bool.Decides.{Decides-and, Decides-eqb, Decides-int_eq, Decides-like}
use Rattle.std.proofs.Math.Bool.{beq}
use Rattle.std.proofs.lemmas.Option.{none-some, same_Some}
use denote.Enum.Bare.{sameb, same_true, true_same}
use Rattle.fluent_date.specs.contracts.options.DateStyle as date_style
use Rattle.fluent_date.specs.contracts.options.HourCycle as hour_cycle
use Rattle.fluent_date.specs.contracts.options.TextWidth as text_width
use Rattle.fluent_date.specs.contracts.options.NumberWidth as number_width
use Rattle.fluent_date.specs.contracts.options.ZoneName as zone_name
use Rattle.fluent_date.specs.declared.options.DateStyle.{DateStyle}
use Rattle.fluent_date.specs.declared.options.HourCycle.{HourCycle}
use Rattle.fluent_date.specs.declared.options.TextWidth.{TextWidth}
use Rattle.fluent_date.specs.declared.options.NumberWidth.{NumberWidth}
use Rattle.fluent_date.specs.declared.options.MonthWidth.{MonthWidth}
use Rattle.fluent_date.specs.declared.options.MonthWidth.TheVariants as month
use Rattle.fluent_date.specs.declared.options.ZoneName.{ZoneName}
use Rattle.fluent_date.specs.declared.options.FluentDateTimeOptions as options
use Rattle.fluent_date.specs.declared.date_time.FluentDateTime as date_time
use Rattle.fluent_date.specs.declared.civil.CivilDate as civil
use Rattle.fluent_date.specs.declared.time.TimeOfDay as time
use Rattle.fluent_date.specs.declared.offset.Offset as offset

-- equality of what may be missing
pub option_decides : {A : Type 0} (E : A → A → Bool) → ((x y : A) → Decides (E x y) (x ≡ y)) → (a b : Option A) → Decides (option_eq E a b) (a ≡ b)
option_decides E each None None = (λ _. refl, λ _. refl)
option_decides E each None (Some y) = (λ e. cc, λ e. absurd (none-some y e))
option_decides E each (Some x) None = (λ e. cc, λ e. absurd (none-some x (sym e)))
option_decides E each (Some x) (Some y) = (λ e. ap (λ s. Some s) ((each x y).0 e), λ e. (each x y).1 (same_Some x y e))

pub dates_decide : (x y : civil.CivilDate) → Decides (int_eq x.year y.year && (x.month == y.month && x.day == y.day)) (x ≡ y)
dates_decide x y =
    Decides-like (int_eq x.year y.year && (x.month == y.month && x.day == y.day))
    (λ same i. record { year = same.0 i; month = same.1.0 i; day = same.1.1 i })
    (λ e. (ap (λ (d : civil.CivilDate). d.year) e, (ap (λ (d : civil.CivilDate). d.month) e, ap (λ (d : civil.CivilDate). d.day) e)))
    (Decides-and _ _ (Decides-int_eq x.year y.year) (Decides-and _ _ (Decides-eqb x.month y.month) (Decides-eqb x.day y.day)))

pub times_decide : (x y : time.TimeOfDay) → Decides (x.hour == y.hour && (x.minute == y.minute && (x.second == y.second && x.nanosecond == y.nanosecond))) (x ≡ y)
times_decide x y =
    Decides-like (x.hour == y.hour && (x.minute == y.minute && (x.second == y.second && x.nanosecond == y.nanosecond)))
    (λ same i. record { hour = same.0 i; minute = same.1.0 i; second = same.1.1.0 i; nanosecond = same.1.1.1 i })
    (λ e. (ap (λ (t : time.TimeOfDay). t.hour) e, (ap (λ (t : time.TimeOfDay). t.minute) e, (ap (λ (t : time.TimeOfDay). t.second) e, ap (λ (t : time.TimeOfDay). t.nanosecond) e))))
    (Decides-and _ _ (Decides-eqb x.hour y.hour) (Decides-and _ _ (Decides-eqb x.minute y.minute) (Decides-and _ _ (Decides-eqb x.second y.second) (Decides-eqb x.nanosecond y.nanosecond))))

pub offsets_decide : (x y : offset.Offset) → Decides (beq x.is_negative y.is_negative && x.seconds == y.seconds) (x ≡ y)
offsets_decide x y =
    Decides-like (beq x.is_negative y.is_negative && x.seconds == y.seconds)
    (λ same i. record { is_negative = same.0 i; seconds = same.1 i })
    (λ e. (ap (λ (o : offset.Offset). o.is_negative) e, ap (λ (o : offset.Offset). o.seconds) e))
    (Decides-and _ _ (booleans_Decides x.is_negative y.is_negative) (Decides-eqb x.seconds y.seconds))

-- ---- options

styles_decide : (a b : DateStyle) → Decides (sameb date_style.the_type a b) (a ≡ b)
styles_decide a b = (same_true date_style.the_type (search rules) a b, true_same date_style.the_type a b)

cycles_decide : (a b : HourCycle) → Decides (sameb hour_cycle.the_type a b) (a ≡ b)
cycles_decide a b = (same_true hour_cycle.the_type (search rules) a b, true_same hour_cycle.the_type a b)

texts_decide : (a b : TextWidth) → Decides (sameb text_width.the_type a b) (a ≡ b)
texts_decide a b = (same_true text_width.the_type (search rules) a b, true_same text_width.the_type a b)

numbers_decide : (a b : NumberWidth) → Decides (sameb number_width.the_type a b) (a ≡ b)
numbers_decide a b = (same_true number_width.the_type (search rules) a b, true_same number_width.the_type a b)

zones_decide : (a b : ZoneName) → Decides (sameb zone_name.the_type a b) (a ≡ b)
zones_decide a b = (same_true zone_name.the_type (search rules) a b, true_same zone_name.the_type a b)

number_in : MonthWidth → NumberWidth → NumberWidth
number_in (month.Number width) other = width
number_in (month.Text width) other = other

text_in : MonthWidth → TextWidth → TextWidth
text_in (month.Number width) other = other
text_in (month.Text width) other = width

-- a test of widths of months that tests what they hold
pub record TestsMonths (E : MonthWidth → MonthWidth → Bool) : Type 0 where
  pub numbers : (a b : NumberWidth) → E (month.Number a) (month.Number b) ≡ sameb number_width.the_type a b
  pub texts : (a b : TextWidth) → E (month.Text a) (month.Text b) ≡ sameb text_width.the_type a b
  pub number_text : (a : NumberWidth) (b : TextWidth) → E (month.Number a) (month.Text b) ≡ false
  pub text_number : (a : TextWidth) (b : NumberWidth) → E (month.Text a) (month.Number b) ≡ false

months_decide : (E : MonthWidth → MonthWidth → Bool) → TestsMonths E → (x y : MonthWidth) → Decides (E x y) (x ≡ y)
unfolding number_in text_in
months_decide E tests (month.Number a) (month.Number b) =
    (λ e. ap (λ w. month.Number w) ((numbers_decide a b).0 (sym (tests.numbers a b) ∙ e)), λ e. tests.numbers a b ∙ (numbers_decide a b).1 (ap (λ w. number_in w a) e))
months_decide E tests (month.Text a) (month.Text b) =
    (λ e. ap (λ w. month.Text w) ((texts_decide a b).0 (sym (tests.texts a b) ∙ e)), λ e. tests.texts a b ∙ (texts_decide a b).1 (ap (λ w. text_in w a) e))
months_decide E tests (month.Number a) (month.Text b) =
    (λ e. absurd (let no : false ≡ true = sym (tests.number_text a b) ∙ e in cc), λ e. cc)
months_decide E tests (month.Text a) (month.Number b) =
    (λ e. absurd (let no : false ≡ true = sym (tests.text_number a b) ∙ e in cc), λ e. cc)

-- what `==` tests of options
abbrev pub equal_options : (MonthWidth → MonthWidth → Bool) → options.FluentDateTimeOptions → options.FluentDateTimeOptions → Bool
equal_options E x y =
    option_eq (sameb date_style.the_type) x.date_style y.date_style
    && (option_eq (sameb date_style.the_type) x.time_style y.time_style
    && (option_eq (sameb hour_cycle.the_type) x.hour_cycle y.hour_cycle
    && (option_eq beq x.hour12 y.hour12
    && (option_eq (sameb text_width.the_type) x.weekday y.weekday
    && (option_eq (sameb text_width.the_type) x.era y.era
    && (option_eq (sameb number_width.the_type) x.year y.year
    && (option_eq E x.month y.month
    && (option_eq (sameb number_width.the_type) x.day y.day
    && (option_eq (sameb text_width.the_type) x.day_period y.day_period
    && (option_eq (sameb number_width.the_type) x.hour y.hour
    && (option_eq (sameb number_width.the_type) x.minute y.minute
    && (option_eq (sameb number_width.the_type) x.second y.second
    && (option_eq eqb x.fractional_second_digits y.fractional_second_digits
    && option_eq (sameb zone_name.the_type) x.time_zone_name y.time_zone_name)))))))))))))

abbrev Options : Type 0
Options = options.FluentDateTimeOptions

pub options_decide : (E : MonthWidth → MonthWidth → Bool) → TestsMonths E → (x y : options.FluentDateTimeOptions) → Decides (equal_options E x y) (x ≡ y)
options_decide E tests x y =
    Decides-like (equal_options E x y)
    (λ same i. record {
      date_style = same.0 i;
      time_style = same.1.0 i;
      hour_cycle = same.1.1.0 i;
      hour12 = same.1.1.1.0 i;
      weekday = same.1.1.1.1.0 i;
      era = same.1.1.1.1.1.0 i;
      year = same.1.1.1.1.1.1.0 i;
      month = same.1.1.1.1.1.1.1.0 i;
      day = same.1.1.1.1.1.1.1.1.0 i;
      day_period = same.1.1.1.1.1.1.1.1.1.0 i;
      hour = same.1.1.1.1.1.1.1.1.1.1.0 i;
      minute = same.1.1.1.1.1.1.1.1.1.1.1.0 i;
      second = same.1.1.1.1.1.1.1.1.1.1.1.1.0 i;
      fractional_second_digits = same.1.1.1.1.1.1.1.1.1.1.1.1.1.0 i;
      time_zone_name = same.1.1.1.1.1.1.1.1.1.1.1.1.1.1 i;
    })
    (λ e. (ap (λ (o : Options). o.date_style) e, (ap (λ (o : Options). o.time_style) e, (ap (λ (o : Options). o.hour_cycle) e, (ap (λ (o : Options). o.hour12) e, (ap (λ (o : Options). o.weekday) e, (ap (λ (o : Options). o.era) e, (ap (λ (o : Options). o.year) e, (ap (λ (o : Options). o.month) e, (ap (λ (o : Options). o.day) e, (ap (λ (o : Options). o.day_period) e, (ap (λ (o : Options). o.hour) e, (ap (λ (o : Options). o.minute) e, (ap (λ (o : Options). o.second) e, (ap (λ (o : Options). o.fractional_second_digits) e, ap (λ (o : Options). o.time_zone_name) e)))))))))))))))
    (Decides-and _ _ (option_decides (sameb date_style.the_type) styles_decide x.date_style y.date_style)
    (Decides-and _ _ (option_decides (sameb date_style.the_type) styles_decide x.time_style y.time_style)
    (Decides-and _ _ (option_decides (sameb hour_cycle.the_type) cycles_decide x.hour_cycle y.hour_cycle)
    (Decides-and _ _ (option_decides beq booleans_Decides x.hour12 y.hour12)
    (Decides-and _ _ (option_decides (sameb text_width.the_type) texts_decide x.weekday y.weekday)
    (Decides-and _ _ (option_decides (sameb text_width.the_type) texts_decide x.era y.era)
    (Decides-and _ _ (option_decides (sameb number_width.the_type) numbers_decide x.year y.year)
    (Decides-and _ _ (option_decides E (months_decide E tests) x.month y.month)
    (Decides-and _ _ (option_decides (sameb number_width.the_type) numbers_decide x.day y.day)
    (Decides-and _ _ (option_decides (sameb text_width.the_type) texts_decide x.day_period y.day_period)
    (Decides-and _ _ (option_decides (sameb number_width.the_type) numbers_decide x.hour y.hour)
    (Decides-and _ _ (option_decides (sameb number_width.the_type) numbers_decide x.minute y.minute)
    (Decides-and _ _ (option_decides (sameb number_width.the_type) numbers_decide x.second y.second)
    (Decides-and _ _ (option_decides eqb Decides-eqb x.fractional_second_digits y.fractional_second_digits)
    (option_decides (sameb zone_name.the_type) zones_decide x.time_zone_name y.time_zone_name)))))))))))))))

-- ---- values

abbrev equal_dates : civil.CivilDate → civil.CivilDate → Bool
equal_dates x y = int_eq x.year y.year && (x.month == y.month && x.day == y.day)

abbrev equal_times : time.TimeOfDay → time.TimeOfDay → Bool
equal_times x y = x.hour == y.hour && (x.minute == y.minute && (x.second == y.second && x.nanosecond == y.nanosecond))

abbrev equal_offsets : offset.Offset → offset.Offset → Bool
equal_offsets x y = beq x.is_negative y.is_negative && x.seconds == y.seconds

-- what `==` tests of values
abbrev pub equal_values : (MonthWidth → MonthWidth → Bool) → date_time.FluentDateTime → date_time.FluentDateTime → Bool
equal_values E x y =
    equal_dates x.date y.date
    && (option_eq equal_times x.time y.time && (option_eq equal_offsets x.offset y.offset && equal_options E x.options y.options))

pub values_decide : (E : MonthWidth → MonthWidth → Bool) → TestsMonths E → (x y : date_time.FluentDateTime) → Decides (equal_values E x y) (x ≡ y)
values_decide E tests x y =
    Decides-like (equal_values E x y)
    (λ same i. record { date = same.0 i; time = same.1.0 i; offset = same.1.1.0 i; options = same.1.1.1 i })
    (λ e. (ap (λ (v : date_time.FluentDateTime). v.date) e, (ap (λ (v : date_time.FluentDateTime). v.time) e, (ap (λ (v : date_time.FluentDateTime). v.offset) e, ap (λ (v : date_time.FluentDateTime). v.options) e))))
    (Decides-and _ _ (dates_decide x.date y.date)
    (Decides-and _ _ (option_decides equal_times times_decide x.time y.time)
    (Decides-and _ _ (option_decides equal_offsets offsets_decide x.offset y.offset) (options_decide E tests x.options y.options))))
