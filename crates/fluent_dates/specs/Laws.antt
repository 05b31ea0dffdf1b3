-- The laws of dates in locales.
use Rattle.std.specs.Prelude.{◌≡◌, ◌↔◌, ◌<◌, ◌==◌, ◌||◌, ◌&&◌, ◌++◌, not, ℕ, zero, suc, nat_lt, Bool, true, false, List, [], ◌∷◌, Option, Some, None, is_some, codes, if◌then◌else◌, length, map, slice_get, slice_index_or}
use Rattle.std.specs.List.{All}
use Rattle.fluent_plurals.specs.Lookup.{folded}
use Rattle.fluent_date.specs.declared.options.FluentDateTimeOptions as options
use Rattle.fluent_date_tables.specs.Lists.{list_numbered}
use Rattle.fluent_date_tables.specs.Rows.{rows}
use Rattle.fluent_date_tables.specs.Skeletons.{skeletons}
use Rattle.fluent_date_tables.specs.Tables.{Pair, Row, Skeleton, Text}
use Rattle.fluent_date_tables.specs.Texts.{text_numbered}
use Rattle.fluent_dates.specs.Fields.{Field, at, has, is_any, measure, place_of}
use Rattle.fluent_dates.specs.Items.{items_of}
use Rattle.fluent_dates.specs.Lookup.{locale_for}
use Rattle.fluent_dates.specs.Matching.{Found, gap_between, is_nearer, nearest}
use Rattle.fluent_dates.specs.Patterns.{component_pattern, cycle_of, fitting, has_any, hour_letter, lacks_fraction, of_places, wanted_fields, with_fraction, without_fraction}
use Rattle.fluent_dates.specs.declared.items.Item.{Item}
use Rattle.fluent_dates.specs.declared.items.Item.TheVariants as item

-- the same tag, but for the case of its letters, and for `_` in place of `-`
abbrev pub AreOneTag : Text → Text → Type 0
AreOneTag a b = map folded a ≡ map folded b

-- Two spellings of one tag are of one locale.
abbrev pub SpellingsShareLocale : Type 0
SpellingsShareLocale = (a b : Text) → AreOneTag a b → locale_for a ≡ locale_for b

-- whether the pattern of a pair, if its skeleton is there, isn't nearer to these measures than one that was found
abbrev pub IsNoNearer : List ℕ → Found → Pair → Type 0
IsNoNearer wanted known pair =
    (skeleton : Skeleton) → slice_get skeletons pair.skeleton ≡ Some skeleton → is_nearer (gap_between wanted skeleton.measures) known.gap ≡ false

-- No pattern of the locale is nearer to the fields that are wanted than the one that is found.
abbrev pub NoneIsNearer : Type 0
NoneIsNearer =
    (row : Row) (wanted : List Field) (known : Found) → nearest row wanted ≡ Some known
    → All (IsNoNearer (map measure wanted) known) (list_numbered row.date_patterns ++ list_numbered row.time_patterns)

-- measures for the same fields: where one is 0 there is no field, and the other is 0
abbrev pub AreForSamePlaces : List ℕ → List ℕ → Type 0
AreForSamePlaces wanted known =
    (place : ℕ) → place < length wanted → place < length known → (slice_index_or wanted place 0 ≡ 0) ↔ (slice_index_or known place 0 ≡ 0)

-- A pattern that fits is for the fields that are wanted, and for no others.
abbrev pub FittingHasFields : Type 0
FittingHasFields =
    (row : Row) (wanted : List Field) (known : Found) → fitting row wanted ≡ Some known → AreForSamePlaces (map measure wanted) known.skeleton.measures

-- ---- fields that are asked for

-- whether digits of a fraction are asked for
abbrev pub has_digits : Option ℕ → Bool
has_digits None = false
has_digits (Some digits) = nat_lt 0 digits

-- whether the option of a place is set: era, year, month, weekday, day, part of the day, hour, minute, second, fraction, zone
abbrev pub is_set : options.FluentDateTimeOptions → ℕ → Bool
is_set o zero = is_some o.era
is_set o (suc zero) = is_some o.year
is_set o (suc (suc zero)) = is_some o.month
is_set o (suc (suc (suc zero))) = is_some o.weekday
is_set o (suc (suc (suc (suc zero)))) = is_some o.day
is_set o (suc (suc (suc (suc (suc zero))))) = is_some o.day_period
is_set o (suc (suc (suc (suc (suc (suc zero)))))) = is_some o.hour
is_set o (suc (suc (suc (suc (suc (suc (suc zero))))))) = is_some o.minute
is_set o (suc (suc (suc (suc (suc (suc (suc (suc zero)))))))) = is_some o.second
is_set o (suc (suc (suc (suc (suc (suc (suc (suc (suc zero))))))))) = has_digits o.fractional_second_digits
is_set o (suc (suc (suc (suc (suc (suc (suc (suc (suc (suc zero)))))))))) = is_some o.time_zone_name
is_set o _ = false

-- whether hours are shown, and the clock has 24 of them
abbrev pub has_24_hours : Row → options.FluentDateTimeOptions → Bool
has_24_hours row o = is_some o.hour && not (is_any (hour_letter (cycle_of row o)) (codes "hK"))

-- Each option that is set asks for its field, but the part of the day next to hours of 24.
abbrev pub SetIsWanted : Type 0
SetIsWanted =
    (row : Row) (o : options.FluentDateTimeOptions) (place : ℕ) → is_set o place ≡ true
    → (place == 5 && has_24_hours row o) ≡ false → has (wanted_fields row o) place ≡ true

-- ---- fields that are shown

abbrev pub is_place : ℕ → Option ℕ → Bool
is_place place None = false
is_place place (Some other) = other == place

-- whether an item is a field of this place
abbrev pub is_at : ℕ → Item → Bool
is_at place (item.Char c) = false
is_at place (item.Field field) = is_place place (place_of field.letter)

-- whether items have a field of this place
abbrev pub shows_place : List Item → ℕ → Bool
shows_place [] place = false
shows_place (i ∷ items) place = is_at place i || shows_place items place

-- a pattern of CLDR
abbrev pub pattern_items : Found → List Item
pattern_items known = items_of (text_numbered known.pattern)

abbrev pub found_pattern : Option Found → List (List Item)
found_pattern None = []
found_pattern (Some known) = pattern_items known ∷ []

-- the pattern that is put to another for the places that this one lacks, if it lacks any
abbrev pub further_pattern : Row → List Field → ℕ → List (List Item)
further_pattern row wanted lacks = if lacks == 0 then [] else found_pattern (nearest row (of_places wanted lacks))

-- the nearest pattern, with a fraction if that is all that its seconds lack, and one for what it lacks
abbrev pub nearest_by : Row → List Field → Option Found → List (List Item)
nearest_by row wanted None = []
nearest_by row wanted (Some known) =
    if lacks_fraction wanted known.gap.lacks
    then with_fraction row (at wanted 9) (pattern_items known) ∷ further_pattern row wanted (without_fraction known.gap.lacks)
    else pattern_items known ∷ further_pattern row wanted known.gap.lacks

abbrev pub nearest_patterns : Row → List Field → List (List Item)
nearest_patterns row wanted = nearest_by row wanted (nearest row wanted)

-- those of a date and of a time
abbrev pub patterns_of_both : Row → List Field → List Field → List (List Item)
patterns_of_both row date time =
    if not (has_any time) then nearest_patterns row date
    else (if not (has_any date) then nearest_patterns row time
    else nearest_patterns row time ++ nearest_patterns row date)

abbrev pub patterns_by : Row → List Field → Option Found → List (List Item)
patterns_by row wanted None = patterns_of_both row (of_places wanted 0x1f) (of_places wanted 0x7e0)
patterns_by row wanted (Some known) = pattern_items known ∷ []

-- the patterns of CLDR that a text with these fields is made of
abbrev pub patterns_for : Row → List Field → List (List Item)
patterns_for row wanted = patterns_by row wanted (fitting row wanted)

-- whether one of these patterns has a field of this place
abbrev pub has_place : List (List Item) → ℕ → Bool
has_place [] place = false
has_place (items ∷ patterns) place = shows_place items place || has_place patterns place

-- In each locale the text shows each field that is in one of the patterns of which it is made. So a field that is asked for and isn't
-- shown is one that all of these patterns lack.
abbrev pub ShowsItsPatterns : Type 0
ShowsItsPatterns =
    (number : ℕ) (row : Row) (o : options.FluentDateTimeOptions) (place : ℕ) → slice_get rows number ≡ Some row
    → has_place (patterns_for row (wanted_fields row o)) place ≡ true → shows_place (component_pattern row o) place ≡ true
