-- A text shows the fields that are in the patterns of which it is made.
use Rattle.std.proofs.Common.{◌≡◌, ◌∙◌, ◌⊎◌, ℕ, ◌<◌, Bool, true, false, ◌&&◌, ◌||◌, not, ◌==◌, if◌then◌else◌, List, [], ◌∷◌, ◌++◌, Option, Some, None, refl, ap, ap₂, subst, sym, map, arith, inl, inr}
use Rattle.std.specs.Prelude.{codes, is_some, slice_get, slice_index_or}
use Rattle.std.proofs.lemmas.Bool.{eqb-true, or_cases, or_left, or_right}
use Rattle.fluent_date.specs.declared.options.HourCycle.{HourCycle}
use Rattle.fluent_date.specs.declared.options.FluentDateTimeOptions as options
use Rattle.fluent_date_tables.specs.Rows.{rows}
use Rattle.fluent_date_tables.specs.Tables.{Row, Text}
use Rattle.fluent_date_tables.specs.Texts.{text_numbered}
use Rattle.fluent_dates.specs.Fields.{Field, at, f, has, is_any, letter, place_of}
use Rattle.fluent_dates.specs.Items.{items_of}
use Rattle.fluent_dates.specs.Laws.{found_pattern, further_pattern, has_place, is_at, is_place, nearest_by, nearest_patterns, pattern_items, patterns_by, patterns_for, shows_place}
use Rattle.fluent_dates.specs.Matching.{Found, nearest}
use Rattle.fluent_dates.specs.Patterns.{adjusted, adjusted_at, adjusted_count, adjusted_item, adjusted_letter, append_form, append_name, appended, appended_by, appended_more, appended_to, as_items, best_by, best_pattern, component_pattern, cycle_of, filled, fitting, fraction_after, glue_place, has_any, hour_letter, is_hour, joined, joined_items, lacks_fraction, last_place, of_places, wanted_fields, with_fraction, with_hours, without_fraction}
use Rattle.fluent_dates.specs.declared.items.Item.{Item}
use Rattle.fluent_dates.specs.declared.items.Item.TheVariants as item
use Rattle.fluent_dates.proofs.Forms.{HasForms, has_char, has_forms_of, last_below}
use Rattle.fluent_dates.proofs.Placed.{ArePlaced, hour_place, places_placed, wanted_placed}

abbrev Shows : List Item → ℕ → Type 0
Shows items p = shows_place items p ≡ true

-- ---- lists

shows_first : (a b : List Item) (p : ℕ) → Shows a p → Shows (a ++ b) p
shows_first [] b p h = absurd (let no : false ≡ true = h in cc)
shows_first (i ∷ a) b p h = elim (or_cases (is_at p i) (shows_place a p) h) [
  | inl here ↦ or_left (is_at p i) (shows_place (a ++ b) p) here
  | inr there ↦ or_right (is_at p i) (shows_place (a ++ b) p) (shows_first a b p there)
]

shows_second : (a b : List Item) (p : ℕ) → Shows b p → Shows (a ++ b) p
shows_second [] b p h = h
shows_second (i ∷ a) b p h = or_right (is_at p i) (shows_place (a ++ b) p) (shows_second a b p h)

shows_either : (a b : List Item) (p : ℕ) → Shows (a ++ b) p → Shows a p ⊎ Shows b p
shows_either [] b p h = inr h
shows_either (i ∷ a) b p h = elim (or_cases (is_at p i) (shows_place (a ++ b) p) h) [
  | inl here ↦ inl (or_left (is_at p i) (shows_place a p) here)
  | inr there ↦ elim (shows_either a b p there) [
    | inl first ↦ inl (or_right (is_at p i) (shows_place a p) first)
    | inr second ↦ inr second
  ]
]

has_either : (a b : List (List Item)) (p : ℕ) → has_place (a ++ b) p ≡ true → (has_place a p ≡ true) ⊎ (has_place b p ≡ true)
has_either [] b p h = inr h
has_either (items ∷ a) b p h = elim (or_cases (shows_place items p) (has_place (a ++ b) p) h) [
  | inl here ↦ inl (or_left (shows_place items p) (has_place a p) here)
  | inr there ↦ elim (has_either a b p there) [
    | inl first ↦ inl (or_right (shows_place items p) (has_place a p) first)
    | inr second ↦ inr second
  ]
]

-- ---- fields in the wanted widths

letter_by : (same hour usual : Bool) (place found asked : ℕ) (cycle : HourCycle) → (place == 6) ≡ hour → place_of found ≡ Some place → place_of asked ≡ Some place
    → place_of (if same then found else (if hour then (if usual then hour_letter cycle else found) else asked)) ≡ Some place
letter_by true hour usual place found asked cycle is old new = old
letter_by false true true place found asked cycle is old new = hour_place cycle ∙ ap (λ n. Some n) (sym (eqb-true place 6 is))
letter_by false true false place found asked cycle is old new = old
letter_by false false usual place found asked cycle is old new = new

letter_stays : (row : Row) (place : ℕ) (found asked : Field) → place_of found.letter ≡ Some place → place_of asked.letter ≡ Some place → place_of (adjusted_letter row place found asked) ≡ Some place
letter_stays row place found asked old new =
    letter_by (place == 1 || (place == 2 || place == 3)) (place == 6)
    ((is_any asked.letter (codes "hK") && is_any (hour_letter row.cycle) (codes "hK")) || (is_any asked.letter (codes "Hk") && is_any (hour_letter row.cycle) (codes "Hk")))
    place found.letter asked.letter row.cycle refl old new

stays_if : (b : Bool) (row : Row) (known : Found) (wanted : List Field) (p place : ℕ) (found : Field) → has wanted place ≡ b → ArePlaced wanted → place_of found.letter ≡ Some place
    → is_place p (place_of (if b then f (adjusted_letter row place found (at wanted place)) (adjusted_count known place found (at wanted place)) else found).letter) ≡ is_place p (place_of found.letter)
stays_if true row known wanted p place found there placed is =
    ap (is_place p) (letter_stays row place found (at wanted place) is (placed place there).there ∙ sym is)
stays_if false row known wanted p place found there placed is = refl

field_stays : (row : Row) (known : Found) (wanted : List Field) (p : ℕ) (found : Field) (place : Option ℕ) → ArePlaced wanted → place_of found.letter ≡ place
    → is_place p (place_of (adjusted_at row known wanted found place).letter) ≡ is_place p (place_of found.letter)
field_stays row known wanted p found None placed is = refl
field_stays row known wanted p found (Some place) placed is = stays_if (has wanted place) row known wanted p place found refl placed is

item_stays : (row : Row) (known : Found) (wanted : List Field) (p : ℕ) (i : Item) → ArePlaced wanted → is_at p (adjusted_item row known wanted i) ≡ is_at p i
item_stays row known wanted p (item.Char c) placed = refl
item_stays row known wanted p (item.Field found) placed = field_stays row known wanted p found (place_of found.letter) placed refl

items_stay : (row : Row) (known : Found) (wanted : List Field) (p : ℕ) (items : List Item) → ArePlaced wanted → shows_place (map (adjusted_item row known wanted) items) p ≡ shows_place items p
items_stay row known wanted p [] placed = refl
items_stay row known wanted p (i ∷ items) placed =
    ap₂ (λ a b. a || b) (item_stays row known wanted p i placed) (items_stay row known wanted p items placed)

pattern_shown : (row : Row) (known : Found) (wanted : List Field) (p : ℕ) → ArePlaced wanted → Shows (pattern_items known) p → Shows (adjusted row known wanted) p
pattern_shown row known wanted p placed h = items_stay row known wanted p (pattern_items known) placed ∙ h

-- ---- a fraction after the seconds

-- seconds in the wanted width are seconds
seconds_if : (b : Bool) (row : Row) (known : Found) (wanted : List Field) (field : Field) → has wanted 8 ≡ b → ArePlaced wanted → field.letter ≡ 115
    → (if b then f (adjusted_letter row 8 field (at wanted 8)) (adjusted_count known 8 field (at wanted 8)) else field).letter ≡ 115
seconds_if true row known wanted field there placed is = (placed 8 there).second refl
seconds_if false row known wanted field there placed is = is

seconds_stay : (row : Row) (known : Found) (wanted : List Field) (field : Field) → ArePlaced wanted → field.letter ≡ 115 → (adjusted_at row known wanted field (place_of field.letter)).letter ≡ 115
seconds_stay row known wanted field placed is =
    ap (λ c. (adjusted_at row known wanted field (place_of c)).letter) is ∙ seconds_if (has wanted 8) row known wanted field refl placed is

-- what is after a field shows its places if it is after the seconds in another width, too
after_if : (b : Bool) (row : Row) (fraction old new : Field) (rest later : List Item) (p : ℕ) → (old.letter == 115) ≡ b → (old.letter ≡ 115 → new.letter ≡ 115) → (Shows rest p → Shows later p)
    → Shows ((if b then as_items (text_numbered row.decimal) ++ (item.Field fraction ∷ []) else []) ++ rest) p → Shows (fraction_after row fraction new ++ later) p
after_if true row fraction old new rest later p is stays more h =
    let part = as_items (text_numbered row.decimal) ++ (item.Field fraction ∷ []) in
    let same : part ≡ fraction_after row fraction new = sym (ap (λ c. if c == 115 then part else []) (stays (eqb-true old.letter 115 is))) in
    elim (shows_either part rest p h) [
      | inl first ↦ shows_first (fraction_after row fraction new) later p (subst (λ items. Shows items p) same first)
      | inr second ↦ shows_second (fraction_after row fraction new) later p (more second)
    ]
after_if false row fraction old new rest later p is stays more h = shows_second (fraction_after row fraction new) later p (more h)

fraction_shown : (row : Row) (known : Found) (wanted : List Field) (fraction : Field) (items : List Item) (p : ℕ) → ArePlaced wanted
    → Shows (with_fraction row fraction items) p → Shows (with_fraction row fraction (map (adjusted_item row known wanted) items)) p
fraction_shown row known wanted fraction [] p placed h = h
fraction_shown row known wanted fraction (item.Char c ∷ items) p placed h = fraction_shown row known wanted fraction items p placed h
fraction_shown row known wanted fraction (item.Field field ∷ items) p placed h =
    let new = adjusted_at row known wanted field (place_of field.letter) in
    let rest = with_fraction row fraction items in
    let later = with_fraction row fraction (map (adjusted_item row known wanted) items) in
    elim (or_cases (is_at p (item.Field field)) (shows_place (fraction_after row fraction field ++ rest) p) h) [
      | inl here ↦ or_left (is_at p (item.Field new)) (shows_place (fraction_after row fraction new ++ later) p) (item_stays row known wanted p (item.Field field) placed ∙ here)
      | inr there ↦ or_right (is_at p (item.Field new)) (shows_place (fraction_after row fraction new ++ later) p)
          (after_if (field.letter == 115) row fraction field new rest later p refl (seconds_stay row known wanted field placed) (fraction_shown row known wanted fraction items p placed) there)
    ]

-- ---- patterns that are put together

first_joined : (first second : List Item) (name : Text) (form : List Item) (p : ℕ) → has_char 48 form ≡ true → Shows first p → Shows (joined_items first second name form) p
first_joined first second name [] p there h = absurd (let no : false ≡ true = there in cc)
first_joined first second name (item.Field field ∷ form) p there h =
    or_right (is_at p (item.Field field)) (shows_place (joined_items first second name form) p) (first_joined first second name form p there h)
first_joined first second name (item.Char c ∷ form) p there h = elim (or_cases (c == 48) (has_char 48 form) there) [
  | inl here ↦ shows_first (filled first second name c) (joined_items first second name form) p (subst (λ d. Shows (filled first second name d) p) (sym (eqb-true c 48 here)) h)
  | inr after ↦ shows_second (filled first second name c) (joined_items first second name form) p (first_joined first second name form p after h)
]

second_joined : (first second : List Item) (name : Text) (form : List Item) (p : ℕ) → has_char 49 form ≡ true → Shows second p → Shows (joined_items first second name form) p
second_joined first second name [] p there h = absurd (let no : false ≡ true = there in cc)
second_joined first second name (item.Field field ∷ form) p there h =
    or_right (is_at p (item.Field field)) (shows_place (joined_items first second name form) p) (second_joined first second name form p there h)
second_joined first second name (item.Char c ∷ form) p there h = elim (or_cases (c == 49) (has_char 49 form) there) [
  | inl here ↦ shows_first (filled first second name c) (joined_items first second name form) p (subst (λ d. Shows (filled first second name d) p) (sym (eqb-true c 49 here)) h)
  | inr after ↦ shows_second (filled first second name c) (joined_items first second name form) p (second_joined first second name form p after h)
]

-- a pattern shows a place, or the one that is put to it does
abbrev EitherShows : List Item → List (List Item) → ℕ → Type 0
EitherShows items others p = Shows items p ⊎ (has_place others p ≡ true)

further_by : (none : Bool) (row : Row) (wanted : List Field) (items : List Item) (lacks : ℕ) (found : Option Found) (p : ℕ) → ArePlaced wanted → HasForms row
    → EitherShows items (if none then [] else found_pattern found) p → Shows (if none then items else appended_more row wanted items lacks found) p
further_by true row wanted items lacks found p placed forms (inl h) = h
further_by true row wanted items lacks found p placed forms (inr h) = absurd (let no : false ≡ true = h in cc)
further_by false row wanted items lacks None p placed forms (inl h) = h
further_by false row wanted items lacks None p placed forms (inr h) = absurd (let no : false ≡ true = h in cc)
further_by false row wanted items lacks (Some known) p placed forms (inl h) =
    let last = last_place lacks known.gap.lacks in
    first_joined items (adjusted row known wanted) (append_name row last) (items_of (append_form row last)) p (forms.append last (last_below lacks known.gap.lacks)).first h
further_by false row wanted items lacks (Some known) p placed forms (inr h) =
    let last = last_place lacks known.gap.lacks in
    elim (or_cases (shows_place (pattern_items known) p) false h) [
      | inl shown ↦ second_joined items (adjusted row known wanted) (append_name row last) (items_of (append_form row last)) p
          (forms.append last (last_below lacks known.gap.lacks)).second (pattern_shown row known wanted p placed shown)
      | inr none ↦ absurd (let it : false ≡ true = none in cc)
    ]

further_shown : (row : Row) (wanted : List Field) (items : List Item) (lacks p : ℕ) → ArePlaced wanted → HasForms row → EitherShows items (further_pattern row wanted lacks) p → Shows (appended_to row wanted items lacks) p
further_shown row wanted items lacks p placed forms h = further_by (lacks == 0) row wanted items lacks (nearest row (of_places wanted lacks)) p placed forms h

nearest_if : (fraction : Bool) (row : Row) (wanted : List Field) (known : Found) (p : ℕ) → ArePlaced wanted → HasForms row
    → has_place (if fraction
    then with_fraction row (at wanted 9) (pattern_items known) ∷ further_pattern row wanted (without_fraction known.gap.lacks)
    else pattern_items known ∷ further_pattern row wanted known.gap.lacks) p ≡ true
    → Shows (if fraction
    then appended_to row wanted (with_fraction row (at wanted 9) (adjusted row known wanted)) (without_fraction known.gap.lacks)
    else appended_to row wanted (adjusted row known wanted) known.gap.lacks) p
nearest_if true row wanted known p placed forms h =
    let items = with_fraction row (at wanted 9) (pattern_items known) in
    let lacks = without_fraction known.gap.lacks in
    further_shown row wanted (with_fraction row (at wanted 9) (adjusted row known wanted)) lacks p placed forms
    (elim (or_cases (shows_place items p) (has_place (further_pattern row wanted lacks) p) h) [
      | inl here ↦ inl (fraction_shown row known wanted (at wanted 9) (pattern_items known) p placed here)
      | inr there ↦ inr there
    ])
nearest_if false row wanted known p placed forms h =
    let lacks = known.gap.lacks in
    further_shown row wanted (adjusted row known wanted) lacks p placed forms
    (elim (or_cases (shows_place (pattern_items known) p) (has_place (further_pattern row wanted lacks) p) h) [
      | inl here ↦ inl (pattern_shown row known wanted p placed here)
      | inr there ↦ inr there
    ])

nearest_shown_by : (row : Row) (wanted : List Field) (found : Option Found) (p : ℕ) → ArePlaced wanted → HasForms row → has_place (nearest_by row wanted found) p ≡ true → Shows (appended_by row wanted found) p
nearest_shown_by row wanted None p placed forms h = h
nearest_shown_by row wanted (Some known) p placed forms h = nearest_if (lacks_fraction wanted known.gap.lacks) row wanted known p placed forms h

nearest_shown : (row : Row) (wanted : List Field) (p : ℕ) → ArePlaced wanted → HasForms row → has_place (nearest_patterns row wanted) p ≡ true → Shows (appended row wanted) p
nearest_shown row wanted p placed forms h = nearest_shown_by row wanted (nearest row wanted) p placed forms h

-- ---- a date and a time

glue_if : (long weekday short : Bool) → (if long then (if weekday then 0 else 1) else (if short then 2 else 3)) < 4
glue_if true true short = omega arith
glue_if true false short = omega arith
glue_if false weekday true = omega arith
glue_if false weekday false = omega arith

glue_below : (date : List Field) → glue_place date < 4
glue_below date = glue_if ((at date 2).count == 4) (has date 3) ((at date 2).count == 3)

both_if : (no_time no_date : Bool) (row : Row) (date time : List Field) (p : ℕ) → ArePlaced date → ArePlaced time → HasForms row
    → has_place (if no_time then nearest_patterns row date else (if no_date then nearest_patterns row time else nearest_patterns row time ++ nearest_patterns row date)) p ≡ true
    → Shows (if no_time then appended row date
    else (if no_date then appended row time
    else joined (text_numbered (slice_index_or row.glue (glue_place date) 0)) (appended row time) (appended row date) [])) p
both_if true no_date row date time p placed timed forms h = nearest_shown row date p placed forms h
both_if false true row date time p placed timed forms h = nearest_shown row time p timed forms h
both_if false false row date time p placed timed forms h =
    let form = forms.glue (glue_place date) (glue_below date) in
    let items = items_of (text_numbered (slice_index_or row.glue (glue_place date) 0)) in
    elim (has_either (nearest_patterns row time) (nearest_patterns row date) p h) [
      | inl first ↦ first_joined (appended row time) (appended row date) [] items p form.first (nearest_shown row time p timed forms first)
      | inr second ↦ second_joined (appended row time) (appended row date) [] items p form.second (nearest_shown row date p placed forms second)
    ]

best_shown : (row : Row) (wanted : List Field) (found : Option Found) (p : ℕ) → ArePlaced wanted → HasForms row → has_place (patterns_by row wanted found) p ≡ true → Shows (best_by row wanted found) p
best_shown row wanted None p placed forms h =
    let date = of_places wanted 0x1f in
    let time = of_places wanted 0x7e0 in
    both_if (not (has_any time)) (not (has_any date)) row date time p (places_placed wanted 0x1f placed) (places_placed wanted 0x7e0 placed) forms h
best_shown row wanted (Some known) p placed forms h = elim (or_cases (shows_place (pattern_items known) p) false h) [
  | inl shown ↦ pattern_shown row known wanted p placed shown
  | inr none ↦ absurd (let it : false ≡ true = none in cc)
]

-- ---- hours as they are counted

hour_letters : (field : Field) → is_hour field ≡ true → place_of field.letter ≡ Some 6
hour_letters field h =
    let c = field.letter in
    let meant : (d : ℕ) → place_of d ≡ Some 6 → (c == d) ≡ true → place_of c ≡ Some 6 = λ d is same. ap place_of (eqb-true c d same) ∙ is in
    elim (or_cases (c == 104) (c == 75 || (c == 72 || (c == 107 || false))) h) [
      | inl a ↦ meant 104 refl a
      | inr no_a ↦ elim (or_cases (c == 75) (c == 72 || (c == 107 || false)) no_a) [
        | inl b ↦ meant 75 refl b
        | inr no_b ↦ elim (or_cases (c == 72) (c == 107 || false) no_b) [
          | inl d ↦ meant 72 refl d
          | inr no_d ↦ elim (or_cases (c == 107) false no_d) [
            | inl e ↦ meant 107 refl e
            | inr none ↦ absurd (let it : false ≡ true = none in cc)
          ]
        ]
      ]
    ]

hour_if : (b after : Bool) (c p : ℕ) (field : Field) (rest day other : List Item) → is_hour field ≡ b → place_of c ≡ Some 6 → (Shows rest p → Shows day p) → (Shows rest p → Shows other p)
    → Shows (item.Field field ∷ rest) p
    → Shows (if b then (if after then item.Char 32 ∷ [] else []) ++ (item.Field (f c field.count) ∷ day) else item.Field field ∷ other) p
hour_if true after c p field rest day other is hour on_day on_other h =
    shows_second (if after then item.Char 32 ∷ [] else []) (item.Field (f c field.count) ∷ day) p
    (elim (or_cases (is_at p (item.Field field)) (shows_place rest p) h) [
      | inl here ↦ or_left (is_at p (item.Field (f c field.count))) (shows_place day p) (ap (is_place p) (hour ∙ sym (hour_letters field is)) ∙ here)
      | inr there ↦ or_right (is_at p (item.Field (f c field.count))) (shows_place day p) (on_day there)
    ])
hour_if false after c p field rest day other is hour on_day on_other h =
    elim (or_cases (is_at p (item.Field field)) (shows_place rest p) h) [
      | inl here ↦ or_left (is_at p (item.Field field)) (shows_place other p) here
      | inr there ↦ or_right (is_at p (item.Field field)) (shows_place other p) (on_other there)
    ]

hours_shown : (c : ℕ) (after : Bool) (items : List Item) (p : ℕ) → place_of c ≡ Some 6 → Shows items p → Shows (with_hours c after items) p
hours_shown c after [] p hour h = h
hours_shown c after (item.Char d ∷ items) p hour h = hours_shown c false items p hour h
hours_shown c after (item.Field field ∷ items) p hour h =
    hour_if (is_hour field) after c p field items (with_hours c false items) (with_hours c (field.letter == letter "d") items) refl hour
    (hours_shown c false items p hour) (hours_shown c (field.letter == letter "d") items p hour) h

counted_shown : (b : Bool) (row : Row) (o : options.FluentDateTimeOptions) (items : List Item) (p : ℕ) → Shows items p → Shows (if b then with_hours (hour_letter (cycle_of row o)) false items else items) p
counted_shown true row o items p h = hours_shown (hour_letter (cycle_of row o)) false items p (hour_place (cycle_of row o)) h
counted_shown false row o items p h = h

pub shows_its_patterns : (number : ℕ) (row : Row) (o : options.FluentDateTimeOptions) (place : ℕ) → slice_get rows number ≡ Some row
    → has_place (patterns_for row (wanted_fields row o)) place ≡ true → shows_place (component_pattern row o) place ≡ true
shows_its_patterns number row o place is h =
    let wanted = wanted_fields row o in
    counted_shown (is_some o.hour) row o (best_pattern row wanted) place (best_shown row wanted (fitting row wanted) place (wanted_placed row o) (has_forms_of number row is) h)
