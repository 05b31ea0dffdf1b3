-- Patterns that are written as they are read.
use Rattle.std.proofs.Common.{◌≡◌, ◌≢◌, ◌∙◌, ℕ, List, [], ◌∷◌, ◌++◌, Option, Some, None, refl, sym, ap, ap₂, append-nil, append_assoc, if◌then◌else◌, ◌==◌, ◌||◌, codes, encode_utf8, is_some}
use Rattle.std.proofs.lemmas.Bool.{cond-false, ne_eqb}
use Rattle.fluent_date.specs.Options.{Options}
use Rattle.fluent_date.specs.declared.date_time.FluentDateTime.{FluentDateTime}
use Rattle.fluent_date.specs.declared.options.DateStyle.{DateStyle}
use Rattle.fluent_date.specs.declared.time.TimeOfDay.{TimeOfDay}
use Rattle.fluent_date_tables.specs.Tables.{Row, Text}
use Rattle.fluent_dates.specs.Fields.{Field, is_any, letter}
use Rattle.fluent_dates.specs.Items.{Reading, at_start, emitted, flushed, items_of, next_reading, read}
use Rattle.fluent_dates.specs.Patterns.{component_pattern, cycle_of, pattern_for, pattern_of, styled, styled_by}
use Rattle.fluent_dates.specs.Writing.{clock_text, date_name, date_number, date_text, field_text, half_text, if_time, if_zone, item_text, part_text, written}
use Rattle.fluent_dates.specs.declared.items.Item.{Item}
use Rattle.fluent_dates.specs.declared.items.Item.TheVariants as item

part_alone : (row : Row) (t : TimeOfDay) (items : List Item) (field : Field) → field.letter ≢ 66
    → (if field.letter == letter "B" then part_text row t field.count [] else clock_text row t field)
    ≡ (if field.letter == letter "B" then part_text row t field.count items else clock_text row t field)
part_alone row t items field other =
    cond-false _ _ _ (ne_eqb field.letter 66 other) ∙ sym (cond-false _ _ _ (ne_eqb field.letter 66 other))

time_alone : (row : Row) (time : Option TimeOfDay) (items : List Item) (field : Field) → field.letter ≢ 66
    → if_time row time [] field ≡ if_time row time items field
time_alone row None items field other = refl
time_alone row (Some t) items field other =
    ap (λ text. if field.letter == letter "a" then half_text row t.hour field.count else text) (part_alone row t items field other)

-- only the part of the day depends on the other fields of a pattern
pub field_alone : (row : Row) (value : FluentDateTime) (items : List Item) (field : Field) → field.letter ≢ 66
    → field_text row value [] field ≡ field_text row value items field
field_alone row value items field other =
    ap (λ text.
    if is_any field.letter (codes "GrEc") then date_name row value.date field
    else (if is_any field.letter (codes "yMLd") then date_number row value.date field
    else (if is_any field.letter (codes "zOvZ") then if_zone row value.offset field
    else text)))
    (time_alone row value.time items field other)

-- a field that is one is written as it is
pub field_flushed : (row : Row) (value : FluentDateTime) (items : List Item) (field : Field) → field.count ≢ 0
    → field_text row value items field ≡ written row value items (flushed field)
field_flushed row value items field other =
    sym (ap (written row value items) (cond-false _ _ _ (ne_eqb field.count 0 other)) ∙ append-nil (field_text row value items field))

-- items are written one after the other
pub written_both : (row : Row) (value : FluentDateTime) (items these those : List Item)
    → written row value items (these ++ those) ≡ written row value items these ++ written row value items those
written_both row value items [] those = refl
written_both row value items (i ∷ these) those =
    ap (λ text. item_text row value items i ++ text) (written_both row value items these those)
    ∙ sym (append_assoc (item_text row value items i) (written row value items these) (written row value items those))

-- what two calls wrote
pub written_two : (row : Row) (value : FluentDateTime) (items these those : List Item) (old new last : Text)
    → new ≡ old ++ written row value items these → last ≡ new ++ written row value items those
    → last ≡ old ++ written row value items (these ++ those)
written_two row value items these those old new last first second =
    second
    ∙ ap (λ text. text ++ written row value items those) first
    ∙ append_assoc old (written row value items these) (written row value items those)
    ∙ ap (λ text. old ++ text) (sym (written_both row value items these those))

-- what was written, and a character
pub written_sign : (row : Row) (value : FluentDateTime) (items these : List Item) (old new last : Text) (c : ℕ)
    → new ≡ old ++ written row value items these → last ≡ new ++ encode_utf8 c
    → last ≡ old ++ written row value items (these ++ (item.Char c ∷ []))
written_sign row value items these old new last c first second =
    written_two row value items these (item.Char c ∷ []) old new last first
    (second ∙ ap (λ text. new ++ text) (sym (append-nil (encode_utf8 c))))

-- a character more is read
pub streamed_next : (row : Row) (value : FluentDateTime) (items : List Item) (start old new : Text) (before next : Reading) (done : List ℕ) (c : ℕ)
    → next ≡ next_reading before c → new ≡ old ++ written row value items (emitted before c)
    → ((rest : List ℕ) → old ++ written row value items (read before rest) ≡ start ++ written row value items (read at_start (done ++ rest)))
    → (rest : List ℕ) → new ++ written row value items (read next rest) ≡ start ++ written row value items (read at_start ((done ++ (c ∷ [])) ++ rest))
streamed_next row value items start old new before next done c is added until rest =
    ap₂ (λ text reading. text ++ written row value items (read reading rest)) added is
    ∙ append_assoc old (written row value items (emitted before c)) (written row value items (read (next_reading before c) rest))
    ∙ ap (λ text. old ++ text) (sym (written_both row value items (emitted before c) (read (next_reading before c) rest)))
    ∙ until (c ∷ rest)
    ∙ ap (λ cs. start ++ written row value items (read at_start cs)) (sym (append_assoc done (c ∷ []) rest))

-- a style of dates alone has one pattern
pub date_alone : (row : Row) (o : Options) (style : DateStyle) → o.date_style ≡ Some style → o.time_style ≡ None
    → items_of (styled row.dates style) ≡ pattern_for row o
date_alone row o style dated timeless =
    sym (ap₂ (λ date time. if is_some date || is_some time then styled_by row (cycle_of row o) date time else component_pattern row o) dated timeless)

-- a value's pattern, written, is its text
pub pattern_written : (row : Row) (value : FluentDateTime) (items : List Item) → items ≡ pattern_of row value
    → written row value items items ≡ date_text row value
pattern_written row value items same = ap (λ pattern. written row value pattern pattern) same
