-- Rows of the tables.
use Prim.Native.String.{String}
use Rattle.std.specs.Prelude.{ℕ, zero, suc, Bool, ◌==◌, List, [], ◌∷◌, ◌++◌, Option, Some, None, if◌then◌else◌, codes, encode_utf8_all}
use Rattle.std.specs.Borrow.{Bor}
use Rattle.fluent_plurals.specs.Lookup.{begins_with_tag, ends_here, folded}
use Rattle.fluent_date.specs.declared.options.HourCycle.{HourCycle}
use Rattle.fluent_date_tables.specs.declared.tables.Pair as code_pair
use Rattle.fluent_date_tables.specs.declared.tables.Tagged as code_tagged
use Rattle.fluent_date_tables.specs.declared.tables.Family as code_family
use Rattle.fluent_date_tables.specs.declared.tables.Row as code_row
use Rattle.fluent_date_tables.specs.declared.tables.Skeleton as code_skeleton

-- a text by its bytes
abbrev pub Text : Type 0
Text = List ℕ

abbrev pub utf8 : String → Text
utf8 text = encode_utf8_all (codes text)

-- what references point to
abbrev pub nows : {A : Type 0} → List (Bor A) → List A
nows [] = []
nows (x ∷ xs) = x.now ∷ nows xs

-- the list or text of this number, the empty one if there is none
abbrev pub list_at : {A : Type 0} → List (List A) → ℕ → List A
list_at [] number = []
list_at (list ∷ lists) zero = list
list_at (list ∷ lists) (suc number) = list_at lists number

abbrev pub found : {A : Type 0} → Option (Bor A) → Option A
found None = None
found (Some x) = Some x.now

-- the numbers of a skeleton, and of the pattern for it
abbrev pub Pair : Type 0
Pair = code_pair.Pair

infix 5 ◌∶◌
abbrev pub ◌∶◌ : ℕ → ℕ → Pair
skeleton ∶ pattern = record { skeleton = skeleton; pattern = pattern }

-- fields that patterns are for
abbrev pub Skeleton : Type 0
Skeleton = code_skeleton.Skeleton

abbrev pub skeleton_row : Bool → List ℕ → List ℕ → Skeleton
skeleton_row given counts measures = record { given = given; counts = counts; measures = measures }

-- what a locale writes dates by
abbrev pub Row : Type 0
Row = code_row.Row

abbrev pub row : List ℕ → HourCycle → HourCycle → ℕ → ℕ → ℕ → ℕ → ℕ → ℕ → ℕ → List ℕ → List ℕ → List ℕ → List ℕ → List ℕ → List ℕ → List ℕ → List ℕ → List ℕ → List ℕ → List ℕ → Row
row digits cycle twelve decimal fields date_patterns time_patterns hours gmt utc times dates glue append month own_month day own_day eras halves parts = record {
  digits = digits;
  cycle = cycle;
  twelve = twelve;
  decimal = decimal;
  fields = fields;
  date_patterns = date_patterns;
  time_patterns = time_patterns;
  hours = hours;
  gmt = gmt;
  utc = utc;
  times = times;
  dates = dates;
  glue = glue;
  append = append;
  month = month;
  own_month = own_month;
  day = day;
  own_day = own_day;
  eras = eras;
  halves = halves;
  parts = parts;
}

-- a tag, and the number of its row
abbrev pub Tagged : Type 0
Tagged = Text × ℕ

infix 5 ◌⇒◌
abbrev pub ◌⇒◌ : String → ℕ → Tagged
tag ⇒ number = (utf8 tag, number)

-- The number for the first tag that a text begins with, part by part. It is the longest one if longer tags stand before the ones that
-- they begin with.
abbrev pub first_of : List Tagged → Text → Option ℕ
first_of [] text = None
first_of (tagged ∷ tags) text = if begins_with_tag tagged.0 text then Some tagged.1 else first_of tags text

-- the first byte of a text as tags have it, or 0
abbrev pub first_folded : Text → ℕ
first_folded [] = 0
first_folded (byte ∷ rest) = folded byte

-- the first of two that is there
abbrev pub or_else : Option ℕ → Option ℕ → Option ℕ
or_else None other = other
or_else (Some number) other = Some number

-- the first that fits, of several lists of tags
abbrev pub first_in : List (List Tagged) → Text → Option ℕ
first_in [] text = None
first_in (tags ∷ more) text = or_else (first_of tags text) (first_in more text)

-- ---- the tables of the code

abbrev pub tags_of : List code_tagged.Tagged → List Tagged
tags_of [] = []
tags_of (tagged ∷ rest) = (tagged.tag.now, tagged.row) ∷ tags_of rest

-- the tags of a language: for each of these the language, a `-` and it
abbrev pub longer : Text → List Tagged → List Tagged
longer language [] = []
longer language (more ∷ rest) = (language ++ (45 ∷ more.0), more.1) ∷ longer language rest

-- the tags of a language, the language alone at the end
abbrev pub tags_with : code_family.Family → List Tagged
tags_with family = longer family.language.now (tags_of family.more.now) ++ ((family.language.now, family.row) ∷ [])

-- the row of the longest tag of a language that a text begins with
unfoldable pub row_in : code_family.Family → Text → Option ℕ
row_in family text = first_of (tags_with family) text

-- that of the first of several languages that has one
abbrev pub first_row : List code_family.Family → Text → Option ℕ
first_row [] text = None
first_row (family ∷ rest) text = or_else (row_in family text) (first_row rest text)

abbrev pub all_tags : List code_family.Family → List Tagged
all_tags [] = []
all_tags (family ∷ rest) = tags_with family ++ all_tags rest

-- what is after a tag in a text that begins with its bytes
abbrev pub after_tag : Text → Text → Option Text
after_tag [] text = Some text
after_tag (byte ∷ tag) [] = None
after_tag (byte ∷ tag) (other ∷ rest) = if byte == folded other then after_tag tag rest else None

-- the first of the tags that a text goes on with after a `-`
abbrev pub first_after : List Tagged → Text → Option ℕ
first_after tags [] = None
first_after tags (sign ∷ text) = if 45 == folded sign then first_of tags text else None

-- the number for a language that ends before this text, or for a longer tag of it
abbrev pub row_after : ℕ → List Tagged → Text → Option ℕ
row_after row more rest = or_else (first_after more rest) (if ends_here rest then Some row else None)

-- the first that fits, of the lists of tags with this letter
abbrev pub at_letter : List (ℕ × List Tagged) → ℕ → Text → Option ℕ
at_letter [] letter text = None
at_letter (of ∷ more) letter text = if letter == of.0 then first_of of.1 text else at_letter more letter text
