-- What a tag leaves out: the script and the region that its language likely has (UTS 35, likely subtags), older codes of languages, and
-- the two groups that the regions of some languages fall into (UTS 35, language matching).
use Rattle.std.specs.Prelude.{Bool, false, ◌&&◌, ◌||◌, List, [], ◌∷◌, Option, Some, None, if◌then◌else◌}
use Rattle.fluent_languages.specs.Tags.{Tag, Text, or_else, same_text, small}
use Rattle.fluent_languages.specs.declared.likely.Likely.{Likely}
use Rattle.fluent_languages.specs.declared.likely.Alias.{Alias}
use Rattle.fluent_languages.specs.declared.likely.Grouped.{Grouped}

-- a language with its script and its region
pub record LikelyRow : Type 0 where
  pub language : Text
  pub script : Text
  pub region : Text

-- an older or narrower code of a language, and the language, with its script if there is one
pub record AliasRow : Type 0 where
  pub older : Text
  pub language : Text
  pub script : Text

-- a region of a language
pub record GroupedRow : Type 0 where
  pub language : Text
  pub region : Text

-- the script of the first row of a language; none if there is no row
abbrev pub script_in : List LikelyRow → Text → Text
script_in [] language = []
script_in (row ∷ rows) language = if same_text (small row.language) language then small row.script else script_in rows language

-- the region
abbrev pub region_in : List LikelyRow → Text → Text
region_in [] language = []
region_in (row ∷ rows) language = if same_text (small row.language) language then small row.region else region_in rows language

-- the script of the first row of a language and a region
abbrev pub script_at : List LikelyRow → Text → Text → Text
script_at [] language region = []
script_at (row ∷ rows) language region =
    if same_text (small row.language) language && same_text (small row.region) region then small row.script else script_at rows language region

-- the region of the first row of a language and a script
abbrev pub region_at : List LikelyRow → Text → Text → Text
region_at [] language script = []
region_at (row ∷ rows) language script =
    if same_text (small row.language) language && same_text (small row.script) script then small row.region else region_at rows language script

abbrev pub alias_of : List AliasRow → Text → Option AliasRow
alias_of [] language = None
alias_of (row ∷ rows) language = if same_text (small row.older) language then Some row else alias_of rows language

abbrev pub renamed : Option AliasRow → Tag → Tag
renamed None tag = tag
renamed (Some row) tag = record {
  language = small row.language;
  script = or_else tag.script (small row.script);
  region = tag.region;
  variants = tag.variants;
}

abbrev pub is_row : GroupedRow → Text → Text → Bool
is_row row language region = same_text (small row.language) language && same_text (small row.region) region

-- a language and a region are together in a list of such pairs
abbrev pub is_listed : List GroupedRow → Text → Text → Bool
is_listed [] language region = false
is_listed (row ∷ rows) language region = is_row row language region || is_listed rows language region

-- a language has regions in a list of such pairs
abbrev pub has_groups : List GroupedRow → Text → Bool
has_groups [] language = false
has_groups (row ∷ rows) language = same_text (small row.language) language || has_groups rows language

-- what the code's rows say
abbrev pub likely_of : Likely → LikelyRow
likely_of row = record {
  language = row.language.now;
  script = row.script.now;
  region = row.region.now;
}

abbrev pub aliased_of : Alias → AliasRow
aliased_of row = record { older = row.older.now; language = row.language.now; script = row.script.now }

abbrev pub grouped_of : Grouped → GroupedRow
grouped_of row = record { language = row.language.now; region = row.region.now }
