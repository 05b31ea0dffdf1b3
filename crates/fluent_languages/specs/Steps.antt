-- How a language of the program can suit a request, from the best way to the worst. What goes through a table isn't unfolded where
-- nobody asks for it: its rows would stand in each goal.
use Rattle.std.specs.Prelude.{Bool, true, false, not, ◌&&◌, ◌||◌, List, [], ◌∷◌}
use Rattle.fluent_languages.specs.Tags.{Tag, Text, is_empty, same_tag, same_text, same_texts, or_else}
use Rattle.fluent_languages.specs.Likely.{alias_of, has_groups, is_listed, region_at, region_in, renamed, script_at, script_in}
use Rattle.fluent_languages.specs.declared.steps.Step.{Step}
use Rattle.fluent_languages.specs.declared.steps.Step.TheVariants.{Same, Covers, CoversLikely, OtherVariant, StandsFor, SameGroup, MainRegion, OtherRegion, OtherScript}
use Rattle.fluent_languages.specs.Tables.{a_to_e, aliases, by_region, by_script, digraphic, f_to_k, groups, l_to_r, s_to_z, standing}

-- the script of a language, and its region
unfoldable pub script_of : Text → Text
script_of language = or_else (script_in a_to_e language) (or_else (script_in f_to_k language) (or_else (script_in l_to_r language) (script_in s_to_z language)))

unfoldable pub region_of : Text → Text
region_of language = or_else (region_in a_to_e language) (or_else (region_in f_to_k language) (or_else (region_in l_to_r language) (region_in s_to_z language)))

-- The script that a tag likely has, if it names none: that of the language in its region, or else of the language.
unfoldable pub likely_script : Tag → Text
likely_script tag = or_else (script_at by_region tag.language tag.region) (script_of tag.language)

-- the region: that of the language in its script, or else of the language
unfoldable pub likely_region : Tag → Text
likely_region tag = or_else (region_at by_script tag.language tag.script) (region_of tag.language)

-- the tag with the script and the region that it likely has
unfoldable pub maximized : Tag → Tag
maximized tag = record {
  language = tag.language;
  script = or_else tag.script (likely_script tag);
  region = or_else tag.region (likely_region tag);
  variants = tag.variants;
}

-- the tag by the newer code of its language
unfoldable pub modern : Tag → Tag
modern tag = renamed (alias_of aliases tag.language) tag

-- A locale as it is written, by the newer code of its language, and with the script and the region that it likely has.
pub record Place : Type 0 where
  pub written : Tag
  pub tag : Tag
  pub full : Tag

abbrev pub place_of_tag : Tag → Place
place_of_tag tag = record { written = tag; tag = modern tag; full = maximized (modern tag) }

-- A part fits another if it is left out or the same: of the first alone, and then of either.
abbrev pub fits : Text → Text → Bool
fits range part = is_empty range || same_text range part

abbrev pub either_fits : Text → Text → Bool
either_fits a b = is_empty a || fits b a

-- all of a range's parts are parts of a tag
abbrev pub covers : Tag → Tag → Bool
covers range tag = same_text range.language tag.language && fits range.script tag.script && fits range.region tag.region
    && (is_empty range.variants || same_texts range.variants tag.variants)

-- the regions of the language fall into two groups, of which this is in the one that is listed
unfoldable pub is_apart : Tag → Bool
is_apart tag = is_listed groups tag.language tag.region

-- the regions of a language fall into two groups
unfoldable pub is_grouped : Text → Bool
is_grouped language = has_groups groups language

-- a region stands for the group of its language that isn't listed
unfoldable pub stands : Text → Text → Bool
stands language region = is_listed standing language region

abbrev pub same : Bool → Bool → Bool
same true b = b
same false b = not b

-- both are likely written in one script
abbrev pub one_script : Place → Place → Bool
one_script request offer = either_fits offer.full.script request.full.script

-- and, if the regions of their language fall into two groups, their regions are in one group
abbrev pub is_near : Place → Place → Bool
is_near request offer = one_script request offer && same (is_apart request.full) (is_apart offer.full)

-- the request with the main region of its language and script
unfoldable pub main_of : Tag → Tag
main_of tag = maximized (record { language = tag.language; script = tag.script; region = []; variants = [] })

-- whether an offer suits a request in a way
abbrev pub suits : Step → Place → Place → Bool
-- `de-AT` for `de-AT`
suits Same request offer = same_tag offer.written request.written
-- `de` for `de-AT`: the offer's parts are parts of the request
suits Covers request offer = covers offer.tag request.tag && is_near request offer
-- `en-US` for `en`: they are parts of what the request likely is
suits CoversLikely request offer = covers offer.tag request.full && is_near request offer
-- `ja-JP` for `ja-JP-mac`: they are but for variants
suits OtherVariant request offer = same_text offer.tag.language request.full.language
    && either_fits offer.tag.script request.full.script && either_fits offer.tag.region request.full.region && is_near request offer
-- `es-419` for `es-MX`, `en-GB` for `en-AU`: the region stands for the group of the request's region
suits StandsFor request offer = same_text offer.tag.language request.full.language
    && stands offer.tag.language offer.tag.region && is_near request offer
-- `es-AR` for `es-MX`: the regions are in one group
suits SameGroup request offer = same_text offer.tag.language request.full.language
    && is_grouped offer.tag.language && is_near request offer
-- `fr-FR` for `fr-CA`: the main region
suits MainRegion request offer = covers offer.tag (main_of request.full) && one_script request offer
-- `fr-BE` for `fr-CA`
suits OtherRegion request offer = same_text offer.tag.language request.full.language && one_script request offer
-- `sr-Cyrl` for `sr-Latn`: a language whose readers read both scripts
suits OtherScript request offer = same_text offer.tag.language request.full.language && same_text offer.tag.language digraphic

-- all of them
abbrev pub steps : List Step
steps = Same ∷ Covers ∷ CoversLikely ∷ OtherVariant ∷ StandsFor ∷ SameGroup ∷ MainRegion ∷ OtherRegion ∷ OtherScript ∷ []
