-- The definitions at a few values, by computing.
use Rattle.std.proofs.Common.{◌≡◌, List, [], ◌∷◌, refl, codes, Some, None}
use Rattle.fluent_languages.specs.Tags.{Text, read_tag}
use Rattle.fluent_languages.specs.Negotiation.{positions}
use Rattle.fluent_languages.specs.Posix.{posix_tag}
use Rattle.fluent_languages.specs.Steps.{is_apart, is_grouped, likely_region, likely_script, main_of, maximized, modern, region_of, script_of, stands}
use Rattle.fluent_languages.specs.declared.negotiation.NegotiationStrategy.TheVariants.{Filtering, Matching, Lookup}

whole_tag : read_tag (codes "zh_Hant-tw") ≡ Some (record { language = codes "zh"; script = codes "hant"; region = codes "tw"; variants = [] })
whole_tag = refl

with_variant : read_tag (codes "ca-valencia") ≡ Some (record { language = codes "ca"; script = []; region = []; variants = codes "valencia" ∷ [] })
with_variant = refl

no_language : read_tag (codes "C") ≡ None
no_language = refl

extension : read_tag (codes "en-u-ca-gregory") ≡ None
extension = refl

of_environment : posix_tag (codes "sr_RS.UTF-8@latin") ≡ Some (record { language = codes "sr"; script = codes "latn"; region = codes "rs"; variants = [] })
of_environment = refl

no_locale : posix_tag (codes "POSIX") ≡ None
no_locale = refl

-- what is used of three languages
two_wanted : List Text
two_wanted = codes "de-AT" ∷ codes "fr" ∷ []

filtering : positions Filtering (codes "de-AT" ∷ codes "fr" ∷ []) (codes "en-US" ∷ codes "de" ∷ codes "fr" ∷ codes "de-DE" ∷ []) ≡ 1 ∷ 3 ∷ 2 ∷ []
unfolding maximized modern main_of is_apart is_grouped stands likely_script likely_region script_of region_of
filtering = refl

matching : positions Matching (codes "de-AT" ∷ codes "fr" ∷ []) (codes "en-US" ∷ codes "de" ∷ codes "fr" ∷ codes "de-DE" ∷ []) ≡ 1 ∷ 2 ∷ []
unfolding maximized modern main_of is_apart is_grouped stands likely_script likely_region script_of region_of
matching = refl

lookup : positions Lookup (codes "de-AT" ∷ codes "fr" ∷ []) (codes "en-US" ∷ codes "fr" ∷ []) ≡ 1 ∷ []
unfolding maximized modern main_of is_apart is_grouped stands likely_script likely_region script_of region_of
lookup = refl

other_script : positions Filtering (codes "zh-TW" ∷ []) (codes "zh" ∷ codes "zh-Hant" ∷ []) ≡ 1 ∷ []
unfolding maximized modern main_of is_apart is_grouped stands likely_script likely_region script_of region_of
other_script = refl

standing : positions Filtering (codes "es-MX" ∷ []) (codes "es" ∷ codes "es-419" ∷ []) ≡ 1 ∷ 0 ∷ []
unfolding maximized modern main_of is_apart is_grouped stands likely_script likely_region script_of region_of
standing = refl

older_code : positions Filtering (codes "iw" ∷ []) (codes "he-IL" ∷ []) ≡ 0 ∷ []
unfolding maximized modern main_of is_apart is_grouped stands likely_script likely_region script_of region_of
older_code = refl
