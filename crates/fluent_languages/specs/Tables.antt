-- What is likely of languages, older codes of languages, and the groups of their regions.
-- Written by tools/languages from Unicode CLDR 48. Do not edit.
use Rattle.std.specs.Prelude.{List, [], ◌∷◌, codes}
use Rattle.fluent_languages.specs.Tags.{Text}
use Rattle.fluent_languages.specs.Likely.{AliasRow, GroupedRow, LikelyRow}

abbrev l : Text → Text → Text → LikelyRow
l language script region = record { language = language; script = script; region = region }

abbrev a : Text → Text → Text → AliasRow
a older language script = record { older = older; language = language; script = script }

abbrev g : Text → Text → GroupedRow
g language region = record { language = language; region = region }

-- languages from a to e, with the script and the region that each likely has
abbrev pub a_to_e : List LikelyRow
a_to_e =
    l (codes "aa") (codes "Latn") (codes "ET") ∷
    l (codes "ab") (codes "Cyrl") (codes "GE") ∷
    l (codes "ae") (codes "Avst") (codes "IR") ∷
    l (codes "af") (codes "Latn") (codes "ZA") ∷
    l (codes "agq") (codes "Latn") (codes "CM") ∷
    l (codes "ak") (codes "Latn") (codes "GH") ∷
    l (codes "am") (codes "Ethi") (codes "ET") ∷
    l (codes "an") (codes "Latn") (codes "ES") ∷
    l (codes "ar") (codes "Arab") (codes "EG") ∷
    l (codes "ars") (codes "Arab") (codes "SA") ∷
    l (codes "as") (codes "Beng") (codes "IN") ∷
    l (codes "asa") (codes "Latn") (codes "TZ") ∷
    l (codes "ast") (codes "Latn") (codes "ES") ∷
    l (codes "av") (codes "Cyrl") (codes "RU") ∷
    l (codes "ay") (codes "Latn") (codes "BO") ∷
    l (codes "az") (codes "Latn") (codes "AZ") ∷
    l (codes "ba") (codes "Cyrl") (codes "RU") ∷
    l (codes "bal") (codes "Arab") (codes "PK") ∷
    l (codes "bas") (codes "Latn") (codes "CM") ∷
    l (codes "be") (codes "Cyrl") (codes "BY") ∷
    l (codes "bem") (codes "Latn") (codes "ZM") ∷
    l (codes "bez") (codes "Latn") (codes "TZ") ∷
    l (codes "bg") (codes "Cyrl") (codes "BG") ∷
    l (codes "bgc") (codes "Deva") (codes "IN") ∷
    l (codes "bho") (codes "Deva") (codes "IN") ∷
    l (codes "bi") (codes "Latn") (codes "VU") ∷
    l (codes "blo") (codes "Latn") (codes "BJ") ∷
    l (codes "bm") (codes "Latn") (codes "ML") ∷
    l (codes "bn") (codes "Beng") (codes "BD") ∷
    l (codes "bo") (codes "Tibt") (codes "CN") ∷
    l (codes "br") (codes "Latn") (codes "FR") ∷
    l (codes "brx") (codes "Deva") (codes "IN") ∷
    l (codes "bs") (codes "Latn") (codes "BA") ∷
    l (codes "bua") (codes "Cyrl") (codes "RU") ∷
    l (codes "ca") (codes "Latn") (codes "ES") ∷
    l (codes "ccp") (codes "Cakm") (codes "BD") ∷
    l (codes "ce") (codes "Cyrl") (codes "RU") ∷
    l (codes "ceb") (codes "Latn") (codes "PH") ∷
    l (codes "cgg") (codes "Latn") (codes "UG") ∷
    l (codes "ch") (codes "Latn") (codes "GU") ∷
    l (codes "chr") (codes "Cher") (codes "US") ∷
    l (codes "ckb") (codes "Arab") (codes "IQ") ∷
    l (codes "co") (codes "Latn") (codes "FR") ∷
    l (codes "cr") (codes "Cans") (codes "CA") ∷
    l (codes "cs") (codes "Latn") (codes "CZ") ∷
    l (codes "csw") (codes "Cans") (codes "CA") ∷
    l (codes "cu") (codes "Cyrl") (codes "RU") ∷
    l (codes "cv") (codes "Cyrl") (codes "RU") ∷
    l (codes "cy") (codes "Latn") (codes "GB") ∷
    l (codes "da") (codes "Latn") (codes "DK") ∷
    l (codes "dav") (codes "Latn") (codes "KE") ∷
    l (codes "de") (codes "Latn") (codes "DE") ∷
    l (codes "dje") (codes "Latn") (codes "NE") ∷
    l (codes "doi") (codes "Deva") (codes "IN") ∷
    l (codes "dsb") (codes "Latn") (codes "DE") ∷
    l (codes "dua") (codes "Latn") (codes "CM") ∷
    l (codes "dv") (codes "Thaa") (codes "MV") ∷
    l (codes "dyo") (codes "Latn") (codes "SN") ∷
    l (codes "dz") (codes "Tibt") (codes "BT") ∷
    l (codes "ebu") (codes "Latn") (codes "KE") ∷
    l (codes "ee") (codes "Latn") (codes "GH") ∷
    l (codes "el") (codes "Grek") (codes "GR") ∷
    l (codes "en") (codes "Latn") (codes "US") ∷
    l (codes "eo") (codes "Latn") (codes "001") ∷
    l (codes "es") (codes "Latn") (codes "ES") ∷
    l (codes "et") (codes "Latn") (codes "EE") ∷
    l (codes "eu") (codes "Latn") (codes "ES") ∷
    l (codes "ewo") (codes "Latn") (codes "CM") ∷
    []

-- languages from f to k, with the script and the region that each likely has
abbrev pub f_to_k : List LikelyRow
f_to_k =
    l (codes "fa") (codes "Arab") (codes "IR") ∷
    l (codes "ff") (codes "Latn") (codes "SN") ∷
    l (codes "fi") (codes "Latn") (codes "FI") ∷
    l (codes "fil") (codes "Latn") (codes "PH") ∷
    l (codes "fj") (codes "Latn") (codes "FJ") ∷
    l (codes "fo") (codes "Latn") (codes "FO") ∷
    l (codes "fr") (codes "Latn") (codes "FR") ∷
    l (codes "fur") (codes "Latn") (codes "IT") ∷
    l (codes "fy") (codes "Latn") (codes "NL") ∷
    l (codes "ga") (codes "Latn") (codes "IE") ∷
    l (codes "gaa") (codes "Latn") (codes "GH") ∷
    l (codes "gd") (codes "Latn") (codes "GB") ∷
    l (codes "gl") (codes "Latn") (codes "ES") ∷
    l (codes "gn") (codes "Latn") (codes "PY") ∷
    l (codes "gsw") (codes "Latn") (codes "CH") ∷
    l (codes "gu") (codes "Gujr") (codes "IN") ∷
    l (codes "guw") (codes "Latn") (codes "BJ") ∷
    l (codes "guz") (codes "Latn") (codes "KE") ∷
    l (codes "gv") (codes "Latn") (codes "IM") ∷
    l (codes "ha") (codes "Latn") (codes "NG") ∷
    l (codes "haw") (codes "Latn") (codes "US") ∷
    l (codes "he") (codes "Hebr") (codes "IL") ∷
    l (codes "hi") (codes "Deva") (codes "IN") ∷
    l (codes "hnj") (codes "Hmnp") (codes "US") ∷
    l (codes "ho") (codes "Latn") (codes "PG") ∷
    l (codes "hr") (codes "Latn") (codes "HR") ∷
    l (codes "hsb") (codes "Latn") (codes "DE") ∷
    l (codes "ht") (codes "Latn") (codes "HT") ∷
    l (codes "hu") (codes "Latn") (codes "HU") ∷
    l (codes "hy") (codes "Armn") (codes "AM") ∷
    l (codes "hz") (codes "Latn") (codes "NA") ∷
    l (codes "ia") (codes "Latn") (codes "001") ∷
    l (codes "id") (codes "Latn") (codes "ID") ∷
    l (codes "ie") (codes "Latn") (codes "EE") ∷
    l (codes "ig") (codes "Latn") (codes "NG") ∷
    l (codes "ii") (codes "Yiii") (codes "CN") ∷
    l (codes "ik") (codes "Latn") (codes "US") ∷
    l (codes "io") (codes "Latn") (codes "001") ∷
    l (codes "is") (codes "Latn") (codes "IS") ∷
    l (codes "it") (codes "Latn") (codes "IT") ∷
    l (codes "iu") (codes "Cans") (codes "CA") ∷
    l (codes "ja") (codes "Jpan") (codes "JP") ∷
    l (codes "jbo") (codes "Latn") (codes "001") ∷
    l (codes "jgo") (codes "Latn") (codes "CM") ∷
    l (codes "jmc") (codes "Latn") (codes "TZ") ∷
    l (codes "jv") (codes "Latn") (codes "ID") ∷
    l (codes "ka") (codes "Geor") (codes "GE") ∷
    l (codes "kab") (codes "Latn") (codes "DZ") ∷
    l (codes "kaj") (codes "Latn") (codes "NG") ∷
    l (codes "kam") (codes "Latn") (codes "KE") ∷
    l (codes "kcg") (codes "Latn") (codes "NG") ∷
    l (codes "kde") (codes "Latn") (codes "TZ") ∷
    l (codes "kea") (codes "Latn") (codes "CV") ∷
    l (codes "kg") (codes "Latn") (codes "CD") ∷
    l (codes "kgp") (codes "Latn") (codes "BR") ∷
    l (codes "khq") (codes "Latn") (codes "ML") ∷
    l (codes "ki") (codes "Latn") (codes "KE") ∷
    l (codes "kj") (codes "Latn") (codes "NA") ∷
    l (codes "kk") (codes "Cyrl") (codes "KZ") ∷
    l (codes "kkj") (codes "Latn") (codes "CM") ∷
    l (codes "kl") (codes "Latn") (codes "GL") ∷
    l (codes "kln") (codes "Latn") (codes "KE") ∷
    l (codes "km") (codes "Khmr") (codes "KH") ∷
    l (codes "kn") (codes "Knda") (codes "IN") ∷
    l (codes "ko") (codes "Kore") (codes "KR") ∷
    l (codes "kok") (codes "Deva") (codes "IN") ∷
    l (codes "kr") (codes "Latn") (codes "NG") ∷
    l (codes "ks") (codes "Arab") (codes "IN") ∷
    l (codes "ksb") (codes "Latn") (codes "TZ") ∷
    l (codes "ksf") (codes "Latn") (codes "CM") ∷
    l (codes "ksh") (codes "Latn") (codes "DE") ∷
    l (codes "ku") (codes "Latn") (codes "TR") ∷
    l (codes "kv") (codes "Cyrl") (codes "RU") ∷
    l (codes "kw") (codes "Latn") (codes "GB") ∷
    l (codes "kxv") (codes "Latn") (codes "IN") ∷
    l (codes "ky") (codes "Cyrl") (codes "KG") ∷
    []

-- languages from l to r, with the script and the region that each likely has
abbrev pub l_to_r : List LikelyRow
l_to_r =
    l (codes "la") (codes "Latn") (codes "VA") ∷
    l (codes "lag") (codes "Latn") (codes "TZ") ∷
    l (codes "lb") (codes "Latn") (codes "LU") ∷
    l (codes "lg") (codes "Latn") (codes "UG") ∷
    l (codes "li") (codes "Latn") (codes "NL") ∷
    l (codes "lij") (codes "Latn") (codes "IT") ∷
    l (codes "lkt") (codes "Latn") (codes "US") ∷
    l (codes "lld") (codes "Latn") (codes "IT") ∷
    l (codes "lmo") (codes "Latn") (codes "IT") ∷
    l (codes "ln") (codes "Latn") (codes "CD") ∷
    l (codes "lo") (codes "Laoo") (codes "LA") ∷
    l (codes "lrc") (codes "Arab") (codes "IR") ∷
    l (codes "lt") (codes "Latn") (codes "LT") ∷
    l (codes "lu") (codes "Latn") (codes "CD") ∷
    l (codes "luo") (codes "Latn") (codes "KE") ∷
    l (codes "luy") (codes "Latn") (codes "KE") ∷
    l (codes "lv") (codes "Latn") (codes "LV") ∷
    l (codes "mai") (codes "Deva") (codes "IN") ∷
    l (codes "mas") (codes "Latn") (codes "KE") ∷
    l (codes "mer") (codes "Latn") (codes "KE") ∷
    l (codes "mfe") (codes "Latn") (codes "MU") ∷
    l (codes "mg") (codes "Latn") (codes "MG") ∷
    l (codes "mgh") (codes "Latn") (codes "MZ") ∷
    l (codes "mgo") (codes "Latn") (codes "CM") ∷
    l (codes "mh") (codes "Latn") (codes "MH") ∷
    l (codes "mi") (codes "Latn") (codes "NZ") ∷
    l (codes "mk") (codes "Cyrl") (codes "MK") ∷
    l (codes "ml") (codes "Mlym") (codes "IN") ∷
    l (codes "mn") (codes "Cyrl") (codes "MN") ∷
    l (codes "mni") (codes "Beng") (codes "IN") ∷
    l (codes "mr") (codes "Deva") (codes "IN") ∷
    l (codes "ms") (codes "Latn") (codes "MY") ∷
    l (codes "mt") (codes "Latn") (codes "MT") ∷
    l (codes "mua") (codes "Latn") (codes "CM") ∷
    l (codes "my") (codes "Mymr") (codes "MM") ∷
    l (codes "mzn") (codes "Arab") (codes "IR") ∷
    l (codes "na") (codes "Latn") (codes "NR") ∷
    l (codes "naq") (codes "Latn") (codes "NA") ∷
    l (codes "nb") (codes "Latn") (codes "NO") ∷
    l (codes "nd") (codes "Latn") (codes "ZW") ∷
    l (codes "nds") (codes "Latn") (codes "DE") ∷
    l (codes "ne") (codes "Deva") (codes "NP") ∷
    l (codes "ng") (codes "Latn") (codes "NA") ∷
    l (codes "nl") (codes "Latn") (codes "NL") ∷
    l (codes "nmg") (codes "Latn") (codes "CM") ∷
    l (codes "nn") (codes "Latn") (codes "NO") ∷
    l (codes "nnh") (codes "Latn") (codes "CM") ∷
    l (codes "no") (codes "Latn") (codes "NO") ∷
    l (codes "nqo") (codes "Nkoo") (codes "GN") ∷
    l (codes "nr") (codes "Latn") (codes "ZA") ∷
    l (codes "nso") (codes "Latn") (codes "ZA") ∷
    l (codes "nus") (codes "Latn") (codes "SS") ∷
    l (codes "nv") (codes "Latn") (codes "US") ∷
    l (codes "ny") (codes "Latn") (codes "MW") ∷
    l (codes "nyn") (codes "Latn") (codes "UG") ∷
    l (codes "oc") (codes "Latn") (codes "FR") ∷
    l (codes "oj") (codes "Cans") (codes "CA") ∷
    l (codes "om") (codes "Latn") (codes "ET") ∷
    l (codes "or") (codes "Orya") (codes "IN") ∷
    l (codes "os") (codes "Cyrl") (codes "GE") ∷
    l (codes "osa") (codes "Osge") (codes "US") ∷
    l (codes "pa") (codes "Guru") (codes "IN") ∷
    l (codes "pap") (codes "Latn") (codes "CW") ∷
    l (codes "pcm") (codes "Latn") (codes "NG") ∷
    l (codes "pi") (codes "Latn") (codes "GB") ∷
    l (codes "pl") (codes "Latn") (codes "PL") ∷
    l (codes "pms") (codes "Latn") (codes "IT") ∷
    l (codes "prg") (codes "Latn") (codes "PL") ∷
    l (codes "ps") (codes "Arab") (codes "AF") ∷
    l (codes "pt") (codes "Latn") (codes "BR") ∷
    l (codes "qu") (codes "Latn") (codes "PE") ∷
    l (codes "raj") (codes "Deva") (codes "IN") ∷
    l (codes "rm") (codes "Latn") (codes "CH") ∷
    l (codes "rn") (codes "Latn") (codes "BI") ∷
    l (codes "ro") (codes "Latn") (codes "RO") ∷
    l (codes "rof") (codes "Latn") (codes "TZ") ∷
    l (codes "ru") (codes "Cyrl") (codes "RU") ∷
    l (codes "rw") (codes "Latn") (codes "RW") ∷
    l (codes "rwk") (codes "Latn") (codes "TZ") ∷
    []

-- languages from s to z, with the script and the region that each likely has
abbrev pub s_to_z : List LikelyRow
s_to_z =
    l (codes "sa") (codes "Deva") (codes "IN") ∷
    l (codes "sah") (codes "Cyrl") (codes "RU") ∷
    l (codes "saq") (codes "Latn") (codes "KE") ∷
    l (codes "sat") (codes "Olck") (codes "IN") ∷
    l (codes "sbp") (codes "Latn") (codes "TZ") ∷
    l (codes "sc") (codes "Latn") (codes "IT") ∷
    l (codes "scn") (codes "Latn") (codes "IT") ∷
    l (codes "sd") (codes "Arab") (codes "PK") ∷
    l (codes "sdh") (codes "Arab") (codes "IR") ∷
    l (codes "se") (codes "Latn") (codes "NO") ∷
    l (codes "seh") (codes "Latn") (codes "MZ") ∷
    l (codes "ses") (codes "Latn") (codes "ML") ∷
    l (codes "sg") (codes "Latn") (codes "CF") ∷
    l (codes "sgs") (codes "Latn") (codes "LT") ∷
    l (codes "shi") (codes "Tfng") (codes "MA") ∷
    l (codes "shn") (codes "Mymr") (codes "MM") ∷
    l (codes "si") (codes "Sinh") (codes "LK") ∷
    l (codes "sk") (codes "Latn") (codes "SK") ∷
    l (codes "sl") (codes "Latn") (codes "SI") ∷
    l (codes "sm") (codes "Latn") (codes "WS") ∷
    l (codes "sma") (codes "Latn") (codes "SE") ∷
    l (codes "smj") (codes "Latn") (codes "SE") ∷
    l (codes "smn") (codes "Latn") (codes "FI") ∷
    l (codes "sms") (codes "Latn") (codes "FI") ∷
    l (codes "sn") (codes "Latn") (codes "ZW") ∷
    l (codes "so") (codes "Latn") (codes "SO") ∷
    l (codes "sq") (codes "Latn") (codes "AL") ∷
    l (codes "sr") (codes "Cyrl") (codes "RS") ∷
    l (codes "ss") (codes "Latn") (codes "ZA") ∷
    l (codes "ssy") (codes "Latn") (codes "ER") ∷
    l (codes "st") (codes "Latn") (codes "ZA") ∷
    l (codes "su") (codes "Latn") (codes "ID") ∷
    l (codes "sv") (codes "Latn") (codes "SE") ∷
    l (codes "sw") (codes "Latn") (codes "TZ") ∷
    l (codes "syr") (codes "Syrc") (codes "IQ") ∷
    l (codes "szl") (codes "Latn") (codes "PL") ∷
    l (codes "ta") (codes "Taml") (codes "IN") ∷
    l (codes "te") (codes "Telu") (codes "IN") ∷
    l (codes "teo") (codes "Latn") (codes "UG") ∷
    l (codes "tg") (codes "Cyrl") (codes "TJ") ∷
    l (codes "th") (codes "Thai") (codes "TH") ∷
    l (codes "ti") (codes "Ethi") (codes "ET") ∷
    l (codes "tig") (codes "Ethi") (codes "ER") ∷
    l (codes "tk") (codes "Latn") (codes "TM") ∷
    l (codes "tn") (codes "Latn") (codes "ZA") ∷
    l (codes "to") (codes "Latn") (codes "TO") ∷
    l (codes "tok") (codes "Latn") (codes "001") ∷
    l (codes "tpi") (codes "Latn") (codes "PG") ∷
    l (codes "tr") (codes "Latn") (codes "TR") ∷
    l (codes "ts") (codes "Latn") (codes "ZA") ∷
    l (codes "tt") (codes "Cyrl") (codes "RU") ∷
    l (codes "twq") (codes "Latn") (codes "NE") ∷
    l (codes "ty") (codes "Latn") (codes "PF") ∷
    l (codes "tyv") (codes "Cyrl") (codes "RU") ∷
    l (codes "tzm") (codes "Latn") (codes "MA") ∷
    l (codes "ug") (codes "Arab") (codes "CN") ∷
    l (codes "uk") (codes "Cyrl") (codes "UA") ∷
    l (codes "ur") (codes "Arab") (codes "PK") ∷
    l (codes "uz") (codes "Latn") (codes "UZ") ∷
    l (codes "vai") (codes "Vaii") (codes "LR") ∷
    l (codes "ve") (codes "Latn") (codes "ZA") ∷
    l (codes "vec") (codes "Latn") (codes "IT") ∷
    l (codes "vi") (codes "Latn") (codes "VN") ∷
    l (codes "vmw") (codes "Latn") (codes "MZ") ∷
    l (codes "vo") (codes "Latn") (codes "001") ∷
    l (codes "vun") (codes "Latn") (codes "TZ") ∷
    l (codes "wa") (codes "Latn") (codes "BE") ∷
    l (codes "wae") (codes "Latn") (codes "CH") ∷
    l (codes "wo") (codes "Latn") (codes "SN") ∷
    l (codes "xh") (codes "Latn") (codes "ZA") ∷
    l (codes "xnr") (codes "Deva") (codes "IN") ∷
    l (codes "xog") (codes "Latn") (codes "UG") ∷
    l (codes "yav") (codes "Latn") (codes "CM") ∷
    l (codes "yi") (codes "Hebr") (codes "UA") ∷
    l (codes "yo") (codes "Latn") (codes "NG") ∷
    l (codes "yrl") (codes "Latn") (codes "BR") ∷
    l (codes "yue") (codes "Hant") (codes "HK") ∷
    l (codes "za") (codes "Latn") (codes "CN") ∷
    l (codes "zgh") (codes "Tfng") (codes "MA") ∷
    l (codes "zh") (codes "Hans") (codes "CN") ∷
    l (codes "zu") (codes "Latn") (codes "ZA") ∷
    []

-- the script of a language in a region, if it is another than the language's
abbrev pub by_region : List LikelyRow
by_region =
    l (codes "az") (codes "Arab") (codes "IQ") ∷
    l (codes "az") (codes "Arab") (codes "IR") ∷
    l (codes "az") (codes "Cyrl") (codes "RU") ∷
    l (codes "ha") (codes "Arab") (codes "CM") ∷
    l (codes "ha") (codes "Arab") (codes "SD") ∷
    l (codes "kk") (codes "Arab") (codes "AF") ∷
    l (codes "kk") (codes "Arab") (codes "CN") ∷
    l (codes "kk") (codes "Arab") (codes "IR") ∷
    l (codes "kk") (codes "Arab") (codes "MN") ∷
    l (codes "ku") (codes "Cyrl") (codes "AM") ∷
    l (codes "ku") (codes "Cyrl") (codes "AZ") ∷
    l (codes "ku") (codes "Cyrl") (codes "GE") ∷
    l (codes "ku") (codes "Arab") (codes "IQ") ∷
    l (codes "ku") (codes "Arab") (codes "IR") ∷
    l (codes "ku") (codes "Arab") (codes "LB") ∷
    l (codes "ku") (codes "Cyrl") (codes "TM") ∷
    l (codes "ky") (codes "Arab") (codes "CN") ∷
    l (codes "ky") (codes "Latn") (codes "TR") ∷
    l (codes "mn") (codes "Mong") (codes "CN") ∷
    l (codes "ms") (codes "Arab") (codes "CC") ∷
    l (codes "pa") (codes "Arab") (codes "PK") ∷
    l (codes "pi") (codes "Deva") (codes "IN") ∷
    l (codes "pi") (codes "Sinh") (codes "LK") ∷
    l (codes "pi") (codes "Mymr") (codes "MM") ∷
    l (codes "pi") (codes "Thai") (codes "TH") ∷
    l (codes "sd") (codes "Deva") (codes "IN") ∷
    l (codes "sr") (codes "Latn") (codes "ME") ∷
    l (codes "sr") (codes "Latn") (codes "RO") ∷
    l (codes "sr") (codes "Latn") (codes "TR") ∷
    l (codes "tg") (codes "Arab") (codes "PK") ∷
    l (codes "ug") (codes "Cyrl") (codes "KZ") ∷
    l (codes "ug") (codes "Cyrl") (codes "MN") ∷
    l (codes "uz") (codes "Arab") (codes "AF") ∷
    l (codes "uz") (codes "Cyrl") (codes "CN") ∷
    l (codes "yue") (codes "Hans") (codes "CN") ∷
    l (codes "zh") (codes "Hant") (codes "AU") ∷
    l (codes "zh") (codes "Hant") (codes "BN") ∷
    l (codes "zh") (codes "Hant") (codes "GB") ∷
    l (codes "zh") (codes "Hant") (codes "GF") ∷
    l (codes "zh") (codes "Hant") (codes "HK") ∷
    l (codes "zh") (codes "Hant") (codes "ID") ∷
    l (codes "zh") (codes "Hant") (codes "MO") ∷
    l (codes "zh") (codes "Hant") (codes "PA") ∷
    l (codes "zh") (codes "Hant") (codes "PF") ∷
    l (codes "zh") (codes "Hant") (codes "PH") ∷
    l (codes "zh") (codes "Hant") (codes "SR") ∷
    l (codes "zh") (codes "Hant") (codes "TH") ∷
    l (codes "zh") (codes "Hant") (codes "TW") ∷
    l (codes "zh") (codes "Hant") (codes "US") ∷
    l (codes "zh") (codes "Hant") (codes "VN") ∷
    []

-- the region of a language in a script, if it is another than the language's
abbrev pub by_script : List LikelyRow
by_script =
    l (codes "az") (codes "Arab") (codes "IR") ∷
    l (codes "cu") (codes "Glag") (codes "BG") ∷
    l (codes "en") (codes "Shaw") (codes "GB") ∷
    l (codes "ff") (codes "Adlm") (codes "GN") ∷
    l (codes "hnj") (codes "Hmng") (codes "LA") ∷
    l (codes "kk") (codes "Arab") (codes "CN") ∷
    l (codes "ku") (codes "Arab") (codes "IQ") ∷
    l (codes "ku") (codes "Cyrl") (codes "AM") ∷
    l (codes "ku") (codes "Yezi") (codes "GE") ∷
    l (codes "ky") (codes "Arab") (codes "CN") ∷
    l (codes "ky") (codes "Latn") (codes "TR") ∷
    l (codes "mn") (codes "Mong") (codes "CN") ∷
    l (codes "pa") (codes "Arab") (codes "PK") ∷
    l (codes "pi") (codes "Deva") (codes "IN") ∷
    l (codes "pi") (codes "Mymr") (codes "MM") ∷
    l (codes "pi") (codes "Sinh") (codes "LK") ∷
    l (codes "pi") (codes "Thai") (codes "TH") ∷
    l (codes "sd") (codes "Deva") (codes "IN") ∷
    l (codes "sd") (codes "Khoj") (codes "IN") ∷
    l (codes "sd") (codes "Sind") (codes "IN") ∷
    l (codes "tg") (codes "Arab") (codes "PK") ∷
    l (codes "ug") (codes "Cyrl") (codes "KZ") ∷
    l (codes "uz") (codes "Arab") (codes "AF") ∷
    l (codes "yue") (codes "Hans") (codes "CN") ∷
    l (codes "zh") (codes "Bopo") (codes "TW") ∷
    l (codes "zh") (codes "Hanb") (codes "TW") ∷
    l (codes "zh") (codes "Hant") (codes "TW") ∷
    []

-- older and narrower codes of languages
abbrev pub aliases : List AliasRow
aliases =
    a (codes "bh") (codes "bho") [] ∷
    a (codes "in") (codes "id") [] ∷
    a (codes "iw") (codes "he") [] ∷
    a (codes "ji") (codes "yi") [] ∷
    a (codes "jw") (codes "jv") [] ∷
    a (codes "mo") (codes "ro") [] ∷
    a (codes "sh") (codes "sr") (codes "Latn") ∷
    a (codes "tl") (codes "fil") [] ∷
    a (codes "tw") (codes "ak") [] ∷
    a (codes "nb") (codes "no") [] ∷
    []

-- The regions of languages whose regions fall into two groups: those of one group.
abbrev pub groups : List GroupedRow
groups =
    g (codes "ar") (codes "DZ") ∷
    g (codes "ar") (codes "EH") ∷
    g (codes "ar") (codes "LY") ∷
    g (codes "ar") (codes "MA") ∷
    g (codes "ar") (codes "MR") ∷
    g (codes "ar") (codes "TN") ∷
    g (codes "en") (codes "AS") ∷
    g (codes "en") (codes "CA") ∷
    g (codes "en") (codes "GU") ∷
    g (codes "en") (codes "MH") ∷
    g (codes "en") (codes "MP") ∷
    g (codes "en") (codes "PH") ∷
    g (codes "en") (codes "PR") ∷
    g (codes "en") (codes "UM") ∷
    g (codes "en") (codes "US") ∷
    g (codes "en") (codes "VI") ∷
    g (codes "es") (codes "005") ∷
    g (codes "es") (codes "013") ∷
    g (codes "es") (codes "019") ∷
    g (codes "es") (codes "021") ∷
    g (codes "es") (codes "029") ∷
    g (codes "es") (codes "419") ∷
    g (codes "es") (codes "AG") ∷
    g (codes "es") (codes "AI") ∷
    g (codes "es") (codes "AR") ∷
    g (codes "es") (codes "AW") ∷
    g (codes "es") (codes "BB") ∷
    g (codes "es") (codes "BL") ∷
    g (codes "es") (codes "BM") ∷
    g (codes "es") (codes "BO") ∷
    g (codes "es") (codes "BQ") ∷
    g (codes "es") (codes "BR") ∷
    g (codes "es") (codes "BS") ∷
    g (codes "es") (codes "BV") ∷
    g (codes "es") (codes "BZ") ∷
    g (codes "es") (codes "CA") ∷
    g (codes "es") (codes "CL") ∷
    g (codes "es") (codes "CO") ∷
    g (codes "es") (codes "CR") ∷
    g (codes "es") (codes "CU") ∷
    g (codes "es") (codes "CW") ∷
    g (codes "es") (codes "DM") ∷
    g (codes "es") (codes "DO") ∷
    g (codes "es") (codes "EC") ∷
    g (codes "es") (codes "FK") ∷
    g (codes "es") (codes "GD") ∷
    g (codes "es") (codes "GF") ∷
    g (codes "es") (codes "GL") ∷
    g (codes "es") (codes "GP") ∷
    g (codes "es") (codes "GS") ∷
    g (codes "es") (codes "GT") ∷
    g (codes "es") (codes "GY") ∷
    g (codes "es") (codes "HN") ∷
    g (codes "es") (codes "HT") ∷
    g (codes "es") (codes "JM") ∷
    g (codes "es") (codes "KN") ∷
    g (codes "es") (codes "KY") ∷
    g (codes "es") (codes "LC") ∷
    g (codes "es") (codes "MF") ∷
    g (codes "es") (codes "MQ") ∷
    g (codes "es") (codes "MS") ∷
    g (codes "es") (codes "MX") ∷
    g (codes "es") (codes "NI") ∷
    g (codes "es") (codes "PA") ∷
    g (codes "es") (codes "PE") ∷
    g (codes "es") (codes "PM") ∷
    g (codes "es") (codes "PR") ∷
    g (codes "es") (codes "PY") ∷
    g (codes "es") (codes "SR") ∷
    g (codes "es") (codes "SV") ∷
    g (codes "es") (codes "SX") ∷
    g (codes "es") (codes "TC") ∷
    g (codes "es") (codes "TT") ∷
    g (codes "es") (codes "US") ∷
    g (codes "es") (codes "UY") ∷
    g (codes "es") (codes "VC") ∷
    g (codes "es") (codes "VE") ∷
    g (codes "es") (codes "VG") ∷
    g (codes "es") (codes "VI") ∷
    g (codes "pt") (codes "005") ∷
    g (codes "pt") (codes "013") ∷
    g (codes "pt") (codes "019") ∷
    g (codes "pt") (codes "021") ∷
    g (codes "pt") (codes "029") ∷
    g (codes "pt") (codes "419") ∷
    g (codes "pt") (codes "AG") ∷
    g (codes "pt") (codes "AI") ∷
    g (codes "pt") (codes "AR") ∷
    g (codes "pt") (codes "AW") ∷
    g (codes "pt") (codes "BB") ∷
    g (codes "pt") (codes "BL") ∷
    g (codes "pt") (codes "BM") ∷
    g (codes "pt") (codes "BO") ∷
    g (codes "pt") (codes "BQ") ∷
    g (codes "pt") (codes "BR") ∷
    g (codes "pt") (codes "BS") ∷
    g (codes "pt") (codes "BV") ∷
    g (codes "pt") (codes "BZ") ∷
    g (codes "pt") (codes "CA") ∷
    g (codes "pt") (codes "CL") ∷
    g (codes "pt") (codes "CO") ∷
    g (codes "pt") (codes "CR") ∷
    g (codes "pt") (codes "CU") ∷
    g (codes "pt") (codes "CW") ∷
    g (codes "pt") (codes "DM") ∷
    g (codes "pt") (codes "DO") ∷
    g (codes "pt") (codes "EC") ∷
    g (codes "pt") (codes "FK") ∷
    g (codes "pt") (codes "GD") ∷
    g (codes "pt") (codes "GF") ∷
    g (codes "pt") (codes "GL") ∷
    g (codes "pt") (codes "GP") ∷
    g (codes "pt") (codes "GS") ∷
    g (codes "pt") (codes "GT") ∷
    g (codes "pt") (codes "GY") ∷
    g (codes "pt") (codes "HN") ∷
    g (codes "pt") (codes "HT") ∷
    g (codes "pt") (codes "JM") ∷
    g (codes "pt") (codes "KN") ∷
    g (codes "pt") (codes "KY") ∷
    g (codes "pt") (codes "LC") ∷
    g (codes "pt") (codes "MF") ∷
    g (codes "pt") (codes "MQ") ∷
    g (codes "pt") (codes "MS") ∷
    g (codes "pt") (codes "MX") ∷
    g (codes "pt") (codes "NI") ∷
    g (codes "pt") (codes "PA") ∷
    g (codes "pt") (codes "PE") ∷
    g (codes "pt") (codes "PM") ∷
    g (codes "pt") (codes "PR") ∷
    g (codes "pt") (codes "PY") ∷
    g (codes "pt") (codes "SR") ∷
    g (codes "pt") (codes "SV") ∷
    g (codes "pt") (codes "SX") ∷
    g (codes "pt") (codes "TC") ∷
    g (codes "pt") (codes "TT") ∷
    g (codes "pt") (codes "US") ∷
    g (codes "pt") (codes "UY") ∷
    g (codes "pt") (codes "VC") ∷
    g (codes "pt") (codes "VE") ∷
    g (codes "pt") (codes "VG") ∷
    g (codes "pt") (codes "VI") ∷
    g (codes "zh") (codes "HK") ∷
    g (codes "zh") (codes "MO") ∷
    []

-- the region of such a group that stands for the others
abbrev pub standing : List GroupedRow
standing =
    g (codes "en") (codes "GB") ∷
    g (codes "es") (codes "419") ∷
    g (codes "pt") (codes "PT") ∷
    g (codes "zh") (codes "HK") ∷
    []

-- a language whose readers read each of its scripts
abbrev pub digraphic : Text
digraphic = codes "sr"
