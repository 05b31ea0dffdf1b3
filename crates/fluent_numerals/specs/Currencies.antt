-- Written by tools/numbers from Unicode CLDR 48. Do not edit.
-- The currencies.
use Rattle.std.specs.Prelude.{List, [], ◌∷◌, Option}
use Rattle.fluent_numerals.specs.Tagged.{Text, utf8, ◌⇒◌, or_else}
use Rattle.fluent_numerals.specs.Forms.{Currency, coded, currency_row}

-- the currency signs that symbols begin or end with: characters of the categories S
unfoldable pub signs : List Text
signs =
    utf8 "$" ∷ utf8 "£" ∷ utf8 "¤" ∷ utf8 "¥" ∷ utf8 "֏" ∷ utf8 "\u{60b}" ∷ utf8 "\u{7fe}" ∷ utf8 "\u{7ff}" ∷
    utf8 "৳" ∷ utf8 "฿" ∷ utf8 "៛" ∷ utf8 "₡" ∷ utf8 "₤" ∷ utf8 "₦" ∷ utf8 "₧" ∷ utf8 "₩" ∷ utf8 "₪" ∷ utf8 "₫" ∷
    utf8 "€" ∷ utf8 "₭" ∷ utf8 "₮" ∷ utf8 "₱" ∷ utf8 "₴" ∷ utf8 "₵" ∷ utf8 "₸" ∷ utf8 "₹" ∷ utf8 "₺" ∷ utf8 "₼" ∷
    utf8 "₽" ∷ utf8 "₾" ∷ utf8 "￥" ∷ utf8 "￦" ∷
    []

unfoldable pub currencies_1 : List Currency
currencies_1 =
    currency_row "ADP" 0 "ADP" [] [] ∷
    currency_row "AED" 2 "AED" (("ar" ⇒ "\u{62f}.\u{625}.\u{200f}") ∷ ("ars" ⇒ "\u{62f}.\u{625}.\u{200f}") ∷
    ("brx" ⇒ "ए.इ.दि") ∷ ("nqo" ⇒ "\u{7ca}\u{7d0}\u{7d8}") ∷ []) [] ∷
    currency_row "AFA" 2 "AFA" (("ff-adlm" ⇒ "\u{1e900}\u{1e90a}\u{1e900}") ∷ []) [] ∷
    currency_row "AFN" 0 "AFN" (("fa" ⇒ "\u{60b}") ∷ ("nqo" ⇒ "\u{7ca}\u{7dd}\u{7ca}") ∷ ("ps" ⇒ "\u{60b}") ∷
    ("uz-af" ⇒ "\u{60b}") ∷ ("uz-arab" ⇒ "\u{60b}") ∷ []) [] ∷
    currency_row "ALL" 0 "ALL" (("brx" ⇒ "अल") ∷ ("nqo" ⇒ "\u{7ca}\u{7df}\u{7df}") ∷ ("sq" ⇒ "Lekë") ∷ []) [] ∷
    currency_row "AMD" 2 "AMD" (("brx" ⇒ "ए.एम.दि") ∷ ("hy" ⇒ "֏") ∷ ("nqo" ⇒ "\u{7ca}\u{7e1}\u{7d8}") ∷ []) [] ∷
    currency_row "ANG" 2 "ANG" (("brx" ⇒ "ए.एन.जि") ∷ ("en-sx" ⇒ "NAf.") ∷ ("my" ⇒ "NAf") ∷ ("nl-cw" ⇒ "NAf.") ∷
    ("nl-sx" ⇒ "NAf.") ∷ ("nqo" ⇒ "\u{7ca}߲\u{7d5}\u{7dd}") ∷ []) [] ∷
    currency_row "AOA" 2 "AOA" (("brx" ⇒ "ए.अ.ए") ∷ ("ln-ao" ⇒ "Kz") ∷ ("nqo" ⇒ "\u{7ca}߲\u{7dc}߭\u{7ce}") ∷
    ("pt-ao" ⇒ "Kz") ∷ []) [] ∷
    currency_row "AON" 2 "AON" (("nqo" ⇒ "\u{7ca}\u{7dc}߭\u{7de}") ∷ []) [] ∷
    currency_row "AOR" 2 "AOR" (("nqo" ⇒ "\u{7ca}\u{7dc}߭\u{7dd}") ∷ []) [] ∷
    currency_row "ARS" 2 "ARS" (("brx" ⇒ "ए.आर.एस") ∷ ("es-ar" ⇒ "$") ∷ ("fr-ca" ⇒ "ARS") ∷ ("fr" ⇒ "$AR") ∷
    ("nqo" ⇒ "\u{7ca}\u{7d6}߭\u{7d4}") ∷ []) [] ∷
    currency_row "ATS" 2 "ATS" (("de" ⇒ "öS") ∷ ("gsw" ⇒ "öS") ∷ ("lb" ⇒ "öS") ∷ []) [] ∷
    []

unfoldable pub currencies_2 : List Currency
currencies_2 =
    currency_row "AUD" 2 "A$" (("am" ⇒ "AU$") ∷ ("ar" ⇒ "AU$") ∷ ("ars" ⇒ "AU$") ∷ ("bg" ⇒ "AUD") ∷
    ("br" ⇒ "$A") ∷ ("bs-cyrl" ⇒ "A$") ∷ ("bs" ⇒ "AUD") ∷ ("ca" ⇒ "AU$") ∷ ("cs" ⇒ "AU$") ∷ ("da" ⇒ "AU$") ∷
    ("de" ⇒ "AU$") ∷ ("dsb" ⇒ "AUD") ∷ ("dz" ⇒ "AU$") ∷ ("ee" ⇒ "AU$") ∷ ("en-au" ⇒ "$") ∷ ("en-cc" ⇒ "$") ∷
    ("en-cx" ⇒ "$") ∷ ("en-ki" ⇒ "$") ∷ ("en-nf" ⇒ "$") ∷ ("en-nr" ⇒ "$") ∷ ("en-tv" ⇒ "$") ∷ ("eo" ⇒ "AUD") ∷
    ("es" ⇒ "AUD") ∷ ("et" ⇒ "AU$") ∷ ("fi" ⇒ "AUD") ∷ ("fr-ca" ⇒ "$\u{a0}AU") ∷ ("fr" ⇒ "$AU") ∷
    ("fy" ⇒ "AU$") ∷ ("hr" ⇒ "AUD") ∷ ("hsb" ⇒ "AUD") ∷ ("hu" ⇒ "AUD") ∷ ("id" ⇒ "AU$") ∷ ("in" ⇒ "AU$") ∷
    ("is" ⇒ "AUD") ∷ ("ka" ⇒ "AUD") ∷ ("kea" ⇒ "AU$") ∷ ("kgp" ⇒ "AU$") ∷ ("ko" ⇒ "AU$") ∷ ("ky" ⇒ "AUD") ∷
    ("lb" ⇒ "AU$") ∷ ("lt" ⇒ "AUD") ∷ ("lv" ⇒ "AU$") ∷ ("mk" ⇒ "AUD") ∷ ("mo" ⇒ "AUD") ∷ ("nb" ⇒ "AUD") ∷
    ("nl" ⇒ "AU$") ∷ ("nn" ⇒ "AUD") ∷ ("no" ⇒ "AUD") ∷ ("nqo" ⇒ "$\u{7d0}") ∷ ("pl" ⇒ "AUD") ∷ ("pt" ⇒ "AU$") ∷
    ("ro" ⇒ "AUD") ∷ ("sh" ⇒ "AUD") ∷ ("sk" ⇒ "AUD") ∷ ("sl" ⇒ "AUD") ∷ ("sr" ⇒ "AUD") ∷ ("sv" ⇒ "AUD") ∷
    ("th" ⇒ "AU$") ∷ ("to" ⇒ "AUD$") ∷ ("tr" ⇒ "AU$") ∷ ("uk" ⇒ "AUD") ∷ ("vec" ⇒ "AUD") ∷ ("vi" ⇒ "AU$") ∷
    ("yrl" ⇒ "AU$") ∷ ("yue" ⇒ "AU$") ∷ ("zh" ⇒ "AU$") ∷ []) [] ∷
    currency_row "AWG" 2 "AWG" (("brx" ⇒ "ए.दब्ल्यु.जि") ∷ ("my" ⇒ "Afl") ∷ ("nl-aw" ⇒ "Afl.") ∷
    ("nqo" ⇒ "\u{7ca}\u{7e5}\u{7d6}߭") ∷ []) [] ∷
    currency_row "AZN" 2 "AZN" (("az" ⇒ "₼") ∷ ("brx" ⇒ "ए.जेत.एन") ∷ ("nqo" ⇒ "\u{7ca}\u{7d6}\u{7e3}") ∷ []) []
    ∷
    currency_row "BAM" 2 "BAM" (("brx" ⇒ "बि.ए.एम") ∷ ("bs-cyrl" ⇒ "КМ") ∷ ("bs" ⇒ "KM") ∷ ("hr-ba" ⇒ "KM") ∷
    ("nqo" ⇒ "\u{7d3}\u{7cd}\u{7e1}") ∷ ("sh" ⇒ "KM") ∷ ("sr-latn" ⇒ "KM") ∷ ("sr-me" ⇒ "KM") ∷ ("sr" ⇒ "КМ") ∷
    []) [] ∷
    currency_row "BBD" 2 "BBD" (("brx" ⇒ "बि.बि.दि") ∷ ("en-bb" ⇒ "$") ∷ ("nqo" ⇒ "\u{7d3}\u{7d3}\u{7d8}") ∷
    ("qu" ⇒ "BBG") ∷ ("so" ⇒ "DBB") ∷ ("sv" ⇒ "Bds$") ∷ []) [] ∷
    currency_row "BDT" 2 "BDT" (("bn" ⇒ "৳") ∷ ("ccp" ⇒ "৳") ∷ ("nqo" ⇒ "\u{7d3}\u{7d8}\u{7d5}") ∷ []) [] ∷
    currency_row "BEF" 2 "BEF" (("fr" ⇒ "FB") ∷ []) [] ∷
    currency_row "BGM" 2 "BGM" (("de" ⇒ "BGK") ∷ []) [] ∷
    currency_row "BGN" 2 "BGN" (("bg" ⇒ "лв.") ∷ ("brx" ⇒ "बि.जि.एन") ∷ ("nqo" ⇒ "\u{7d3}\u{7dc}߭\u{7df}") ∷ [])
    [] ∷
    currency_row "BGO" 2 "BGO" (("de" ⇒ "BGJ") ∷ []) [] ∷
    currency_row "BHD" 3 "BHD" (("ar" ⇒ "\u{62f}.\u{628}.\u{200f}") ∷ ("ars" ⇒ "\u{62f}.\u{628}.\u{200f}") ∷
    ("brx" ⇒ "बि.ऐत्स.दि") ∷ ("nqo" ⇒ "\u{7d3}\u{7e4}\u{7d8}") ∷ []) [] ∷
    []

unfoldable pub currencies_3 : List Currency
currencies_3 =
    currency_row "BIF" 0 "BIF" (("brx" ⇒ "बि.आइ.एफ") ∷ ("en-bi" ⇒ "FBu") ∷ ("fr-bi" ⇒ "FBu") ∷
    ("nqo" ⇒ "\u{7d3}\u{7d9}\u{7dd}") ∷ ("rn" ⇒ "FBu") ∷ []) [] ∷
    currency_row "BMD" 2 "BMD" (("brx" ⇒ "बि.एम.डि") ∷ ("en-bm" ⇒ "$") ∷ ("fr-ca" ⇒ "BMD") ∷ ("fr" ⇒ "$BM") ∷
    ("nqo" ⇒ "\u{7d3}\u{7e1}\u{7d8}") ∷ ("qu" ⇒ "DBM") ∷ ("sv" ⇒ "BM$") ∷ []) [] ∷
    currency_row "BND" 2 "BND" (("fr-ca" ⇒ "BND") ∷ ("fr" ⇒ "$BN") ∷ ("ms-bn" ⇒ "$") ∷
    ("nqo" ⇒ "\u{7d3}\u{7e3}\u{7d8}") ∷ []) [] ∷
    currency_row "BOB" 2 "BOB" (("brx" ⇒ "बि.अ.बि") ∷ ("es-bo" ⇒ "Bs") ∷ ("nqo" ⇒ "\u{7d3}\u{7cf}\u{7d3}") ∷
    ("qu-bo" ⇒ "Bs") ∷ ("yrl" ⇒ "BUB") ∷ []) [] ∷
    currency_row "BRL" 2 "R$" (("be" ⇒ "BRL") ∷ ("bg" ⇒ "BRL") ∷ ("br" ⇒ "BRL") ∷ ("bs-cyrl" ⇒ "R$") ∷
    ("bs" ⇒ "BRL") ∷ ("ca" ⇒ "BRL") ∷ ("en-au" ⇒ "BRL") ∷ ("eo" ⇒ "BRL") ∷ ("es-br" ⇒ "R$") ∷ ("es" ⇒ "BRL") ∷
    ("fi" ⇒ "BRL") ∷ ("hr" ⇒ "BRL") ∷ ("hu" ⇒ "BRL") ∷ ("is" ⇒ "BRL") ∷ ("it" ⇒ "BRL") ∷ ("ky" ⇒ "BRL") ∷
    ("lt" ⇒ "BRL") ∷ ("mo" ⇒ "BRL") ∷ ("nb" ⇒ "BRL") ∷ ("nn" ⇒ "BRL") ∷ ("no" ⇒ "BRL") ∷ ("ro" ⇒ "BRL") ∷
    ("sk" ⇒ "BRL") ∷ ("sl" ⇒ "BRL") ∷ ("sq" ⇒ "BRL") ∷ ("sv" ⇒ "BR$") ∷ ("uk" ⇒ "BRL") ∷ ("vec" ⇒ "BRL") ∷ []) []
    ∷
    currency_row "BSD" 2 "BSD" (("brx" ⇒ "बि.एस.दि") ∷ ("en-bs" ⇒ "$") ∷ ("nqo" ⇒ "\u{7d3}\u{7db}\u{7d8}") ∷
    ("sv" ⇒ "BS$") ∷ []) [] ∷
    currency_row "BTN" 2 "BTN" (("dz" ⇒ "Nu.") ∷ ("nqo" ⇒ "\u{7d3}\u{7d5}\u{7d2}") ∷ []) [] ∷
    currency_row "BWP" 2 "BWP" (("brx" ⇒ "बि.दब्ल्यु.पि") ∷ ("en-bw" ⇒ "P") ∷ ("nqo" ⇒ "\u{7d3}\u{7e5}\u{7d4}") ∷
    ("tn-bw" ⇒ "P") ∷ []) [] ∷
    currency_row "BYN" 2 "BYN" (("be" ⇒ "Br") ∷ ("brx" ⇒ "बि.वाई.एन") ∷ ("nqo" ⇒ "\u{7d3}\u{7cc}\u{7d9}") ∷
    ("ru-by" ⇒ "Br") ∷ []) [] ∷
    currency_row "BYR" 0 "BYR" [] [] ∷
    currency_row "BZD" 2 "BZD" (("brx" ⇒ "बि.जेद.डि") ∷ ("en-bz" ⇒ "$") ∷ ("es-bz" ⇒ "$") ∷ ("fr-ca" ⇒ "BZD") ∷
    ("fr" ⇒ "$BZ") ∷ ("qu" ⇒ "DBZ") ∷ ("sv" ⇒ "BZ$") ∷ []) [] ∷
    []

unfoldable pub currencies_4 : List Currency
currencies_4 =
    currency_row "CAD" 2 "CA$" (("af" ⇒ "CAD") ∷ ("be" ⇒ "CAD") ∷ ("bg" ⇒ "CAD") ∷ ("br" ⇒ "$CA") ∷
    ("brx" ⇒ "सि.ए $") ∷ ("bs-cyrl" ⇒ "CA$") ∷ ("bs" ⇒ "CAD") ∷ ("ca" ⇒ "CAD") ∷ ("en-au" ⇒ "CAD") ∷
    ("en-ca" ⇒ "$") ∷ ("eo" ⇒ "CAD") ∷ ("es" ⇒ "CAD") ∷ ("fa" ⇒ "$CA") ∷ ("fi" ⇒ "CAD") ∷ ("fr-ca" ⇒ "$") ∷
    ("fr" ⇒ "$CA") ∷ ("fy" ⇒ "C$") ∷ ("hr" ⇒ "CAD") ∷ ("hu" ⇒ "CAD") ∷ ("is" ⇒ "CAD") ∷ ("ky" ⇒ "CAD") ∷
    ("lt" ⇒ "CAD") ∷ ("mo" ⇒ "CAD") ∷ ("ms" ⇒ "CAD") ∷ ("nb" ⇒ "CAD") ∷ ("nl" ⇒ "C$") ∷ ("nn" ⇒ "CAD") ∷
    ("no" ⇒ "CAD") ∷ ("pcm" ⇒ "KA$") ∷ ("pl" ⇒ "CAD") ∷ ("qu" ⇒ "$CA") ∷ ("ro" ⇒ "CAD") ∷ ("sk" ⇒ "CAD") ∷
    ("sl" ⇒ "CAD") ∷ ("uk" ⇒ "CAD") ∷ ("vec" ⇒ "CAD") ∷ []) [] ∷
    currency_row "CDF" 2 "CDF" (("brx" ⇒ "सि.दि.एफ") ∷ ("fr-cd" ⇒ "FC") ∷ ("ln" ⇒ "FC") ∷ ("lu" ⇒ "FC") ∷
    ("nqo" ⇒ "\u{7de}\u{7dd}") ∷ ("sw-cd" ⇒ "FC") ∷ []) [] ∷
    currency_row "CHF" 2 "CHF" (("brx" ⇒ "सि.ऐत्स.एफ") ∷ ("nqo" ⇒ "\u{7db}\u{7e5}\u{7dd}") ∷ []) [] ∷
    currency_row "CLF" 4 "CLF" [] [] ∷
    currency_row "CLP" 0 "CLP" (("brx" ⇒ "सि.एल.पि") ∷ ("es-cl" ⇒ "$") ∷ ("fr-ca" ⇒ "CLP") ∷ ("fr" ⇒ "$CL") ∷
    ("nqo" ⇒ "\u{7db}\u{7df}\u{7d4}") ∷ []) [] ∷
    currency_row "CNH" 2 "CNH" (("brx" ⇒ "सि.एन.ऐत्स") ∷ ("nqo" ⇒ "\u{7db}\u{7e6}\u{7e4}") ∷ ("xh" ⇒ "I-CNH") ∷
    []) [] ∷
    currency_row "CNY" 2 "CN¥" (("bg" ⇒ "CNY") ∷ ("bo-in" ⇒ "CN¥") ∷ ("bo" ⇒ "¥") ∷ ("br" ⇒ "CNY") ∷
    ("brx" ⇒ "सिएन¥") ∷ ("bs-cyrl" ⇒ "CN¥") ∷ ("bs" ⇒ "CNY") ∷ ("ca" ⇒ "CNY") ∷ ("en-au" ⇒ "CNY") ∷
    ("eo" ⇒ "CNY") ∷ ("es" ⇒ "CNY") ∷ ("fa" ⇒ "¥CN") ∷ ("fi" ⇒ "CNY") ∷ ("fr-ca" ⇒ "CN¥") ∷ ("fr" ⇒ "CNY") ∷
    ("he" ⇒ "\u{200e}CN¥\u{200e}") ∷ ("hr" ⇒ "CNY") ∷ ("hu" ⇒ "CNY") ∷ ("ii" ⇒ "¥") ∷
    ("iw" ⇒ "\u{200e}CN¥\u{200e}") ∷ ("ja" ⇒ "元") ∷ ("ka" ⇒ "CNY") ∷ ("lt" ⇒ "CNY") ∷ ("mk" ⇒ "CNY") ∷
    ("mo" ⇒ "CNY") ∷ ("nb" ⇒ "CNY") ∷ ("nn" ⇒ "CNY") ∷ ("no" ⇒ "CNY") ∷ ("nqo" ⇒ "\u{7db}\u{7e3}\u{7e6}") ∷
    ("pl" ⇒ "CNY") ∷ ("ro" ⇒ "CNY") ∷ ("sk" ⇒ "CNY") ∷ ("sv" ⇒ "CNY") ∷ ("ti" ⇒ "CNY") ∷ ("ug" ⇒ "￥") ∷
    ("uk" ⇒ "CNY") ∷ ("vec" ⇒ "CNY") ∷ ("zh-hans-hk" ⇒ "CN¥") ∷ ("zh-hans-mo" ⇒ "CN¥") ∷ ("zh-hans-sg" ⇒ "CN¥") ∷
    ("zh-hant" ⇒ "CN¥") ∷ ("zh-hk" ⇒ "CN¥") ∷ ("zh-mo" ⇒ "CN¥") ∷ ("zh-sg" ⇒ "CN¥") ∷ ("zh-tw" ⇒ "CN¥") ∷
    ("zh" ⇒ "¥") ∷ []) [] ∷
    currency_row "COP" 0 "COP" (("brx" ⇒ "सि.अ.पि") ∷ ("es-co" ⇒ "$") ∷ ("fr-ca" ⇒ "COP") ∷ ("fr" ⇒ "$CO") ∷
    ("nqo" ⇒ "\u{7de}\u{7d0}\u{7d4}") ∷ ("yrl" ⇒ "$") ∷ []) [] ∷
    currency_row "CRC" 2 "CRC" (("brx" ⇒ "सि.आर.सि") ∷ ("es-cr" ⇒ "₡") ∷ ("nqo" ⇒ "\u{7de}\u{7d9}\u{7de}") ∷ [])
    [] ∷
    []

unfoldable pub currencies_5 : List Currency
currencies_5 =
    currency_row "CSK" 2 "CSK" (("cs" ⇒ "Kčs") ∷ []) [] ∷
    currency_row "CUC" 2 "CUC" (("brx" ⇒ "सि.इउ.सि") ∷ ("nqo" ⇒ "\u{7de}\u{7ce}߳\u{7de}") ∷ []) [] ∷
    currency_row "CUP" 2 "CUP" (("brx" ⇒ "सि.इउ.पि") ∷ ("es-cu" ⇒ "$") ∷ ("nqo" ⇒ "\u{7de}\u{7ce}߳\u{7d4}") ∷ [])
    [] ∷
    currency_row "CVE" 2 "CVE" (("brx" ⇒ "सि.भि.इ") ∷ ("kea" ⇒ "\u{200b}") ∷ ("nqo" ⇒ "\u{7cd}\u{7db}\u{7de}") ∷
    ("pt-cv" ⇒ "\u{200b}") ∷ []) (("kea" ⇒ "kea-cv") ∷ []) ∷
    currency_row "CYP" 2 "CYP" (("fr" ⇒ "£CY") ∷ []) [] ∷
    currency_row "CZK" 2 "CZK" (("brx" ⇒ "सि.जेद.के") ∷ ("bs-cyrl" ⇒ "Кч") ∷ ("cs" ⇒ "Kč") ∷
    ("nqo" ⇒ "\u{7d7}\u{7de}\u{7de}") ∷ []) [] ∷
    currency_row "DEM" 2 "DEM" (("de" ⇒ "DM") ∷ []) [] ∷
    currency_row "DJF" 0 "DJF" (("ar-dj" ⇒ "Fdj") ∷ ("brx" ⇒ "दि.जे.एफ") ∷ ("fr-dj" ⇒ "Fdj") ∷
    ("nqo" ⇒ "\u{7d6}\u{7d3}\u{7dd}") ∷ ("so-dj" ⇒ "Fdj") ∷ []) [] ∷
    currency_row "DKK" 2 "DKK" (("brx" ⇒ "दि.के.के") ∷ ("da" ⇒ "kr.") ∷ ("en-dk" ⇒ "kr.") ∷ ("fo-dk" ⇒ "kr.") ∷
    ("fo" ⇒ "kr") ∷ ("kl" ⇒ "kr.") ∷ ("nqo" ⇒ "\u{7d8}\u{7de}\u{7de}") ∷ ("se" ⇒ "Dkr") ∷ ("sv" ⇒ "Dkr") ∷ []) []
    ∷
    currency_row "DOP" 2 "DOP" (("brx" ⇒ "डि.अ.पि") ∷ ("es-do" ⇒ "RD$") ∷ ("nqo" ⇒ "\u{7d8}\u{7cf}\u{7d4}") ∷
    ("sv" ⇒ "RD$") ∷ []) [] ∷
    currency_row "DZD" 2 "DZD" (("ar" ⇒ "\u{62f}.\u{62c}.\u{200f}") ∷ ("ars" ⇒ "\u{62f}.\u{62c}.\u{200f}") ∷
    ("brx" ⇒ "दि.जेत.दि") ∷ ("fr-dz" ⇒ "DA") ∷ ("kab" ⇒ "DA") ∷ ("nqo" ⇒ "\u{7ca}\u{7df}\u{7d8}") ∷ []) [] ∷
    currency_row "EEK" 2 "EEK" (("et" ⇒ "kr") ∷ ("sv" ⇒ "Ekr") ∷ []) (("et" ⇒ "ba") ∷ []) ∷
    currency_row "EGP" 2 "EGP" (("ar" ⇒ "\u{62c}.\u{645}.\u{200f}") ∷ ("ars" ⇒ "\u{62c}.\u{645}.\u{200f}") ∷
    ("brx" ⇒ "ई.जि.पि") ∷ ("nqo" ⇒ "\u{7e1}\u{7db}\u{7d4}") ∷ ("sv" ⇒ "EG£") ∷ ("wo" ⇒ "EGPP") ∷ []) [] ∷
    currency_row "ERN" 2 "ERN" (("ar-er" ⇒ "Nfk") ∷ ("brx" ⇒ "इ.आर.एन") ∷ ("en-er" ⇒ "Nfk") ∷
    ("nqo" ⇒ "\u{7cb}\u{7d9}\u{7dd}") ∷ ("ti-er" ⇒ "Nfk") ∷ []) [] ∷
    currency_row "ESP" 0 "ESP" (("ca" ⇒ "₧") ∷ ("es" ⇒ "₧") ∷ ("eu" ⇒ "₧") ∷ ("gl" ⇒ "₧") ∷ []) (("ca" ⇒ "pt") ∷
    ("eu" ⇒ "pt") ∷ ("gl" ⇒ "fr") ∷ []) ∷
    currency_row "ETB" 2 "ETB" (("am" ⇒ "ብር") ∷ ("brx" ⇒ "इ.ति.बि") ∷ ("nqo" ⇒ "\u{7cb}\u{7d7}\u{7d3}") ∷
    ("om" ⇒ "Br") ∷ ("so-et" ⇒ "Br") ∷ ("ti" ⇒ "Br") ∷ []) [] ∷
    []

unfoldable pub currencies_6 : List Currency
currencies_6 =
    currency_row "EUR" 2 "€" (("de-ch" ⇒ "EUR") ∷ ("de-li" ⇒ "EUR") ∷ ("en-au" ⇒ "EUR") ∷ ("es-419" ⇒ "EUR") ∷
    ("es-ar" ⇒ "EUR") ∷ ("es-bo" ⇒ "EUR") ∷ ("es-br" ⇒ "EUR") ∷ ("es-bz" ⇒ "EUR") ∷ ("es-cl" ⇒ "EUR") ∷
    ("es-co" ⇒ "EUR") ∷ ("es-cr" ⇒ "EUR") ∷ ("es-cu" ⇒ "EUR") ∷ ("es-do" ⇒ "EUR") ∷ ("es-ec" ⇒ "EUR") ∷
    ("es-gt" ⇒ "EUR") ∷ ("es-hn" ⇒ "EUR") ∷ ("es-mx" ⇒ "EUR") ∷ ("es-ni" ⇒ "EUR") ∷ ("es-pa" ⇒ "EUR") ∷
    ("es-pe" ⇒ "EUR") ∷ ("es-pr" ⇒ "EUR") ∷ ("es-py" ⇒ "EUR") ∷ ("es-sv" ⇒ "EUR") ∷ ("es-us" ⇒ "EUR") ∷
    ("es-uy" ⇒ "EUR") ∷ ("es-ve" ⇒ "EUR") ∷ ("hu" ⇒ "EUR") ∷ ("is" ⇒ "EUR") ∷ ("mo" ⇒ "EUR") ∷ ("ro" ⇒ "EUR") ∷
    ("tk" ⇒ "EUR") ∷ ("uk" ⇒ "EUR") ∷ ("vec" ⇒ "EUR") ∷ []) (("en-150" ⇒ "en") ∷ ("en-ch" ⇒ "en") ∷
    ("en-cz" ⇒ "en") ∷ ("en-dk" ⇒ "en") ∷ ("en-ge" ⇒ "en") ∷ ("en-hu" ⇒ "en") ∷ ("en-no" ⇒ "en") ∷
    ("en-pl" ⇒ "en") ∷ ("en-ro" ⇒ "en") ∷ ("en-se" ⇒ "en") ∷ ("en-ua" ⇒ "en") ∷ []) ∷
    currency_row "FIM" 2 "FIM" (("fi" ⇒ "mk") ∷ []) [] ∷
    currency_row "FJD" 2 "FJD" (("en-fj" ⇒ "$") ∷ ("fr-ca" ⇒ "FJD") ∷ ("fr" ⇒ "$FJ") ∷ ("fy" ⇒ "FJ$") ∷
    ("kgp" ⇒ "FJC") ∷ ("nl" ⇒ "FJ$") ∷ ("nqo" ⇒ "$ \u{7dd}\u{7d6}") ∷ []) [] ∷
    currency_row "FKP" 2 "FKP" (("brx" ⇒ "एफ.के.पि") ∷ ("en-fk" ⇒ "£") ∷ ("fr-ca" ⇒ "FKP") ∷ ("fr" ⇒ "£FK") ∷
    ("nqo" ⇒ "\u{7dd}\u{7de}\u{7d4}") ∷ []) [] ∷
    currency_row "FRF" 2 "FRF" (("ca-fr" ⇒ "F") ∷ ("fr-lu" ⇒ "FRF") ∷ ("fr" ⇒ "F") ∷ []) [] ∷
    currency_row "GBP" 2 "£" (("ar-ss" ⇒ "GB£") ∷ ("ar" ⇒ "UK£") ∷ ("ars" ⇒ "UK£") ∷ ("bg" ⇒ "GBP") ∷
    ("br" ⇒ "£ RU") ∷ ("bs-cyrl" ⇒ "£") ∷ ("bs" ⇒ "GBP") ∷ ("en-au" ⇒ "GBP") ∷ ("en-fk" ⇒ "GB£") ∷
    ("en-gi" ⇒ "GB£") ∷ ("en-mt" ⇒ "GB£") ∷ ("en-sh" ⇒ "GB£") ∷ ("en-ss" ⇒ "GB£") ∷ ("eo" ⇒ "GBP") ∷
    ("es" ⇒ "GBP") ∷ ("fr-ca" ⇒ "£") ∷ ("fr" ⇒ "£GB") ∷ ("hr" ⇒ "GBP") ∷ ("hu" ⇒ "GBP") ∷ ("is" ⇒ "GBP") ∷
    ("ky" ⇒ "GBP") ∷ ("lt" ⇒ "GBP") ∷ ("mk" ⇒ "GBP") ∷ ("mo" ⇒ "GBP") ∷ ("nn" ⇒ "GBP") ∷ ("nus" ⇒ "GB£") ∷
    ("pl" ⇒ "GBP") ∷ ("ro" ⇒ "GBP") ∷ ("sk" ⇒ "GBP") ∷ ("sl" ⇒ "GBP") ∷ ("sv" ⇒ "GBP") ∷ ("tk" ⇒ "GBP") ∷
    ("uk" ⇒ "GBP") ∷ ("vec" ⇒ "GBP") ∷ []) [] ∷
    currency_row "GEL" 2 "GEL" (("brx" ⇒ "जि.इ.एल") ∷ ("en-ge" ⇒ "₾") ∷ ("ka" ⇒ "₾") ∷
    ("nqo" ⇒ "\u{7d6}߭\u{7d0}\u{7df}") ∷ ("os-ru" ⇒ "GEL") ∷ ("os" ⇒ "₾") ∷ []) [] ∷
    currency_row "GHS" 2 "GHS" (("ak" ⇒ "GH₵") ∷ ("brx" ⇒ "जि.ऐत्स.एस") ∷ ("ee" ⇒ "GH₵") ∷ ("en-gh" ⇒ "GH₵") ∷
    ("ff-adlm-gh" ⇒ "GH₵") ∷ ("ff-latn-gh" ⇒ "GH₵") ∷ ("ha-gh" ⇒ "GH₵") ∷ ("nqo" ⇒ "\u{7dc}߭\u{7db}\u{7d8}") ∷
    ("wo" ⇒ "GHS.") ∷ []) [] ∷
    []

unfoldable pub currencies_7 : List Currency
currencies_7 =
    currency_row "GIP" 2 "GIP" (("brx" ⇒ "जि.आइ.पि") ∷ ("en-gi" ⇒ "£") ∷ ("fr-ca" ⇒ "GIP") ∷ ("fr" ⇒ "£GI") ∷
    ("nqo" ⇒ "\u{7d6}߭\u{7d3}\u{7d4}£") ∷ ("wo" ⇒ "GIIP") ∷ []) [] ∷
    currency_row "GMD" 2 "GMD" (("brx" ⇒ "जि.एम.दि") ∷ ("en-gm" ⇒ "D") ∷ ("ff-adlm-gm" ⇒ "D") ∷
    ("ff-latn-gm" ⇒ "D") ∷ ("nqo" ⇒ "\u{7dc}߭\u{7d3}\u{7d8}") ∷ []) [] ∷
    currency_row "GNF" 0 "GNF" (("brx" ⇒ "जि.एन.एफ") ∷ ("ff-adlm-bf" ⇒ "GNF") ∷ ("ff-adlm-cm" ⇒ "GNF") ∷
    ("ff-adlm-gh" ⇒ "GNF") ∷ ("ff-adlm-gm" ⇒ "GNF") ∷ ("ff-adlm-gw" ⇒ "GNF") ∷ ("ff-adlm-lr" ⇒ "GNF") ∷
    ("ff-adlm-mr" ⇒ "GNF") ∷ ("ff-adlm-ne" ⇒ "GNF") ∷ ("ff-adlm-ng" ⇒ "GNF") ∷ ("ff-adlm-sl" ⇒ "GNF") ∷
    ("ff-adlm-sn" ⇒ "GNF") ∷ ("ff-adlm" ⇒ "FG") ∷ ("ff-gn" ⇒ "FG") ∷ ("ff-latn-gn" ⇒ "FG") ∷ ("fr-gn" ⇒ "FG") ∷
    ("nqo" ⇒ "\u{7ff}") ∷ []) [] ∷
    currency_row "GNS" 2 "GNS" (("nqo" ⇒ "\u{7d6}\u{7db}\u{7fe}") ∷ []) [] ∷
    currency_row "GQE" 2 "GQE" (("nqo" ⇒ "\u{7d5}\u{7d6}\u{7cb}") ∷ []) [] ∷
    currency_row "GRD" 2 "GRD" (("el" ⇒ "Δρχ") ∷ []) [] ∷
    currency_row "GTQ" 2 "GTQ" (("brx" ⇒ "जि.ति.किउ") ∷ ("es-gt" ⇒ "Q") ∷ ("nqo" ⇒ "\u{7dc}߭\u{7d5}\u{7de}") ∷
    ("wo" ⇒ "GT Q") ∷ []) [] ∷
    currency_row "GWE" 2 "GWE" (("nqo" ⇒ "\u{7d6}\u{7d3}\u{7cd}") ∷ []) [] ∷
    currency_row "GWP" 2 "GWP" (("nqo" ⇒ "\u{7d6}\u{7d3}\u{7d4}") ∷ []) [] ∷
    currency_row "GYD" 2 "GYD" (("brx" ⇒ "जि.वाई.दि") ∷ ("en-gy" ⇒ "$") ∷ ("nqo" ⇒ "\u{7dc}߭\u{7ce}߳\u{7d8}") ∷
    []) [] ∷
    currency_row "HKD" 2 "HK$" (("bg" ⇒ "HKD") ∷ ("br" ⇒ "$ HK") ∷ ("brx" ⇒ "ऐत्स.के$") ∷ ("bs-cyrl" ⇒ "HK$") ∷
    ("bs" ⇒ "HKD") ∷ ("en-au" ⇒ "HKD") ∷ ("eo" ⇒ "HKD") ∷ ("es" ⇒ "HKD") ∷ ("fa" ⇒ "$HK") ∷ ("fi" ⇒ "HKD") ∷
    ("fr-ca" ⇒ "$\u{a0}HK") ∷ ("fr" ⇒ "HKD") ∷ ("hr" ⇒ "HKD") ∷ ("hu" ⇒ "HKD") ∷ ("it" ⇒ "HKD") ∷
    ("ka" ⇒ "HKD") ∷ ("ky" ⇒ "HKD") ∷ ("lt" ⇒ "HKD") ∷ ("mk" ⇒ "HKD") ∷ ("mo" ⇒ "HKD") ∷ ("nb" ⇒ "HKD") ∷
    ("nn" ⇒ "HKD") ∷ ("no" ⇒ "HKD") ∷ ("nqo" ⇒ "\u{7e4}\u{7de}\u{7d8}") ∷ ("pl" ⇒ "HKD") ∷ ("ro" ⇒ "HKD") ∷
    ("sk" ⇒ "HKD") ∷ ("sv" ⇒ "HKD") ∷ ("uk" ⇒ "HKD") ∷ ("vec" ⇒ "HKD") ∷ []) [] ∷
    currency_row "HNL" 2 "HNL" (("brx" ⇒ "ऐत्स.एन.एल") ∷ ("es-hn" ⇒ "L") ∷ ("nqo" ⇒ "\u{7e4}\u{7d8}\u{7df}") ∷
    []) [] ∷
    currency_row "HRK" 2 "HRK" (("brx" ⇒ "ऐत्स.आर.के") ∷ ("bs-cyrl" ⇒ "HRK") ∷ ("bs" ⇒ "kn") ∷ ("hr" ⇒ "kn") ∷
    ("nqo" ⇒ "\u{7de}\u{7db}\u{7de}") ∷ ("wo" ⇒ "HRKS") ∷ []) [] ∷
    currency_row "HTG" 2 "HTG" (("brx" ⇒ "ऐत्स.ति.जि") ∷ ("fr-ht" ⇒ "G") ∷ ("my" ⇒ "G") ∷
    ("nqo" ⇒ "\u{7e4}\u{7d5}\u{7dc}߭") ∷ []) [] ∷
    currency_row "HUF" 0 "HUF" (("brx" ⇒ "ऐत्स.इउ.एफ") ∷ ("hu" ⇒ "Ft") ∷ ("nqo" ⇒ "\u{7e4}\u{7dc}߭\u{7dd}") ∷ [])
    [] ∷
    currency_row "IDR" 0 "IDR" (("en-id" ⇒ "Rp") ∷ ("id" ⇒ "Rp") ∷ ("in" ⇒ "Rp") ∷ ("jv" ⇒ "Rp") ∷
    ("ms-id" ⇒ "Rp") ∷ ("nqo" ⇒ "\u{7cd}߲\u{7d8}\u{7d9}") ∷ ("su" ⇒ "Rp") ∷ []) [] ∷
    []

unfoldable pub currencies_8 : List Currency
currencies_8 =
    currency_row "IEP" 2 "IEP" (("fr" ⇒ "£IE") ∷ ("sv" ⇒ "IE£") ∷ []) [] ∷
    currency_row "ILP" 2 "ILP" (("fr" ⇒ "£IL") ∷ ("he" ⇒ "\u{5dc}\u{5f4}\u{5d9}") ∷
    ("iw" ⇒ "\u{5dc}\u{5f4}\u{5d9}") ∷ []) [] ∷
    currency_row "ILR" 2 "ILR" (("zh-hant" ⇒ "ILR") ∷ ("zh-hk" ⇒ "ILR") ∷ ("zh-mo" ⇒ "ILR") ∷ ("zh-tw" ⇒ "ILR") ∷
    ("zh" ⇒ "ILS") ∷ []) [] ∷
    currency_row "ILS" 2 "₪" (("bg" ⇒ "ILS") ∷ ("br" ⇒ "ILS") ∷ ("bs-cyrl" ⇒ "₪") ∷ ("bs" ⇒ "ILS") ∷
    ("cs" ⇒ "ILS") ∷ ("dz" ⇒ "ILS") ∷ ("en-au" ⇒ "ILS") ∷ ("eo" ⇒ "ILS") ∷ ("es" ⇒ "ILS") ∷ ("fi" ⇒ "ILS") ∷
    ("fr-ca" ⇒ "ILS") ∷ ("hr" ⇒ "ILS") ∷ ("hu" ⇒ "ILS") ∷ ("ka" ⇒ "ILS") ∷ ("ky" ⇒ "ILS") ∷ ("lt" ⇒ "ILS") ∷
    ("mk" ⇒ "ILS") ∷ ("mo" ⇒ "ILS") ∷ ("nb" ⇒ "ILS") ∷ ("nn" ⇒ "ILS") ∷ ("no" ⇒ "ILS") ∷ ("pl" ⇒ "ILS") ∷
    ("ro" ⇒ "ILS") ∷ ("sk" ⇒ "NIS") ∷ ("uk" ⇒ "ILS") ∷ ("vec" ⇒ "ILS") ∷ []) [] ∷
    currency_row "INR" 2 "₹" (("bg" ⇒ "INR") ∷ ("cs" ⇒ "INR") ∷ ("en-au" ⇒ "INR") ∷ ("eo" ⇒ "INR") ∷
    ("es" ⇒ "INR") ∷ ("fi" ⇒ "INR") ∷ ("fr-ca" ⇒ "INR") ∷ ("hr" ⇒ "INR") ∷ ("hu" ⇒ "INR") ∷ ("id" ⇒ "Rs") ∷
    ("in" ⇒ "Rs") ∷ ("is" ⇒ "INR") ∷ ("it" ⇒ "INR") ∷ ("ka" ⇒ "INR") ∷ ("ky" ⇒ "INR") ∷ ("lt" ⇒ "INR") ∷
    ("mk" ⇒ "INR") ∷ ("mo" ⇒ "INR") ∷ ("nb" ⇒ "INR") ∷ ("nn" ⇒ "INR") ∷ ("no" ⇒ "INR") ∷ ("pl" ⇒ "INR") ∷
    ("ro" ⇒ "INR") ∷ ("sk" ⇒ "INR") ∷ ("sv" ⇒ "INR") ∷ ("uk" ⇒ "INR") ∷ ("vec" ⇒ "INR") ∷ []) [] ∷
    currency_row "IQD" 0 "IQD" (("ak" ⇒ "Irak dinaa") ∷ ("ar" ⇒ "\u{62f}.\u{639}.\u{200f}") ∷
    ("ars" ⇒ "\u{62f}.\u{639}.\u{200f}") ∷ ("brx" ⇒ "आइ.किउ.दि") ∷ ("ckb" ⇒ "\u{62f}.\u{639}.\u{200f}") ∷
    ("lrc" ⇒ "\u{62f}.\u{639}.\u{200f}") ∷ ("nqo" ⇒ "\u{7cc}\u{7de}\u{7d8}") ∷ []) [] ∷
    currency_row "IRR" 0 "IRR" (("ar" ⇒ "\u{631}.\u{625}.") ∷ ("ars" ⇒ "\u{631}.\u{625}.") ∷
    ("fa" ⇒ "\u{631}\u{6cc}\u{627}\u{644}") ∷ ("nqo" ⇒ "\u{7cc}\u{7d9}\u{7d9}") ∷ []) [] ∷
    currency_row "ISK" 0 "ISK" (("brx" ⇒ "आई.एस.के") ∷ ("is" ⇒ "kr.") ∷ ("nqo" ⇒ "\u{7cc}\u{7db}\u{7de}") ∷
    ("sv" ⇒ "Ikr") ∷ []) [] ∷
    currency_row "ITL" 0 "ITL" (("fr" ⇒ "₤IT") ∷ []) (("it" ⇒ "pt") ∷ []) ∷
    currency_row "JMD" 2 "JMD" (("brx" ⇒ "जे.एम.दि") ∷ ("en-jm" ⇒ "$") ∷ ("nqo" ⇒ "\u{7d6}\u{7e1}\u{7d8}") ∷
    ("sv" ⇒ "JM$") ∷ []) [] ∷
    currency_row "JOD" 3 "JOD" (("ar" ⇒ "\u{62f}.\u{623}.\u{200f}") ∷ ("ars" ⇒ "\u{62f}.\u{623}.\u{200f}") ∷
    ("brx" ⇒ "जे.अ.दि") ∷ ("nqo" ⇒ "\u{7d6}\u{7d0}\u{7d8}") ∷ []) [] ∷
    []

unfoldable pub currencies_9 : List Currency
currencies_9 =
    currency_row "JPY" 0 "JP¥" (("ast" ⇒ "¥") ∷ ("be" ⇒ "¥") ∷ ("bg" ⇒ "JPY") ∷ ("br" ⇒ "JPY") ∷ ("bs" ⇒ "¥") ∷
    ("ca" ⇒ "¥") ∷ ("de" ⇒ "¥") ∷ ("doi" ⇒ "¥") ∷ ("dsb" ⇒ "¥") ∷ ("en-001" ⇒ "JP¥") ∷ ("en-150" ⇒ "JP¥") ∷
    ("en-ag" ⇒ "JP¥") ∷ ("en-ai" ⇒ "JP¥") ∷ ("en-at" ⇒ "JP¥") ∷ ("en-au" ⇒ "JPY") ∷ ("en-bb" ⇒ "JP¥") ∷
    ("en-be" ⇒ "JP¥") ∷ ("en-bm" ⇒ "JP¥") ∷ ("en-bs" ⇒ "JP¥") ∷ ("en-bw" ⇒ "JP¥") ∷ ("en-bz" ⇒ "JP¥") ∷
    ("en-ca" ⇒ "JP¥") ∷ ("en-cc" ⇒ "JP¥") ∷ ("en-ch" ⇒ "JP¥") ∷ ("en-ck" ⇒ "JP¥") ∷ ("en-cm" ⇒ "JP¥") ∷
    ("en-cx" ⇒ "JP¥") ∷ ("en-cy" ⇒ "JP¥") ∷ ("en-cz" ⇒ "JP¥") ∷ ("en-de" ⇒ "JP¥") ∷ ("en-dg" ⇒ "JP¥") ∷
    ("en-dk" ⇒ "JP¥") ∷ ("en-dm" ⇒ "JP¥") ∷ ("en-ee" ⇒ "JP¥") ∷ ("en-er" ⇒ "JP¥") ∷ ("en-es" ⇒ "JP¥") ∷
    ("en-fi" ⇒ "JP¥") ∷ ("en-fj" ⇒ "JP¥") ∷ ("en-fk" ⇒ "JP¥") ∷ ("en-fm" ⇒ "JP¥") ∷ ("en-fr" ⇒ "JP¥") ∷
    ("en-gb" ⇒ "JP¥") ∷ ("en-gd" ⇒ "JP¥") ∷ ("en-ge" ⇒ "JP¥") ∷ ("en-gg" ⇒ "JP¥") ∷ ("en-gh" ⇒ "JP¥") ∷
    ("en-gi" ⇒ "JP¥") ∷ ("en-gm" ⇒ "JP¥") ∷ ("en-gs" ⇒ "JP¥") ∷ ("en-gy" ⇒ "JP¥") ∷ ("en-hk" ⇒ "JP¥") ∷
    ("en-hu" ⇒ "JP¥") ∷ ("en-id" ⇒ "JP¥") ∷ ("en-ie" ⇒ "JP¥") ∷ ("en-il" ⇒ "JP¥") ∷ ("en-im" ⇒ "JP¥") ∷
    ("en-in" ⇒ "JP¥") ∷ ("en-io" ⇒ "JP¥") ∷ ("en-it" ⇒ "JP¥") ∷ ("en-je" ⇒ "JP¥") ∷ ("en-jm" ⇒ "JP¥") ∷
    ("en-ke" ⇒ "JP¥") ∷ ("en-ki" ⇒ "JP¥") ∷ ("en-kn" ⇒ "JP¥") ∷ ("en-ky" ⇒ "JP¥") ∷ ("en-lc" ⇒ "JP¥") ∷
    ("en-lr" ⇒ "JP¥") ∷ ("en-ls" ⇒ "JP¥") ∷ ("en-lt" ⇒ "JP¥") ∷ ("en-lv" ⇒ "JP¥") ∷ ("en-mg" ⇒ "JP¥") ∷
    ("en-mo" ⇒ "JP¥") ∷ ("en-ms" ⇒ "JP¥") ∷ ("en-mt" ⇒ "JP¥") ∷ ("en-mu" ⇒ "JP¥") ∷ ("en-mv" ⇒ "JP¥") ∷
    ("en-mw" ⇒ "JP¥") ∷ ("en-my" ⇒ "JP¥") ∷ ("en-na" ⇒ "JP¥") ∷ ("en-nf" ⇒ "JP¥") ∷ ("en-ng" ⇒ "JP¥") ∷
    ("en-nh" ⇒ "JP¥") ∷ ("en-nl" ⇒ "JP¥") ∷ ("en-no" ⇒ "JP¥") ∷ ("en-nr" ⇒ "JP¥") ∷ ("en-nu" ⇒ "JP¥") ∷
    ("en-nz" ⇒ "JP¥") ∷ ("en-pg" ⇒ "JP¥") ∷ ("en-pk" ⇒ "JP¥") ∷ ("en-pl" ⇒ "JP¥") ∷ ("en-pn" ⇒ "JP¥") ∷
    ("en-pt" ⇒ "JP¥") ∷ ("en-pw" ⇒ "JP¥") ∷ ("en-rh" ⇒ "JP¥") ∷ ("en-ro" ⇒ "JP¥") ∷ ("en-rw" ⇒ "JP¥") ∷
    ("en-sb" ⇒ "JP¥") ∷ ("en-sc" ⇒ "JP¥") ∷ ("en-sd" ⇒ "JP¥") ∷ ("en-se" ⇒ "JP¥") ∷ ("en-sg" ⇒ "JP¥") ∷
    ("en-sh" ⇒ "JP¥") ∷ ("en-si" ⇒ "JP¥") ∷ ("en-sk" ⇒ "JP¥") ∷ ("en-sl" ⇒ "JP¥") ∷ ("en-ss" ⇒ "JP¥") ∷
    ("en-sx" ⇒ "JP¥") ∷ ("en-sz" ⇒ "JP¥") ∷ ("en-tc" ⇒ "JP¥") ∷ ("en-tk" ⇒ "JP¥") ∷ ("en-to" ⇒ "JP¥") ∷
    ("en-tt" ⇒ "JP¥") ∷ ("en-tv" ⇒ "JP¥") ∷ ("en-tz" ⇒ "JP¥") ∷ ("en-ua" ⇒ "JP¥") ∷ ("en-ug" ⇒ "JP¥") ∷
    ("en-vc" ⇒ "JP¥") ∷ ("en-vg" ⇒ "JP¥") ∷ ("en-vu" ⇒ "JP¥") ∷ ("en-ws" ⇒ "JP¥") ∷ ("en-za" ⇒ "JP¥") ∷
    ("en-zm" ⇒ "JP¥") ∷ ("en-zw" ⇒ "JP¥") ∷ ("en" ⇒ "¥") ∷ ("eo" ⇒ "JPY") ∷ ("es-us" ⇒ "¥") ∷ ("es" ⇒ "JPY") ∷
    ("et" ⇒ "¥") ∷ ("fa" ⇒ "¥") ∷ ("fi" ⇒ "¥") ∷ ("fil" ⇒ "¥") ∷ ("fr-ca" ⇒ "¥") ∷ ("fr" ⇒ "JPY") ∷
    ("ga" ⇒ "¥") ∷ ("gsw" ⇒ "¥") ∷ ("ha" ⇒ "¥") ∷ ("he" ⇒ "¥") ∷ ("hr" ⇒ "JPY") ∷ ("hsb" ⇒ "¥") ∷ ("hu" ⇒ "¥") ∷
    ("ig" ⇒ "¥") ∷ ("it" ⇒ "JPY") ∷ ("iw" ⇒ "¥") ∷ ("ja" ⇒ "￥") ∷ ("ka" ⇒ "JPY") ∷ ("ks-deva" ⇒ "JP¥") ∷
    ("ks" ⇒ "¥") ∷ ("lb" ⇒ "¥") ∷ ("lt" ⇒ "JPY") ∷ ("lv" ⇒ "¥") ∷ ("mi" ⇒ "¥") ∷ ("mk" ⇒ "JPY") ∷ ("ml" ⇒ "¥") ∷
    ("mo" ⇒ "JPY") ∷ ("nb" ⇒ "JPY") ∷ ("nn" ⇒ "JPY") ∷ ("no" ⇒ "JPY") ∷ ("nqo" ⇒ "\u{7d7}߭\u{7d4}\u{7e6}") ∷
    ("or" ⇒ "¥") ∷ ("pl" ⇒ "JPY") ∷ ("ro" ⇒ "JPY") ∷ ("ru" ⇒ "¥") ∷ ("sd-deva" ⇒ "¥") ∷ ("sd-in" ⇒ "¥") ∷
    ("sh" ⇒ "¥") ∷ ("sk" ⇒ "JPY") ∷ ("sl" ⇒ "¥") ∷ ("sr" ⇒ "¥") ∷ ("su" ⇒ "¥") ∷ ("sv" ⇒ "JPY") ∷ ("ta" ⇒ "¥") ∷
    ("th" ⇒ "¥") ∷ ("ti" ⇒ "JPY") ∷ ("tl" ⇒ "¥") ∷ ("tr" ⇒ "¥") ∷ ("uk" ⇒ "¥") ∷ ("vec" ⇒ "JPY") ∷ ("vi" ⇒ "¥") ∷
    ("wae" ⇒ "¥") ∷ ("xh" ⇒ "¥") ∷ ("yue" ⇒ "¥") ∷ ("zh-hant" ⇒ "¥") ∷ ("zh-hk" ⇒ "¥") ∷ ("zh-mo" ⇒ "¥") ∷
    ("zh-tw" ⇒ "¥") ∷ []) [] ∷
    []

unfoldable pub currencies_10 : List Currency
currencies_10 =
    currency_row "KES" 2 "KES" (("brx" ⇒ "के.इ.एस") ∷ ("dav" ⇒ "Ksh") ∷ ("ebu" ⇒ "Ksh") ∷ ("en-ke" ⇒ "Ksh") ∷
    ("guz" ⇒ "Ksh") ∷ ("kam" ⇒ "Ksh") ∷ ("ki" ⇒ "Ksh") ∷ ("kln" ⇒ "Ksh") ∷ ("luo" ⇒ "Ksh") ∷ ("luy" ⇒ "Ksh") ∷
    ("mas" ⇒ "Ksh") ∷ ("mer" ⇒ "Ksh") ∷ ("nqo" ⇒ "\u{7de}\u{7cb}\u{7db}") ∷ ("om-ke" ⇒ "Ksh") ∷ ("saq" ⇒ "Ksh") ∷
    ("so-ke" ⇒ "Ksh") ∷ ("sw" ⇒ "Ksh") ∷ ("teo-ke" ⇒ "Ksh") ∷ []) [] ∷
    currency_row "KGS" 2 "KGS" (("brx" ⇒ "के.जि.एस") ∷ ("ky" ⇒ "сом") ∷ ("nqo" ⇒ "\u{7de}\u{7dc}߭\u{7db}") ∷
    ("ru-kg" ⇒ "сом") ∷ []) [] ∷
    currency_row "KHR" 2 "KHR" (("km" ⇒ "៛") ∷ ("nqo" ⇒ "\u{7de}\u{7d3}\u{7d9}") ∷ []) [] ∷
    currency_row "KMF" 0 "KMF" (("ar-km" ⇒ "CF") ∷ ("brx" ⇒ "के.एम.एफ") ∷ ("fr-km" ⇒ "CF") ∷
    ("nqo" ⇒ "\u{7de}\u{7e1}\u{7dd}") ∷ []) [] ∷
    currency_row "KPW" 0 "KPW" (("brx" ⇒ "के.पि.दब्ल्यु") ∷ ("nqo" ⇒ "\u{7de}\u{7de}\u{7e5}") ∷ []) [] ∷
    currency_row "KRW" 0 "₩" (("bg" ⇒ "KRW") ∷ ("br" ⇒ "KRW") ∷ ("cy" ⇒ "KRW") ∷ ("dz" ⇒ "KR₩") ∷
    ("en-au" ⇒ "KRW") ∷ ("eo" ⇒ "KRW") ∷ ("es" ⇒ "KRW") ∷ ("fi" ⇒ "KRW") ∷ ("fr-ca" ⇒ "KRW") ∷ ("hr" ⇒ "KRW") ∷
    ("hu" ⇒ "KRW") ∷ ("is" ⇒ "KRW") ∷ ("it" ⇒ "KRW") ∷ ("ka" ⇒ "KRW") ∷ ("ky" ⇒ "KRW") ∷ ("lt" ⇒ "KRW") ∷
    ("mk" ⇒ "KRW") ∷ ("mo" ⇒ "KRW") ∷ ("nb" ⇒ "KRW") ∷ ("nn" ⇒ "KRW") ∷ ("no" ⇒ "KRW") ∷ ("pl" ⇒ "KRW") ∷
    ("ro" ⇒ "KRW") ∷ ("sh" ⇒ "KRW") ∷ ("sk" ⇒ "KRW") ∷ ("sr" ⇒ "KRW") ∷ ("sv" ⇒ "KRW") ∷ ("uk" ⇒ "KRW") ∷
    ("vec" ⇒ "KRW") ∷ ("yue" ⇒ "￦") ∷ ("zh-hant-hk" ⇒ "₩") ∷ ("zh-hant-mo" ⇒ "₩") ∷ ("zh-hant" ⇒ "￦") ∷
    ("zh-tw" ⇒ "￦") ∷ []) [] ∷
    currency_row "KWD" 3 "KWD" (("ar" ⇒ "\u{62f}.\u{643}.\u{200f}") ∷ ("ars" ⇒ "\u{62f}.\u{643}.\u{200f}") ∷
    ("brx" ⇒ "के.दब्ल्यु.दि") ∷ ("nqo" ⇒ "\u{7de}\u{7e5}\u{7d8}") ∷ []) [] ∷
    currency_row "KYD" 2 "KYD" (("brx" ⇒ "के.वाई.दि") ∷ ("en-ky" ⇒ "$") ∷ ("nqo" ⇒ "\u{7de}\u{7cc}\u{7d8}") ∷ [])
    [] ∷
    currency_row "KZT" 2 "KZT" (("brx" ⇒ "के.जेत.ति") ∷ ("kk" ⇒ "₸") ∷ ("nqo" ⇒ "\u{7de}\u{7d7}߭\u{7d5}") ∷
    ("ru-kz" ⇒ "₸") ∷ []) [] ∷
    currency_row "LAK" 0 "LAK" (("lo" ⇒ "₭") ∷ ("nqo" ⇒ "\u{7df}\u{7ca}\u{7de}") ∷ []) [] ∷
    currency_row "LBP" 0 "LBP" (("ar" ⇒ "\u{644}.\u{644}.\u{200f}") ∷ ("ars" ⇒ "\u{644}.\u{644}.\u{200f}") ∷
    ("brx" ⇒ "एल.बि.पि") ∷ ("fr-ca" ⇒ "LBP") ∷ ("fr" ⇒ "£LB") ∷ ("nqo" ⇒ "\u{7df}\u{7d3}£") ∷ []) [] ∷
    currency_row "LKR" 2 "LKR" (("nqo" ⇒ "\u{7df}\u{7de}\u{7d9}") ∷ ("si" ⇒ "රු.") ∷ ("ta-lk" ⇒ "Rs.") ∷ []) [] ∷
    currency_row "LRD" 2 "LRD" (("brx" ⇒ "एल.आर.दि") ∷ ("en-lr" ⇒ "$") ∷ ("ff-adlm-lr" ⇒ "$") ∷
    ("ff-latn-lr" ⇒ "$") ∷ ("nqo" ⇒ "\u{7df}\u{7fe}") ∷ ("vai" ⇒ "$") ∷ []) [] ∷
    []

unfoldable pub currencies_11 : List Currency
currencies_11 =
    currency_row "LSL" 2 "LSL" (("brx" ⇒ "एल.एस.एल") ∷ ("kk-arab" ⇒ "LSL") ∷ ("kk" ⇒ "ЛСЛ") ∷ ("km" ⇒ "ឡូទី") ∷
    ("nqo" ⇒ "\u{7df}\u{7db}\u{7df}") ∷ ("st-ls" ⇒ "M") ∷ []) [] ∷
    currency_row "LUF" 0 "LUF" (("de-lu" ⇒ "F") ∷ ("fr-lu" ⇒ "F") ∷ ("pt-lu" ⇒ "F") ∷ []) (("de-lu" ⇒ "my") ∷ [])
    ∷
    currency_row "LVL" 2 "LVL" (("lv" ⇒ "Ls") ∷ []) [] ∷
    currency_row "LYD" 3 "LYD" (("ar" ⇒ "\u{62f}.\u{644}.\u{200f}") ∷ ("ars" ⇒ "\u{62f}.\u{644}.\u{200f}") ∷
    ("brx" ⇒ "एल.वाई.दि") ∷ ("nqo" ⇒ "\u{7df}\u{7d3}\u{7d8}") ∷ []) [] ∷
    currency_row "MAD" 2 "MAD" (("ar" ⇒ "\u{62f}.\u{645}.\u{200f}") ∷ ("ars" ⇒ "\u{62f}.\u{645}.\u{200f}") ∷
    ("brx" ⇒ "एम.ए.दि") ∷ ("nqo" ⇒ "\u{7e1}\u{7d8}\u{7e4}") ∷ []) [] ∷
    currency_row "MAF" 2 "MAF" (("nqo" ⇒ "\u{7e1}\u{7d9}\u{7dd}") ∷ []) [] ∷
    currency_row "MDL" 2 "MDL" (("brx" ⇒ "एम.डि.एल") ∷ ("nqo" ⇒ "\u{7e1}\u{7d8}\u{7df}") ∷ ("ro-md" ⇒ "L") ∷
    ("ru-md" ⇒ "L") ∷ ("wo" ⇒ "Vote MDL") ∷ []) [] ∷
    currency_row "MGA" 0 "MGA" (("brx" ⇒ "एम.जि.ए") ∷ ("en-mg" ⇒ "Ar") ∷ ("fr-mg" ⇒ "Ar") ∷ ("mg" ⇒ "Ar") ∷
    ("nqo" ⇒ "\u{7e1}\u{7d8}\u{7d9}") ∷ []) [] ∷
    currency_row "MGF" 0 "MGF" (("nqo" ⇒ "\u{7e1}\u{7d8}\u{7dd}") ∷ []) [] ∷
    currency_row "MKD" 2 "MKD" (("brx" ⇒ "एम.के.दि") ∷ ("mk" ⇒ "ден.") ∷ ("nqo" ⇒ "\u{7e1}\u{7de}\u{7d8}") ∷
    ("sq-mk" ⇒ "den") ∷ []) [] ∷
    currency_row "MLF" 2 "MLF" (("nqo" ⇒ "\u{7e1}\u{7dd}") ∷ []) [] ∷
    currency_row "MMK" 0 "MMK" (("my" ⇒ "K") ∷ ("nqo" ⇒ "\u{7e1}\u{7e1}\u{7de}") ∷ []) [] ∷
    currency_row "MNT" 2 "MNT" (("brx" ⇒ "एम.एन.ति") ∷ ("mn" ⇒ "₮") ∷ ("nqo" ⇒ "\u{7e1}\u{7e3}\u{7d5}") ∷ []) []
    ∷
    currency_row "MOP" 2 "MOP" (("brx" ⇒ "एम.अ.पि") ∷ ("en-mo" ⇒ "MOP$") ∷ ("nqo" ⇒ "\u{7e1}\u{7cf}\u{7d4}") ∷
    ("pt-mo" ⇒ "MOP$") ∷ ("zh-hans-mo" ⇒ "MOP$") ∷ ("zh-hant-mo" ⇒ "MOP$") ∷ ("zh-mo" ⇒ "MOP$") ∷ []) [] ∷
    currency_row "MRO" 0 "MRO" (("es-mx" ⇒ "MRU") ∷ ("nqo" ⇒ "\u{7e1}\u{7d9}\u{7cf}") ∷ []) [] ∷
    currency_row "MRU" 2 "MRU" (("ar" ⇒ "\u{623}.\u{645}.") ∷ ("ars" ⇒ "\u{623}.\u{645}.") ∷
    ("brx" ⇒ "एम.आर.इउ") ∷ ("es-mx" ⇒ "UM") ∷ ("ff-adlm-mr" ⇒ "UM") ∷ ("ff-latn-mr" ⇒ "UM") ∷ ("ff-mr" ⇒ "UM") ∷
    ("fr-mr" ⇒ "UM") ∷ ("nqo" ⇒ "\u{7e1}\u{7ce}\u{7dc}߭") ∷ []) [] ∷
    currency_row "MTP" 2 "MTP" (("fr" ⇒ "£MT") ∷ []) [] ∷
    currency_row "MUR" 2 "MUR" (("brx" ⇒ "एम.इउ.आर") ∷ ("en-mu" ⇒ "Rs") ∷ ("fr-mu" ⇒ "Rs") ∷ ("mfe" ⇒ "Rs") ∷
    ("nqo" ⇒ "\u{7e1}\u{7d9}\u{7d4}") ∷ []) [] ∷
    currency_row "MVR" 2 "MVR" (("en-mv" ⇒ "Rf") ∷ ("nqo" ⇒ "\u{7e1}\u{7dd}߭\u{7d9}") ∷ []) [] ∷
    currency_row "MWK" 2 "MWK" (("brx" ⇒ "एम.दब्ल्यु.के") ∷ ("en-mw" ⇒ "MK") ∷
    ("nqo" ⇒ "\u{7e1}\u{7df}\u{7de}") ∷ []) [] ∷
    []

unfoldable pub currencies_12 : List Currency
currencies_12 =
    currency_row "MXN" 2 "MX$" (("af" ⇒ "MXN") ∷ ("bg" ⇒ "MXN") ∷ ("brx" ⇒ "एम.एक्स $") ∷ ("bs-cyrl" ⇒ "MX$") ∷
    ("bs" ⇒ "MXN") ∷ ("ca" ⇒ "MXN") ∷ ("en-au" ⇒ "MXN") ∷ ("eo" ⇒ "MXN") ∷ ("es-mx" ⇒ "$") ∷ ("es" ⇒ "MXN") ∷
    ("fa" ⇒ "$MX") ∷ ("fi" ⇒ "MXN") ∷ ("fr-ca" ⇒ "MXN") ∷ ("fr" ⇒ "$MX") ∷ ("gl" ⇒ "$MX") ∷ ("hr" ⇒ "MXN") ∷
    ("hu" ⇒ "MXN") ∷ ("is" ⇒ "MXN") ∷ ("it" ⇒ "MXN") ∷ ("ky" ⇒ "MXN") ∷ ("lt" ⇒ "MXN") ∷ ("mo" ⇒ "MXN") ∷
    ("ms" ⇒ "MXN") ∷ ("nb" ⇒ "MXN") ∷ ("nn" ⇒ "MXN") ∷ ("no" ⇒ "MXN") ∷ ("nqo" ⇒ "\u{7e1}\u{7de}$") ∷
    ("pl" ⇒ "MXN") ∷ ("ro" ⇒ "MXN") ∷ ("sl" ⇒ "MXN") ∷ ("uk" ⇒ "MXN") ∷ ("vec" ⇒ "MXN") ∷ []) [] ∷
    currency_row "MYR" 2 "MYR" (("en-my" ⇒ "RM") ∷ ("ms" ⇒ "RM") ∷ ("nqo" ⇒ "\u{7e1}\u{7e6}\u{7d9}") ∷
    ("ta-my" ⇒ "RM") ∷ ("ta-sg" ⇒ "RM") ∷ []) [] ∷
    currency_row "MZE" 2 "MZE" (("nqo" ⇒ "\u{7e1}\u{7d6}߭\u{7cb}") ∷ []) [] ∷
    currency_row "MZM" 2 "MZM" (("nqo" ⇒ "\u{7e1}\u{7d6}\u{7e1}") ∷ []) [] ∷
    currency_row "MZN" 2 "MZN" (("brx" ⇒ "एम.जेत.एन") ∷ ("mgh" ⇒ "MTn") ∷ ("nqo" ⇒ "\u{7e1}\u{7d6}߭\u{7e1}") ∷
    ("pt-mz" ⇒ "MTn") ∷ ("seh" ⇒ "MTn") ∷ []) [] ∷
    currency_row "NAD" 2 "NAD" (("af-na" ⇒ "$") ∷ ("brx" ⇒ "एन.ए.दि") ∷ ("en-na" ⇒ "$") ∷ ("fr-ca" ⇒ "NAD") ∷
    ("fr" ⇒ "$NA") ∷ ("naq" ⇒ "$") ∷ ("nqo" ⇒ "\u{7e3}\u{7e1}\u{7d8}") ∷ []) [] ∷
    currency_row "NGN" 2 "NGN" (("brx" ⇒ "एन.जि.एन") ∷ ("en-ng" ⇒ "₦") ∷ ("ff-adlm-ng" ⇒ "₦") ∷
    ("ff-adlm" ⇒ "\u{1e910}\u{1e910}\u{1e918}") ∷ ("ff-latn-ng" ⇒ "₦") ∷ ("ha" ⇒ "₦") ∷ ("ig" ⇒ "₦") ∷
    ("nqo" ⇒ "\u{7d6}\u{7e3}") ∷ ("pcm" ⇒ "₦") ∷ ("wo" ⇒ "NGN.") ∷ ("yo" ⇒ "₦") ∷ []) [] ∷
    currency_row "NIO" 2 "NIO" (("brx" ⇒ "एन.आई.अ") ∷ ("es-ni" ⇒ "C$") ∷ ("nqo" ⇒ "\u{7e3}\u{7cc}\u{7cf}") ∷ [])
    [] ∷
    currency_row "NLG" 2 "NLG" (("ia" ⇒ "ƒ") ∷ []) [] ∷
    currency_row "NOK" 2 "NOK" (("brx" ⇒ "एन.अ.के") ∷ ("en-no" ⇒ "kr") ∷ ("nb" ⇒ "kr") ∷ ("nn" ⇒ "kr") ∷
    ("no" ⇒ "kr") ∷ ("nqo" ⇒ "\u{7e3}\u{7d0}\u{7de}") ∷ ("se-se" ⇒ "Nkr") ∷ ("se" ⇒ "kr") ∷ ("sv" ⇒ "Nkr") ∷ [])
    [] ∷
    currency_row "NPR" 2 "NPR" (("ne" ⇒ "नेरू") ∷ ("nqo" ⇒ "\u{7e3}\u{7d4}\u{7d9}") ∷ []) [] ∷
    []

unfoldable pub currencies_13 : List Currency
currencies_13 =
    currency_row "NZD" 2 "NZ$" (("be" ⇒ "NZD") ∷ ("bg" ⇒ "NZD") ∷ ("br" ⇒ "$ ZN") ∷ ("bs-cyrl" ⇒ "NZ$") ∷
    ("bs" ⇒ "NZD") ∷ ("en-au" ⇒ "NZD") ∷ ("en-ck" ⇒ "$") ∷ ("en-nu" ⇒ "$") ∷ ("en-nz" ⇒ "$") ∷ ("en-pn" ⇒ "$") ∷
    ("en-tk" ⇒ "$") ∷ ("eo" ⇒ "NZD") ∷ ("es" ⇒ "NZD") ∷ ("fa" ⇒ "$NZ") ∷ ("fi" ⇒ "NZD") ∷
    ("fr-ca" ⇒ "$\u{a0}NZ") ∷ ("fr" ⇒ "$NZ") ∷ ("hr" ⇒ "NZD") ∷ ("hu" ⇒ "NZD") ∷ ("is" ⇒ "NZD") ∷
    ("ka" ⇒ "NZD") ∷ ("ky" ⇒ "NZD") ∷ ("lt" ⇒ "NZD") ∷ ("mi" ⇒ "$") ∷ ("mk" ⇒ "NZD") ∷ ("mo" ⇒ "NZD") ∷
    ("nb" ⇒ "NZD") ∷ ("nn" ⇒ "NZD") ∷ ("no" ⇒ "NZD") ∷ ("nqo" ⇒ "$\u{7e3}\u{7d6}߭") ∷ ("pl" ⇒ "NZD") ∷
    ("ro" ⇒ "NZD") ∷ ("sh" ⇒ "NZD") ∷ ("sk" ⇒ "NZD") ∷ ("sl" ⇒ "NZD") ∷ ("sr" ⇒ "NZD") ∷ ("sv" ⇒ "NZD") ∷
    ("to" ⇒ "NZD$") ∷ ("uk" ⇒ "NZD") ∷ ("vec" ⇒ "NZD") ∷ []) [] ∷
    currency_row "OMR" 3 "OMR" (("ar" ⇒ "\u{631}.\u{639}.\u{200f}") ∷ ("ars" ⇒ "\u{631}.\u{639}.\u{200f}") ∷
    ("brx" ⇒ "अ.एम.आर") ∷ ("nqo" ⇒ "\u{7cf}\u{7e1}\u{7d9}") ∷ []) [] ∷
    currency_row "PAB" 2 "PAB" (("brx" ⇒ "पि.ए.बि") ∷ ("es-pa" ⇒ "B/.") ∷ ("my" ⇒ "B/.") ∷
    ("nqo" ⇒ "\u{7d4}\u{7ca}\u{7d3}") ∷ []) [] ∷
    currency_row "PEN" 2 "PEN" (("brx" ⇒ "पि.इ.एन") ∷ ("es-pe" ⇒ "S/") ∷ ("nqo" ⇒ "\u{7d4}\u{7cb}\u{7db}") ∷
    ("qu-bo" ⇒ "PEN") ∷ ("qu-ec" ⇒ "PEN") ∷ ("qu" ⇒ "S/") ∷ []) [] ∷
    currency_row "PGK" 2 "PGK" (("en-pg" ⇒ "K") ∷ ("ff-adlm" ⇒ "\u{1e911}\u{1e906}\u{1e918}") ∷
    ("nqo" ⇒ "\u{7d4}\u{7d6}\u{7de}") ∷ []) [] ∷
    []

unfoldable pub currencies_14 : List Currency
currencies_14 =
    currency_row "PHP" 2 "₱" (("af" ⇒ "PHP") ∷ ("am" ⇒ "PHP") ∷ ("ar" ⇒ "PHP") ∷ ("ars" ⇒ "PHP") ∷
    ("as" ⇒ "PHP") ∷ ("ast" ⇒ "PHP") ∷ ("az-cyrl" ⇒ "₱") ∷ ("az" ⇒ "PHP") ∷ ("be" ⇒ "PHP") ∷ ("bg" ⇒ "PHP") ∷
    ("bn" ⇒ "PHP") ∷ ("br" ⇒ "PHP") ∷ ("bs-cyrl" ⇒ "₱") ∷ ("bs" ⇒ "PHP") ∷ ("ca" ⇒ "PHP") ∷ ("ccp" ⇒ "PHP") ∷
    ("ce" ⇒ "PHP") ∷ ("chr" ⇒ "PHP") ∷ ("cs" ⇒ "PHP") ∷ ("cy" ⇒ "PHP") ∷ ("da" ⇒ "PHP") ∷ ("de" ⇒ "PHP") ∷
    ("el" ⇒ "PHP") ∷ ("en-au" ⇒ "PHP") ∷ ("eo" ⇒ "PHP") ∷ ("es-ph" ⇒ "₱") ∷ ("es" ⇒ "PHP") ∷ ("et" ⇒ "PHP") ∷
    ("eu" ⇒ "PHP") ∷ ("fa" ⇒ "PHP") ∷ ("ff-adlm" ⇒ "\u{1e906}\u{1e906}\u{1e916}") ∷ ("fi" ⇒ "PHP") ∷
    ("fo" ⇒ "PHP") ∷ ("fr" ⇒ "PHP") ∷ ("gd" ⇒ "PHP") ∷ ("gl" ⇒ "PHP") ∷ ("gu" ⇒ "PHP") ∷ ("he" ⇒ "PHP") ∷
    ("hi-latn" ⇒ "₱") ∷ ("hi" ⇒ "PHP") ∷ ("hr" ⇒ "PHP") ∷ ("hu" ⇒ "PHP") ∷ ("hy" ⇒ "PHP") ∷ ("id" ⇒ "PHP") ∷
    ("in" ⇒ "PHP") ∷ ("is" ⇒ "PHP") ∷ ("iw" ⇒ "PHP") ∷ ("ja" ⇒ "PHP") ∷ ("ka" ⇒ "PHP") ∷ ("kgp" ⇒ "PHP") ∷
    ("kk-arab" ⇒ "₱") ∷ ("kk" ⇒ "PHP") ∷ ("km" ⇒ "PHP") ∷ ("kn" ⇒ "PHP") ∷ ("ko" ⇒ "PHP") ∷ ("kok-latn" ⇒ "₱") ∷
    ("kok" ⇒ "PHP") ∷ ("ky" ⇒ "PHP") ∷ ("lb" ⇒ "PHP") ∷ ("lo" ⇒ "PHP") ∷ ("lt" ⇒ "PHP") ∷ ("lv" ⇒ "PHP") ∷
    ("mk" ⇒ "PHP") ∷ ("ml" ⇒ "PHP") ∷ ("mn" ⇒ "PHP") ∷ ("mo" ⇒ "PHP") ∷ ("mr" ⇒ "PHP") ∷ ("ms" ⇒ "PHP") ∷
    ("mt" ⇒ "PHP") ∷ ("mzn" ⇒ "PHP") ∷ ("nb" ⇒ "PHP") ∷ ("ne" ⇒ "PHP") ∷ ("nl" ⇒ "PHP") ∷ ("nn" ⇒ "PHP") ∷
    ("no" ⇒ "PHP") ∷ ("or" ⇒ "PHP") ∷ ("pa-arab" ⇒ "₱") ∷ ("pa-pk" ⇒ "₱") ∷ ("pa" ⇒ "PHP") ∷ ("pcm" ⇒ "PHP") ∷
    ("pl" ⇒ "PHP") ∷ ("pt" ⇒ "PHP") ∷ ("qu" ⇒ "PHP") ∷ ("ro" ⇒ "PHP") ∷ ("ru" ⇒ "PHP") ∷ ("sd-deva" ⇒ "₱") ∷
    ("sd-in" ⇒ "₱") ∷ ("sd" ⇒ "PHP") ∷ ("sh" ⇒ "PHP") ∷ ("si" ⇒ "PHP") ∷ ("sk" ⇒ "PHP") ∷ ("sl" ⇒ "PHP") ∷
    ("sq" ⇒ "PHP") ∷ ("sr" ⇒ "PHP") ∷ ("sv" ⇒ "PHP") ∷ ("sw" ⇒ "PHP") ∷ ("ta" ⇒ "PHP") ∷ ("te" ⇒ "PHP") ∷
    ("th" ⇒ "PHP") ∷ ("tk" ⇒ "PHP") ∷ ("tr" ⇒ "PHP") ∷ ("uk" ⇒ "PHP") ∷ ("ur" ⇒ "PHP") ∷ ("uz-af" ⇒ "₱") ∷
    ("uz-arab" ⇒ "₱") ∷ ("uz-cyrl" ⇒ "₱") ∷ ("uz" ⇒ "PHP") ∷ ("vec" ⇒ "PHP") ∷ ("vi" ⇒ "PHP") ∷ ("yrl" ⇒ "PHP") ∷
    ("yue" ⇒ "PHP") ∷ ("zh" ⇒ "PHP") ∷ ("zu" ⇒ "PHP") ∷ []) [] ∷
    []

unfoldable pub currencies_15 : List Currency
currencies_15 =
    currency_row "PKR" 0 "PKR" (("en-pk" ⇒ "Rs") ∷ ("nqo" ⇒ "\u{7d4}\u{7de}\u{7d9}") ∷ ("pa-arab" ⇒ "\u{631}") ∷
    ("pa-pk" ⇒ "\u{631}") ∷ ("ps-pk" ⇒ "Rs") ∷ ("sd-deva" ⇒ "PKR") ∷ ("sd-in" ⇒ "PKR") ∷ ("sd" ⇒ "Rs") ∷
    ("ur-in" ⇒ "PKR") ∷ ("ur" ⇒ "Rs") ∷ []) [] ∷
    currency_row "PLN" 2 "PLN" (("brx" ⇒ "पि.एल.एन") ∷ ("bs-cyrl" ⇒ "зл") ∷ ("dsb" ⇒ "zł") ∷ ("hsb" ⇒ "zł") ∷
    ("nqo" ⇒ "\u{7d4}\u{7df}\u{7d7}߭") ∷ ("pl" ⇒ "zł") ∷ ("szl" ⇒ "zł") ∷ []) [] ∷
    currency_row "PTE" 2 "PTE" (("kgp" ⇒ "Vẽj.") ∷ ("pt-ao" ⇒ "\u{200b}") ∷ ("pt-ch" ⇒ "\u{200b}") ∷
    ("pt-cv" ⇒ "PTE") ∷ ("pt-gq" ⇒ "\u{200b}") ∷ ("pt-gw" ⇒ "\u{200b}") ∷ ("pt-lu" ⇒ "\u{200b}") ∷
    ("pt-mo" ⇒ "\u{200b}") ∷ ("pt-mz" ⇒ "\u{200b}") ∷ ("pt-pt" ⇒ "\u{200b}") ∷ ("pt-st" ⇒ "\u{200b}") ∷
    ("pt-tl" ⇒ "\u{200b}") ∷ ("pt" ⇒ "Esc.") ∷ ("yrl" ⇒ "Esc.") ∷ []) (("pt-ao" ⇒ "pt-ao-pte") ∷
    ("pt-ch" ⇒ "pt-ao-pte") ∷ ("pt-gq" ⇒ "pt-ao-pte") ∷ ("pt-gw" ⇒ "pt-ao-pte") ∷ ("pt-lu" ⇒ "pt-ao-pte") ∷
    ("pt-mo" ⇒ "pt-ao-pte") ∷ ("pt-mz" ⇒ "pt-ao-pte") ∷ ("pt-pt" ⇒ "pt-ao-pte") ∷ ("pt-st" ⇒ "pt-ao-pte") ∷
    ("pt-tl" ⇒ "pt-ao-pte") ∷ []) ∷
    currency_row "PYG" 0 "PYG" (("brx" ⇒ "पि.आई.जि") ∷ ("es-py" ⇒ "Gs.") ∷ ("nqo" ⇒ "\u{7d4}\u{7d9}\u{7dc}߭") ∷
    []) [] ∷
    currency_row "QAR" 2 "QAR" (("ar" ⇒ "\u{631}.\u{642}.\u{200f}") ∷ ("ars" ⇒ "\u{631}.\u{642}.\u{200f}") ∷
    ("brx" ⇒ "किउ.ए.आर") ∷ ("nqo" ⇒ "\u{7de}\u{7ca}\u{7d9}") ∷ []) [] ∷
    currency_row "RHD" 2 "RHD" (("fr" ⇒ "$RH") ∷ ("nqo" ⇒ "\u{7d6}߭\u{7d3}\u{7d8}") ∷ []) [] ∷
    currency_row "RON" 2 "RON" (("brx" ⇒ "आर.अ.एन") ∷ ("kok-latn" ⇒ "RON") ∷ ("kok" ⇒ "रॉन") ∷
    ("nqo" ⇒ "\u{7d9}\u{7ce}\u{7df}") ∷ []) [] ∷
    currency_row "RSD" 2 "RSD" (("brx" ⇒ "आर.एस.दि") ∷ ("bs-cyrl" ⇒ "дин.") ∷ ("bs" ⇒ "din.") ∷
    ("nqo" ⇒ "\u{7d9}\u{7db}\u{7d8}") ∷ []) [] ∷
    currency_row "RUB" 2 "RUB" (("be" ⇒ "₽") ∷ ("brx" ⇒ "रूब") ∷ ("ce" ⇒ "₽") ∷ ("cv" ⇒ "₽") ∷ ("ia" ⇒ "₽") ∷
    ("kk-arab" ⇒ "RUB") ∷ ("kk" ⇒ "₽") ∷ ("nqo" ⇒ "\u{7cc}\u{7ce}\u{7d9}") ∷ ("os-ru" ⇒ "₽") ∷ ("ru" ⇒ "₽") ∷
    ("sah" ⇒ "₽") ∷ ("tt" ⇒ "₽") ∷ ("yo" ⇒ "₽") ∷ []) [] ∷
    currency_row "RUR" 2 "RUR" (("ba" ⇒ "р.") ∷ ("ru-by" ⇒ "RUR") ∷ ("ru" ⇒ "р.") ∷ []) [] ∷
    currency_row "RWF" 0 "RWF" (("en-rw" ⇒ "RF") ∷ ("fr-rw" ⇒ "RF") ∷ ("nqo" ⇒ "\u{7d9}\u{7e5}\u{7dd}") ∷
    ("rw" ⇒ "RF") ∷ []) [] ∷
    currency_row "SAR" 2 "SAR" (("ar" ⇒ "\u{631}.\u{633}.\u{200f}") ∷ ("ars" ⇒ "\u{631}.\u{633}.\u{200f}") ∷
    ("brx" ⇒ "एस.ए.आर") ∷ ("nqo" ⇒ "\u{7db}\u{7ca}\u{7d9}") ∷ []) [] ∷
    currency_row "SBD" 2 "SBD" (("en-sb" ⇒ "$") ∷ ("fr-ca" ⇒ "SBD") ∷ ("fr" ⇒ "$SB") ∷ ("fy" ⇒ "SI$") ∷
    ("nl" ⇒ "SI$") ∷ ("nqo" ⇒ "\u{7db}\u{7d3}\u{7d8}") ∷ []) [] ∷
    currency_row "SCR" 2 "SCR" (("brx" ⇒ "एस.सि.आर") ∷ ("en-au" ⇒ "Rs") ∷ ("en-sc" ⇒ "SR") ∷ ("fr-sc" ⇒ "SR") ∷
    ("nqo" ⇒ "\u{7db}\u{7db}\u{7e5}") ∷ ("yrl" ⇒ "SCRu") ∷ []) [] ∷
    []

unfoldable pub currencies_16 : List Currency
currencies_16 =
    currency_row "SDD" 2 "SDD" (("ar" ⇒ "\u{62f}.\u{633}.\u{200f}") ∷ ("ars" ⇒ "\u{62f}.\u{633}.\u{200f}") ∷
    ("nqo" ⇒ "\u{7db}\u{7d8}\u{7d8}") ∷ []) [] ∷
    currency_row "SDG" 2 "SDG" (("ar-lb" ⇒ "SDG") ∷ ("ar" ⇒ "\u{62c}.\u{633}.") ∷ ("ars" ⇒ "\u{62c}.\u{633}.") ∷
    ("brx" ⇒ "एस.दि.जि") ∷ ("nqo" ⇒ "\u{7db}\u{7d8}\u{7dc}߭") ∷ []) [] ∷
    currency_row "SDP" 2 "SDP" (("nqo" ⇒ "\u{7db}\u{7d8}\u{7d4}") ∷ []) [] ∷
    currency_row "SEK" 2 "SEK" (("brx" ⇒ "एस.इ.के") ∷ ("en-se" ⇒ "kr") ∷ ("nqo" ⇒ "\u{7db}\u{7e5}\u{7de}") ∷
    ("se-se" ⇒ "kr") ∷ ("se" ⇒ "Skr") ∷ ("sv" ⇒ "kr") ∷ []) [] ∷
    currency_row "SGD" 2 "SGD" (("en-sg" ⇒ "$") ∷ ("fr-ca" ⇒ "$\u{a0}SG") ∷ ("fr" ⇒ "$SG") ∷ ("ms-sg" ⇒ "$") ∷
    ("nqo" ⇒ "\u{7db}\u{7dc}߭\u{7d8}") ∷ ("ta-my" ⇒ "S$") ∷ ("ta-sg" ⇒ "$") ∷ ("zh-hans-sg" ⇒ "$") ∷
    ("zh-sg" ⇒ "$") ∷ []) [] ∷
    currency_row "SHP" 2 "SHP" (("brx" ⇒ "एस.ऐत्स.पि") ∷ ("en-sh" ⇒ "£") ∷ ("nqo" ⇒ "\u{7db}\u{7e4}\u{7d4}") ∷
    []) [] ∷
    currency_row "SLE" 2 "SLE" (("brx" ⇒ "एस.एल.इ") ∷ ("en-sl" ⇒ "Le") ∷ ("ff-adlm-sl" ⇒ "Le") ∷
    ("ff-latn-sl" ⇒ "Le") ∷ ("nqo" ⇒ "\u{7db}\u{7d9}\u{7d4}") ∷ []) [] ∷
    currency_row "SLL" 0 "SLL" (("brx" ⇒ "एस.एल.एल") ∷ ("nqo" ⇒ "\u{7db}\u{7df}\u{7df}") ∷ []) [] ∷
    currency_row "SOS" 0 "SOS" (("ar-so" ⇒ "S") ∷ ("brx" ⇒ "एस.अ.एस") ∷ ("nqo" ⇒ "\u{7db}\u{7e1}\u{7db}") ∷
    ("so" ⇒ "S") ∷ []) [] ∷
    currency_row "SRD" 2 "SRD" (("brx" ⇒ "एस.आर.डि") ∷ ("fr-ca" ⇒ "SRD") ∷ ("fr" ⇒ "$SR") ∷ ("nl-sr" ⇒ "$") ∷
    ("nqo" ⇒ "\u{7db}\u{7ce}\u{7d8}") ∷ []) [] ∷
    currency_row "SSP" 2 "SSP" (("ar-ss" ⇒ "£") ∷ ("brx" ⇒ "एस.एस.पि") ∷ ("en-ss" ⇒ "£") ∷
    ("nqo" ⇒ "\u{7db}\u{7db}\u{7d4}") ∷ ("nus" ⇒ "£") ∷ []) [] ∷
    currency_row "STD" 0 "STD" (("nqo" ⇒ "\u{7db}\u{7d5}\u{7d8}") ∷ []) [] ∷
    currency_row "STN" 2 "STN" (("brx" ⇒ "एस.ति.एन") ∷ ("nqo" ⇒ "\u{7db}\u{7d4}\u{7d8}") ∷ ("pt-st" ⇒ "Db") ∷ [])
    [] ∷
    currency_row "SYP" 0 "SYP" (("ar" ⇒ "\u{644}.\u{633}.\u{200f}") ∷ ("ars" ⇒ "\u{644}.\u{633}.\u{200f}") ∷
    ("brx" ⇒ "एस.वाई.पि") ∷ ("fr-sy" ⇒ "LS") ∷ ("nqo" ⇒ "\u{7db}\u{7cc}\u{7d4}") ∷
    ("syr" ⇒ "\u{644}.\u{633}.\u{200f}") ∷ []) [] ∷
    currency_row "SZL" 2 "SZL" (("brx" ⇒ "एस.जेत.एल") ∷ ("en-sz" ⇒ "E") ∷ ("nqo" ⇒ "\u{7db}\u{7d6}߭\u{7df}") ∷
    []) [] ∷
    []

unfoldable pub currencies_17 : List Currency
currencies_17 =
    currency_row "THB" 2 "THB" (("af" ⇒ "฿") ∷ ("am" ⇒ "฿") ∷ ("ar" ⇒ "฿") ∷ ("ars" ⇒ "฿") ∷ ("ast" ⇒ "฿") ∷
    ("az-cyrl" ⇒ "THB") ∷ ("az" ⇒ "฿") ∷ ("bn" ⇒ "฿") ∷ ("bs-cyrl" ⇒ "THB") ∷ ("bs" ⇒ "฿") ∷ ("ca" ⇒ "฿") ∷
    ("ccp" ⇒ "฿") ∷ ("cy" ⇒ "฿") ∷ ("da" ⇒ "฿") ∷ ("de" ⇒ "฿") ∷ ("dsb" ⇒ "฿") ∷ ("dz" ⇒ "TH฿") ∷ ("ee" ⇒ "฿") ∷
    ("el" ⇒ "฿") ∷ ("es-419" ⇒ "THB") ∷ ("es-ar" ⇒ "THB") ∷ ("es-bo" ⇒ "THB") ∷ ("es-br" ⇒ "THB") ∷
    ("es-bz" ⇒ "THB") ∷ ("es-cl" ⇒ "THB") ∷ ("es-co" ⇒ "THB") ∷ ("es-cr" ⇒ "THB") ∷ ("es-cu" ⇒ "THB") ∷
    ("es-do" ⇒ "THB") ∷ ("es-ec" ⇒ "THB") ∷ ("es-gt" ⇒ "THB") ∷ ("es-hn" ⇒ "THB") ∷ ("es-mx" ⇒ "THB") ∷
    ("es-ni" ⇒ "THB") ∷ ("es-pa" ⇒ "THB") ∷ ("es-pe" ⇒ "THB") ∷ ("es-pr" ⇒ "THB") ∷ ("es-py" ⇒ "THB") ∷
    ("es-sv" ⇒ "THB") ∷ ("es-us" ⇒ "THB") ∷ ("es-uy" ⇒ "THB") ∷ ("es-ve" ⇒ "THB") ∷ ("es" ⇒ "฿") ∷ ("et" ⇒ "฿") ∷
    ("eu" ⇒ "฿") ∷ ("fa" ⇒ "฿") ∷ ("fil" ⇒ "฿") ∷ ("fy" ⇒ "฿") ∷ ("ga" ⇒ "฿") ∷ ("gd" ⇒ "฿") ∷ ("gl" ⇒ "฿") ∷
    ("gu" ⇒ "฿") ∷ ("he" ⇒ "฿") ∷ ("hi-latn" ⇒ "THB") ∷ ("hi" ⇒ "฿") ∷ ("hsb" ⇒ "฿") ∷ ("hy" ⇒ "฿") ∷
    ("id" ⇒ "฿") ∷ ("in" ⇒ "฿") ∷ ("it" ⇒ "฿") ∷ ("iw" ⇒ "฿") ∷ ("kea" ⇒ "฿") ∷ ("kgp" ⇒ "฿") ∷
    ("kk-arab" ⇒ "THB") ∷ ("kk" ⇒ "฿") ∷ ("km" ⇒ "฿") ∷ ("kn" ⇒ "฿") ∷ ("ky" ⇒ "฿") ∷ ("lb" ⇒ "฿") ∷
    ("lo" ⇒ "฿") ∷ ("lv" ⇒ "฿") ∷ ("ml" ⇒ "฿") ∷ ("mn" ⇒ "฿") ∷ ("mr" ⇒ "฿") ∷ ("my" ⇒ "฿") ∷ ("ne" ⇒ "฿") ∷
    ("nl" ⇒ "฿") ∷ ("nqo" ⇒ "\u{7d5}\u{7d8}\u{7d3}") ∷ ("pa-arab" ⇒ "THB") ∷ ("pa-pk" ⇒ "THB") ∷ ("pa" ⇒ "฿") ∷
    ("pt" ⇒ "฿") ∷ ("ru" ⇒ "฿") ∷ ("se" ⇒ "฿") ∷ ("si" ⇒ "฿") ∷ ("sq" ⇒ "฿") ∷ ("sw" ⇒ "฿") ∷ ("ta" ⇒ "฿") ∷
    ("te" ⇒ "฿") ∷ ("th" ⇒ "฿") ∷ ("tl" ⇒ "฿") ∷ ("tr" ⇒ "฿") ∷ ("ur" ⇒ "฿") ∷ ("uz-cyrl" ⇒ "฿") ∷ ("vi" ⇒ "฿") ∷
    ("yrl" ⇒ "฿") ∷ ("zu" ⇒ "฿") ∷ []) [] ∷
    currency_row "TJS" 2 "TJS" (("brx" ⇒ "ति.जे.एस") ∷ ("nqo" ⇒ "\u{7d5}\u{7d6}\u{7db}") ∷ ("tg" ⇒ "сом.") ∷ [])
    [] ∷
    currency_row "TMM" 0 "TMM" [] [] ∷
    currency_row "TMT" 2 "TMT" (("brx" ⇒ "ति.एम.ति") ∷ ("nqo" ⇒ "\u{7d5}\u{7e1}\u{7d5}") ∷ ("ru" ⇒ "ТМТ") ∷ [])
    [] ∷
    currency_row "TND" 3 "TND" (("ar" ⇒ "\u{62f}.\u{62a}.\u{200f}") ∷ ("ars" ⇒ "\u{62f}.\u{62a}.\u{200f}") ∷
    ("brx" ⇒ "ति.एन.दि") ∷ ("fr-tn" ⇒ "DT") ∷ ("nqo" ⇒ "\u{7d5}\u{7e3}\u{7d8}") ∷ []) [] ∷
    currency_row "TOP" 2 "TOP" (("en-to" ⇒ "T$") ∷ ("nqo" ⇒ "\u{7d5}\u{7cf}\u{7d4}") ∷ ("to" ⇒ "T$") ∷ []) [] ∷
    currency_row "TRL" 0 "TRL" [] [] ∷
    []

unfoldable pub currencies_18 : List Currency
currencies_18 =
    currency_row "TRY" 2 "TRY" (("brx" ⇒ "ति.आर.वाई") ∷ ("bs-cyrl" ⇒ "Тл") ∷ ("ku" ⇒ "₺") ∷
    ("nqo" ⇒ "\u{7d5}\u{7ce}\u{7df}") ∷ ("tr" ⇒ "₺") ∷ []) [] ∷
    currency_row "TTD" 2 "TTD" (("brx" ⇒ "ति.ति.डि") ∷ ("en-tt" ⇒ "$") ∷ ("fr-ca" ⇒ "TTD") ∷ ("fr" ⇒ "$TT") ∷
    ("my" ⇒ "TT$") ∷ ("nqo" ⇒ "\u{7d5}\u{7d5}\u{7d8}") ∷ []) [] ∷
    currency_row "TWD" 2 "NT$" (("bg" ⇒ "TWD") ∷ ("br" ⇒ "TWD") ∷ ("brx" ⇒ "एन.ति$") ∷ ("en-au" ⇒ "TWD") ∷
    ("eo" ⇒ "TWD") ∷ ("es" ⇒ "TWD") ∷ ("fi" ⇒ "TWD") ∷ ("fr" ⇒ "TWD") ∷ ("hr" ⇒ "TWD") ∷ ("hu" ⇒ "TWD") ∷
    ("is" ⇒ "TWD") ∷ ("it" ⇒ "TWD") ∷ ("ky" ⇒ "TWD") ∷ ("lt" ⇒ "TWD") ∷ ("mk" ⇒ "TWD") ∷ ("mo" ⇒ "TWD") ∷
    ("nb" ⇒ "TWD") ∷ ("nn" ⇒ "TWD") ∷ ("no" ⇒ "TWD") ∷ ("nqo" ⇒ "\u{7d5}\u{7e5}\u{7d8}") ∷ ("pl" ⇒ "TWD") ∷
    ("ro" ⇒ "TWD") ∷ ("sk" ⇒ "TWD") ∷ ("sl" ⇒ "TWD") ∷ ("sv" ⇒ "TWD") ∷ ("uk" ⇒ "TWD") ∷ ("vec" ⇒ "TWD") ∷
    ("zh-hant-hk" ⇒ "NT$") ∷ ("zh-hant-mo" ⇒ "NT$") ∷ ("zh-hant" ⇒ "$") ∷ ("zh-tw" ⇒ "$") ∷ []) [] ∷
    currency_row "TZS" 2 "TZS" (("asa" ⇒ "TSh") ∷ ("bez" ⇒ "TSh") ∷ ("brx" ⇒ "ति.जेत.एस") ∷ ("en-tz" ⇒ "TSh") ∷
    ("jmc" ⇒ "TSh") ∷ ("kde" ⇒ "TSh") ∷ ("ksb" ⇒ "TSh") ∷ ("lag" ⇒ "TSh") ∷ ("mas-tz" ⇒ "TSh") ∷
    ("nqo" ⇒ "\u{7d5}\u{7d6}߭\u{7db}") ∷ ("rof" ⇒ "TSh") ∷ ("rwk" ⇒ "TSh") ∷ ("sbp" ⇒ "TSh") ∷ ("sw" ⇒ "TSh") ∷
    ("vun" ⇒ "TSh") ∷ []) [] ∷
    currency_row "UAH" 2 "UAH" (("brx" ⇒ "इउ.ए.ऐत्स") ∷ ("nqo" ⇒ "\u{7cc}\u{7de}\u{7e4}") ∷ ("ru" ⇒ "₴") ∷
    ("uk" ⇒ "₴") ∷ []) [] ∷
    currency_row "UAK" 2 "UAK" (("uk" ⇒ "крб.") ∷ []) [] ∷
    currency_row "UGS" 2 "UGS" (("nqo" ⇒ "\u{7ce}\u{7dc}߭\u{7e5}") ∷ []) [] ∷
    currency_row "UGX" 0 "UGX" (("brx" ⇒ "इउ.जि.एक्स") ∷ ("cgg" ⇒ "USh") ∷ ("en-ug" ⇒ "USh") ∷ ("lg" ⇒ "USh") ∷
    ("nqo" ⇒ "\u{7ce}\u{7dc}߭\u{7db}") ∷ ("nyn" ⇒ "USh") ∷ ("sw-ug" ⇒ "USh") ∷ ("teo" ⇒ "USh") ∷
    ("xog" ⇒ "USh") ∷ []) [] ∷
    []

unfoldable pub currencies_19 : List Currency
currencies_19 =
    currency_row "USD" 2 "US$" (("af" ⇒ "USD") ∷ ("ast" ⇒ "$") ∷ ("ba" ⇒ "$") ∷ ("be" ⇒ "$") ∷ ("bg" ⇒ "щ.д.") ∷
    ("bn-in" ⇒ "$") ∷ ("br" ⇒ "$ SU") ∷ ("brx" ⇒ "$") ∷ ("bs-cyrl" ⇒ "US$") ∷ ("bs" ⇒ "USD") ∷ ("ca" ⇒ "USD") ∷
    ("ceb" ⇒ "US $") ∷ ("chr" ⇒ "$") ∷ ("cv" ⇒ "$") ∷ ("de" ⇒ "$") ∷ ("doi" ⇒ "$") ∷ ("dsb" ⇒ "$") ∷
    ("el" ⇒ "$") ∷ ("en-001" ⇒ "US$") ∷ ("en-150" ⇒ "US$") ∷ ("en-ag" ⇒ "US$") ∷ ("en-ai" ⇒ "US$") ∷
    ("en-at" ⇒ "US$") ∷ ("en-au" ⇒ "USD") ∷ ("en-bb" ⇒ "US$") ∷ ("en-be" ⇒ "US$") ∷ ("en-bm" ⇒ "US$") ∷
    ("en-bs" ⇒ "US$") ∷ ("en-bw" ⇒ "US$") ∷ ("en-bz" ⇒ "US$") ∷ ("en-ca" ⇒ "US$") ∷ ("en-cc" ⇒ "US$") ∷
    ("en-ch" ⇒ "US$") ∷ ("en-ck" ⇒ "US$") ∷ ("en-cm" ⇒ "US$") ∷ ("en-cx" ⇒ "US$") ∷ ("en-cy" ⇒ "US$") ∷
    ("en-cz" ⇒ "US$") ∷ ("en-de" ⇒ "US$") ∷ ("en-dg" ⇒ "US$") ∷ ("en-dk" ⇒ "US$") ∷ ("en-dm" ⇒ "US$") ∷
    ("en-ee" ⇒ "US$") ∷ ("en-er" ⇒ "US$") ∷ ("en-es" ⇒ "US$") ∷ ("en-fi" ⇒ "US$") ∷ ("en-fj" ⇒ "US$") ∷
    ("en-fk" ⇒ "US$") ∷ ("en-fm" ⇒ "US$") ∷ ("en-fr" ⇒ "US$") ∷ ("en-gb" ⇒ "US$") ∷ ("en-gd" ⇒ "US$") ∷
    ("en-ge" ⇒ "US$") ∷ ("en-gg" ⇒ "US$") ∷ ("en-gh" ⇒ "US$") ∷ ("en-gi" ⇒ "US$") ∷ ("en-gm" ⇒ "US$") ∷
    ("en-gs" ⇒ "US$") ∷ ("en-gy" ⇒ "US$") ∷ ("en-hk" ⇒ "US$") ∷ ("en-hu" ⇒ "US$") ∷ ("en-id" ⇒ "US$") ∷
    ("en-ie" ⇒ "US$") ∷ ("en-il" ⇒ "US$") ∷ ("en-im" ⇒ "US$") ∷ ("en-io" ⇒ "US$") ∷ ("en-it" ⇒ "US$") ∷
    ("en-je" ⇒ "US$") ∷ ("en-jm" ⇒ "US$") ∷ ("en-ke" ⇒ "US$") ∷ ("en-ki" ⇒ "US$") ∷ ("en-kn" ⇒ "US$") ∷
    ("en-ky" ⇒ "US$") ∷ ("en-lc" ⇒ "US$") ∷ ("en-lr" ⇒ "US$") ∷ ("en-ls" ⇒ "US$") ∷ ("en-lt" ⇒ "US$") ∷
    ("en-lv" ⇒ "US$") ∷ ("en-mg" ⇒ "US$") ∷ ("en-mo" ⇒ "US$") ∷ ("en-ms" ⇒ "US$") ∷ ("en-mt" ⇒ "US$") ∷
    ("en-mu" ⇒ "US$") ∷ ("en-mv" ⇒ "US$") ∷ ("en-mw" ⇒ "US$") ∷ ("en-my" ⇒ "US$") ∷ ("en-na" ⇒ "US$") ∷
    ("en-nf" ⇒ "US$") ∷ ("en-ng" ⇒ "US$") ∷ ("en-nh" ⇒ "US$") ∷ ("en-nl" ⇒ "US$") ∷ ("en-no" ⇒ "US$") ∷
    ("en-nr" ⇒ "US$") ∷ ("en-nu" ⇒ "US$") ∷ ("en-nz" ⇒ "US$") ∷ ("en-pg" ⇒ "US$") ∷ ("en-pk" ⇒ "US$") ∷
    ("en-pl" ⇒ "US$") ∷ ("en-pn" ⇒ "US$") ∷ ("en-pt" ⇒ "US$") ∷ ("en-pw" ⇒ "US$") ∷ ("en-rh" ⇒ "US$") ∷
    ("en-ro" ⇒ "US$") ∷ ("en-rw" ⇒ "US$") ∷ ("en-sb" ⇒ "US$") ∷ ("en-sc" ⇒ "US$") ∷ ("en-sd" ⇒ "US$") ∷
    ("en-se" ⇒ "US$") ∷ ("en-sg" ⇒ "US$") ∷ ("en-sh" ⇒ "US$") ∷ ("en-si" ⇒ "US$") ∷ ("en-sk" ⇒ "US$") ∷
    ("en-sl" ⇒ "US$") ∷ ("en-ss" ⇒ "US$") ∷ ("en-sx" ⇒ "US$") ∷ ("en-sz" ⇒ "US$") ∷ ("en-tc" ⇒ "US$") ∷
    ("en-tk" ⇒ "US$") ∷ ("en-to" ⇒ "US$") ∷ ("en-tt" ⇒ "US$") ∷ ("en-tv" ⇒ "US$") ∷ ("en-tz" ⇒ "US$") ∷
    ("en-ua" ⇒ "US$") ∷ ("en-ug" ⇒ "US$") ∷ ("en-vc" ⇒ "US$") ∷ ("en-vg" ⇒ "US$") ∷ ("en-vu" ⇒ "US$") ∷
    ("en-ws" ⇒ "US$") ∷ ("en-za" ⇒ "US$") ∷ ("en-zm" ⇒ "US$") ∷ ("en-zw" ⇒ "US$") ∷ ("en" ⇒ "$") ∷
    ("eo" ⇒ "USD") ∷ ("es-419" ⇒ "USD") ∷ ("es-bo" ⇒ "USD") ∷ ("es-br" ⇒ "USD") ∷ ("es-bz" ⇒ "USD") ∷
    ("es-cr" ⇒ "USD") ∷ ("es-ec" ⇒ "$") ∷ ("es-gt" ⇒ "USD") ∷ ("es-hn" ⇒ "USD") ∷ ("es-mx" ⇒ "USD") ∷
    ("es-ni" ⇒ "USD") ∷ ("es-pa" ⇒ "USD") ∷ ("es-pe" ⇒ "USD") ∷ ("es-pr" ⇒ "$") ∷ ("es-py" ⇒ "USD") ∷
    ("es-sv" ⇒ "$") ∷ ("es-us" ⇒ "$") ∷ ("es-ve" ⇒ "USD") ∷ ("et" ⇒ "$") ∷ ("fa" ⇒ "$") ∷ ("fi" ⇒ "$") ∷
    ("fil" ⇒ "$") ∷ ("fr-ca" ⇒ "$\u{a0}US") ∷ ("fr" ⇒ "$US") ∷ ("ga" ⇒ "$") ∷ ("gd" ⇒ "$") ∷ ("gl" ⇒ "$") ∷
    ("gsw" ⇒ "$") ∷ ("ha" ⇒ "$") ∷ ("haw" ⇒ "$") ∷ ("he" ⇒ "$") ∷ ("hi" ⇒ "$") ∷ ("hr" ⇒ "USD") ∷ ("hsb" ⇒ "$") ∷
    ("hu" ⇒ "USD") ∷ ("hy" ⇒ "$") ∷ ("ig" ⇒ "$") ∷ ("is" ⇒ "USD") ∷ ("it" ⇒ "USD") ∷ ("iw" ⇒ "$") ∷
    ("ja" ⇒ "$") ∷ ("kk-arab" ⇒ "US$") ∷ ("kk" ⇒ "$") ∷ ("km" ⇒ "$") ∷ ("kn" ⇒ "$") ∷ ("ks" ⇒ "$") ∷
    ("ku" ⇒ "$") ∷ ("ky" ⇒ "USD") ∷ ("lb" ⇒ "$") ∷ ("lkt" ⇒ "$") ∷ ("lt" ⇒ "USD") ∷ ("lv" ⇒ "$") ∷
    ("mai" ⇒ "$") ∷ ("ml" ⇒ "$") ∷ ("mn" ⇒ "$") ∷ ("mni" ⇒ "$") ∷ ("mo" ⇒ "USD") ∷ ("mr" ⇒ "$") ∷
    ("ms" ⇒ "USD") ∷ ("mzn" ⇒ "$") ∷ ("nb" ⇒ "USD") ∷ ("nl-bq" ⇒ "$") ∷ ("nn" ⇒ "USD") ∷ ("no" ⇒ "USD") ∷
    ("nqo" ⇒ "\u{7ca}\u{7de}\u{7d8}$") ∷ ("or" ⇒ "$") ∷ ("os" ⇒ "$") ∷ ("pl" ⇒ "USD") ∷ ("ps" ⇒ "$") ∷
    ("qu-ec" ⇒ "$") ∷ ("qu" ⇒ "$US") ∷ ("rm" ⇒ "$") ∷ ("ro" ⇒ "USD") ∷ ("ru" ⇒ "$") ∷ ("sd-deva" ⇒ "$") ∷
    ("sd-in" ⇒ "$") ∷ ("sk" ⇒ "USD") ∷ ("sl" ⇒ "$") ∷ ("su" ⇒ "$") ∷ ("sw-ke" ⇒ "$") ∷ ("ta-sg" ⇒ "US$") ∷
    ("ta" ⇒ "$") ∷ ("te" ⇒ "$") ∷ ("tg" ⇒ "$") ∷ ("tl" ⇒ "$") ∷ ("tr" ⇒ "$") ∷ ("tt" ⇒ "$") ∷ ("ug" ⇒ "$") ∷
    ("uk" ⇒ "USD") ∷ ("ur" ⇒ "$") ∷ ("vec" ⇒ "USD") ∷ ("wae" ⇒ "$") ∷ ("wo" ⇒ "$") ∷ ("xh" ⇒ "$") ∷
    ("yo" ⇒ "$") ∷ ("zu" ⇒ "$") ∷ []) [] ∷
    []

unfoldable pub currencies_20 : List Currency
currencies_20 =
    currency_row "UYI" 0 "UYI" [] [] ∷
    currency_row "UYU" 2 "UYU" (("brx" ⇒ "इउ.वाई.इउ") ∷ ("es-uy" ⇒ "$") ∷ ("fr-ca" ⇒ "UYU") ∷ ("fr" ⇒ "$UY") ∷
    ("nqo" ⇒ "\u{7ce}߳\u{7d4}") ∷ []) [] ∷
    currency_row "UYW" 4 "UYW" (("es-uy" ⇒ "UP") ∷ []) [] ∷
    currency_row "UZS" 2 "UZS" (("brx" ⇒ "इउ.जेत.एस") ∷ ("nqo" ⇒ "\u{7ce}\u{7d7}߭\u{7db}") ∷ ("uz-af" ⇒ "UZS") ∷
    ("uz-arab" ⇒ "UZS") ∷ ("uz-cyrl" ⇒ "сўм") ∷ ("uz" ⇒ "soʻm") ∷ []) [] ∷
    currency_row "VEF" 2 "VEF" (("es-ve" ⇒ "Bs.") ∷ []) [] ∷
    currency_row "VES" 2 "VES" (("brx" ⇒ "भि.इ.एस") ∷ ("es-ve" ⇒ "Bs.S") ∷ ("nqo" ⇒ "\u{7dd}߭\u{7cb}\u{7d3}") ∷
    ("yrl" ⇒ "Bs.S") ∷ []) [] ∷
    currency_row "VND" 0 "₫" (("bg" ⇒ "VND") ∷ ("br" ⇒ "VND") ∷ ("cs" ⇒ "VND") ∷ ("en-au" ⇒ "VND") ∷
    ("eo" ⇒ "VND") ∷ ("es-419" ⇒ "VND") ∷ ("es-ar" ⇒ "VND") ∷ ("es-bo" ⇒ "VND") ∷ ("es-br" ⇒ "VND") ∷
    ("es-bz" ⇒ "VND") ∷ ("es-cl" ⇒ "VND") ∷ ("es-co" ⇒ "VND") ∷ ("es-cr" ⇒ "VND") ∷ ("es-cu" ⇒ "VND") ∷
    ("es-do" ⇒ "VND") ∷ ("es-ec" ⇒ "VND") ∷ ("es-gt" ⇒ "VND") ∷ ("es-hn" ⇒ "VND") ∷ ("es-mx" ⇒ "VND") ∷
    ("es-ni" ⇒ "VND") ∷ ("es-pa" ⇒ "VND") ∷ ("es-pe" ⇒ "VND") ∷ ("es-pr" ⇒ "VND") ∷ ("es-py" ⇒ "VND") ∷
    ("es-sv" ⇒ "VND") ∷ ("es-us" ⇒ "VND") ∷ ("es-uy" ⇒ "VND") ∷ ("es-ve" ⇒ "VND") ∷ ("fi" ⇒ "VND") ∷
    ("fr-ca" ⇒ "VND") ∷ ("hr" ⇒ "VND") ∷ ("hu" ⇒ "VND") ∷ ("is" ⇒ "VND") ∷ ("it" ⇒ "VND") ∷ ("ka" ⇒ "VND") ∷
    ("lt" ⇒ "VND") ∷ ("mk" ⇒ "VND") ∷ ("mo" ⇒ "VND") ∷ ("nb" ⇒ "VND") ∷ ("nn" ⇒ "VND") ∷ ("no" ⇒ "VND") ∷
    ("pl" ⇒ "VND") ∷ ("ro" ⇒ "VND") ∷ ("sh" ⇒ "VND") ∷ ("sk" ⇒ "VND") ∷ ("sr" ⇒ "VND") ∷ ("sv" ⇒ "VND") ∷
    ("uk" ⇒ "VND") ∷ ("vec" ⇒ "VND") ∷ []) [] ∷
    currency_row "VUV" 0 "VUV" (("en-nh" ⇒ "VT") ∷ ("en-vu" ⇒ "VT") ∷ ("fr-vu" ⇒ "VT") ∷
    ("nqo" ⇒ "\u{7dd}߭\u{7d5}\u{7dd}߭") ∷ []) [] ∷
    currency_row "WST" 2 "WST" (("en-ws" ⇒ "WS$") ∷ ("fr-ca" ⇒ "WST") ∷ ("fr" ⇒ "$WS") ∷
    ("nqo" ⇒ "$\u{7e5}\u{7db}") ∷ []) [] ∷
    currency_row "XAF" 0 "FCFA" (("dz" ⇒ "XAF") ∷ ("en-au" ⇒ "XAF") ∷ ("eo" ⇒ "XAF") ∷ ("es-gq" ⇒ "FCFA") ∷
    ("es" ⇒ "XAF") ∷ ("ff-adlm" ⇒ "\u{1e90a}\u{1e905}\u{1e90a}\u{1e900}") ∷ ("fr-ca" ⇒ "XAF") ∷ ("lt" ⇒ "XAF") ∷
    ("nb" ⇒ "XAF") ∷ ("nn" ⇒ "XAF") ∷ ("no" ⇒ "XAF") ∷ ("nqo" ⇒ "\u{7dd}\u{7db}\u{7dd}") ∷ ("vec" ⇒ "XAF") ∷
    ("yrl" ⇒ "FCF") ∷ []) [] ∷
    []

unfoldable pub currencies_21 : List Currency
currencies_21 =
    currency_row "XCD" 2 "EC$" (("bg" ⇒ "XCD") ∷ ("br" ⇒ "XCD") ∷ ("brx" ⇒ "इ.सि $") ∷ ("bs-cyrl" ⇒ "EC$") ∷
    ("bs" ⇒ "XCD") ∷ ("ca" ⇒ "XCD") ∷ ("en-ag" ⇒ "$") ∷ ("en-ai" ⇒ "$") ∷ ("en-au" ⇒ "XCD") ∷ ("en-dm" ⇒ "$") ∷
    ("en-gd" ⇒ "$") ∷ ("en-kn" ⇒ "$") ∷ ("en-lc" ⇒ "$") ∷ ("en-ms" ⇒ "$") ∷ ("en-vc" ⇒ "$") ∷ ("eo" ⇒ "XCD") ∷
    ("es" ⇒ "XCD") ∷ ("fa" ⇒ "$EC") ∷ ("fi" ⇒ "XCD") ∷ ("fr" ⇒ "XCD") ∷ ("gl" ⇒ "XCD") ∷ ("hr" ⇒ "XCD") ∷
    ("hu" ⇒ "XCD") ∷ ("ky" ⇒ "XCD") ∷ ("lt" ⇒ "XCD") ∷ ("mo" ⇒ "XCD") ∷ ("nb" ⇒ "XCD") ∷ ("nn" ⇒ "XCD") ∷
    ("no" ⇒ "XCD") ∷ ("nqo" ⇒ "\u{7db}\u{7df}\u{7d8}") ∷ ("ro" ⇒ "XCD") ∷ ("sl" ⇒ "XCD") ∷ ("uk" ⇒ "XCD") ∷
    ("vec" ⇒ "XCD") ∷ []) [] ∷
    currency_row "XCG" 2 "Cg." (("ca" ⇒ "XCG") ∷ ("en-ca" ⇒ "Cg") ∷ ("eo" ⇒ "XCG") ∷ ("gl" ⇒ "ƒ") ∷
    ("is" ⇒ "XCG") ∷ ("it" ⇒ "Cf") ∷ ("ja" ⇒ "Cg") ∷ ("pl" ⇒ "XCG") ∷ ("ru" ⇒ "Cg") ∷ ("sk" ⇒ "Cg") ∷
    ("sq" ⇒ "ANG") ∷ ("sv" ⇒ "XCG") ∷ ("tk" ⇒ "Kg.") ∷ ("vec" ⇒ "Cf") ∷ ("xh" ⇒ "ICg.") ∷ []) [] ∷
    currency_row "XDR" 2 "XDR" (("sc" ⇒ "DIP") ∷ []) [] ∷
    currency_row "XEU" 2 "XEU" (("cs" ⇒ "ECU") ∷ []) [] ∷
    currency_row "XOF" 0 "F\u{202f}CFA" (("ak" ⇒ "AAS") ∷ ("ba" ⇒ "F CFA") ∷ ("en-au" ⇒ "XOF") ∷ ("eo" ⇒ "XOF") ∷
    ("es" ⇒ "XOF") ∷ ("fa" ⇒ "\u{641}\u{631}\u{627}\u{646}\u{6a9}\u{202f}CFA") ∷
    ("ff-adlm" ⇒ "\u{1e905}\u{1e90a}\u{1e900}") ∷ ("fr-ca" ⇒ "XOF") ∷ ("kgp" ⇒ "CFA") ∷ ("lt" ⇒ "XOF") ∷
    ("nqo" ⇒ "\u{7fe}") ∷ ("si" ⇒ "සිෆ්එ") ∷ ("vec" ⇒ "XOF") ∷ ("yrl" ⇒ "CFA") ∷ []) [] ∷
    currency_row "XPF" 0 "CFPF" (("bs-cyrl" ⇒ "CFPF") ∷ ("bs" ⇒ "XPF") ∷ ("en-au" ⇒ "CFP") ∷ ("eo" ⇒ "XPF") ∷
    ("fi" ⇒ "XPF") ∷ ("fr-ca" ⇒ "XPF") ∷ ("fr" ⇒ "FCFP") ∷ ("fy" ⇒ "XPF") ∷ ("hr" ⇒ "XPF") ∷ ("lt" ⇒ "XPF") ∷
    ("nb" ⇒ "XPF") ∷ ("nl" ⇒ "XPF") ∷ ("nn" ⇒ "XPF") ∷ ("no" ⇒ "XPF") ∷
    ("nqo" ⇒ "\u{7fe} \u{7dd}\u{7db}\u{7dd}") ∷ ("vec" ⇒ "XPF") ∷ ("yrl" ⇒ "CFP") ∷ []) [] ∷
    currency_row "XXX" 2 "¤" (("ast" ⇒ "XXX") ∷ ("br" ⇒ "XXX") ∷ ("ca" ⇒ "XXX") ∷ ("cs" ⇒ "XXX") ∷
    ("cy" ⇒ "XXX") ∷ ("de" ⇒ "XXX") ∷ ("fi" ⇒ "XXX") ∷ ("ga" ⇒ "XXX") ∷ ("gd" ⇒ "XXX") ∷ ("hr" ⇒ "XXX") ∷
    ("id" ⇒ "XXX") ∷ ("in" ⇒ "XXX") ∷ ("ja" ⇒ "XXX") ∷ ("nb" ⇒ "XXX") ∷ ("nl" ⇒ "XXX") ∷ ("nn" ⇒ "XXX") ∷
    ("no" ⇒ "XXX") ∷ ("pa-arab" ⇒ "¤") ∷ ("pa-pk" ⇒ "¤") ∷ ("pa" ⇒ "XXX") ∷ ("ru" ⇒ "XXXX") ∷ ("sk" ⇒ "XXX") ∷
    ("th" ⇒ "XXX") ∷ ("vi" ⇒ "XXX") ∷ ("yue" ⇒ "XXX") ∷ ("zh" ⇒ "XXX") ∷ []) [] ∷
    []

unfoldable pub currencies_22 : List Currency
currencies_22 =
    currency_row "YER" 0 "YER" (("ar" ⇒ "\u{631}.\u{64a}.\u{200f}") ∷ ("ars" ⇒ "\u{631}.\u{64a}.\u{200f}") ∷
    ("brx" ⇒ "वाई.इ.आर") ∷ ("nqo" ⇒ "\u{7e6}\u{7e1}\u{7d9}") ∷ []) [] ∷
    currency_row "ZAR" 2 "ZAR" (("af" ⇒ "R") ∷ ("brx" ⇒ "जेत.ए.आर") ∷ ("en-ls" ⇒ "R") ∷ ("en-za" ⇒ "R") ∷
    ("nqo" ⇒ "\u{7e5}\u{7dd}\u{7d9}") ∷ ("nso" ⇒ "R") ∷ ("st" ⇒ "R") ∷ ("tn" ⇒ "R") ∷ ("xh" ⇒ "R") ∷
    ("zu" ⇒ "R") ∷ []) [] ∷
    currency_row "ZMK" 0 "ZMK" (("kgp" ⇒ "SMK") ∷ ("nqo" ⇒ "\u{7d6}߭\u{7d3}\u{7de}") ∷ []) [] ∷
    currency_row "ZMW" 2 "ZMW" (("bem" ⇒ "K") ∷ ("en-zm" ⇒ "K") ∷ ("nqo" ⇒ "\u{7d6}߭\u{7d3}\u{7e5}") ∷ []) [] ∷
    currency_row "ZRN" 2 "ZRN" (("nqo" ⇒ "\u{7d6}߭\u{7d9}") ∷ []) [] ∷
    currency_row "ZRZ" 2 "ZRZ" (("nqo" ⇒ "\u{7d6}߭\u{7d9}\u{7d6}߭") ∷ []) [] ∷
    currency_row "ZWD" 0 "ZWD" (("nqo" ⇒ "\u{7d6}߭\u{7e5}\u{7d8}") ∷ []) [] ∷
    currency_row "ZWG" 2 "ZWG" (("nl" ⇒ "ZiG") ∷ ("xh" ⇒ "IZWG") ∷ []) [] ∷
    currency_row "ZWL" 2 "ZWL" (("nqo" ⇒ "\u{7d6}߭\u{7e5}\u{7df}") ∷ []) [] ∷
    currency_row "ZWR" 2 "ZWR" (("nqo" ⇒ "\u{7d6}߭\u{7e5}\u{7d9}") ∷ []) [] ∷
    []

-- the currency of this code, if it has a row
abbrev pub currency_of : Text → Option Currency
currency_of code = or_else (coded currencies_1 code) (or_else (coded currencies_2 code) (or_else (coded currencies_3 code) (or_else (coded currencies_4 code) (or_else (coded currencies_5 code) (or_else (coded currencies_6 code) (or_else (coded currencies_7 code) (or_else (coded currencies_8 code) (or_else (coded currencies_9 code) (or_else (coded currencies_10 code) (or_else (coded currencies_11 code) (or_else (coded currencies_12 code) (or_else (coded currencies_13 code) (or_else (coded currencies_14 code) (or_else (coded currencies_15 code) (or_else (coded currencies_16 code) (or_else (coded currencies_17 code) (or_else (coded currencies_18 code) (or_else (coded currencies_19 code) (or_else (coded currencies_20 code) (or_else (coded currencies_21 code) ((coded currencies_22 code))))))))))))))))))))))
