-- Written by tools/dates from Unicode CLDR 48. Do not edit.
-- The tags, and the numbers of their rows. A longer tag is before one that it begins with.
use Rattle.std.specs.Prelude.{ℕ, List, [], ◌∷◌, Option}
use Rattle.fluent_date_tables.specs.Tables.{Text, Tagged, ◌⇒◌, first_in}

unfoldable pub tags_a : List Tagged
tags_a =
    ("af-na" ⇒ 249) ∷ ("af" ⇒ 1) ∷ ("agq" ⇒ 2) ∷ ("ak" ⇒ 3) ∷ ("am" ⇒ 4) ∷ ("ar-bh" ⇒ 250) ∷ ("ar-dj" ⇒ 250) ∷
    ("ar-dz" ⇒ 251) ∷ ("ar-eg" ⇒ 250) ∷ ("ar-er" ⇒ 250) ∷ ("ar-il" ⇒ 252) ∷ ("ar-iq" ⇒ 253) ∷ ("ar-jo" ⇒ 254) ∷
    ("ar-km" ⇒ 255) ∷ ("ar-kw" ⇒ 250) ∷ ("ar-lb" ⇒ 254) ∷ ("ar-ly" ⇒ 256) ∷ ("ar-ma" ⇒ 257) ∷ ("ar-mr" ⇒ 258) ∷
    ("ar-om" ⇒ 250) ∷ ("ar-ps" ⇒ 254) ∷ ("ar-qa" ⇒ 250) ∷ ("ar-sa" ⇒ 259) ∷ ("ar-sd" ⇒ 250) ∷ ("ar-so" ⇒ 250) ∷
    ("ar-ss" ⇒ 250) ∷ ("ar-sy" ⇒ 254) ∷ ("ar-td" ⇒ 250) ∷ ("ar-tn" ⇒ 251) ∷ ("ar-ye" ⇒ 250) ∷ ("ar" ⇒ 5) ∷
    ("ars" ⇒ 6) ∷ ("as" ⇒ 7) ∷ ("asa" ⇒ 8) ∷ ("ast" ⇒ 9) ∷ ("az-cyrl" ⇒ 260) ∷ ("az" ⇒ 10) ∷
    []

unfoldable pub tags_b : List Tagged
tags_b =
    ("ba" ⇒ 11) ∷ ("bas" ⇒ 12) ∷ ("be" ⇒ 13) ∷ ("bem" ⇒ 14) ∷ ("bez" ⇒ 15) ∷ ("bg" ⇒ 16) ∷ ("bgc" ⇒ 17) ∷
    ("bho" ⇒ 18) ∷ ("blo" ⇒ 19) ∷ ("bm" ⇒ 20) ∷ ("bn-in" ⇒ 261) ∷ ("bn" ⇒ 21) ∷ ("bo-in" ⇒ 262) ∷ ("bo" ⇒ 22) ∷
    ("br" ⇒ 23) ∷ ("brx" ⇒ 24) ∷ ("bs-cyrl" ⇒ 263) ∷ ("bs" ⇒ 25) ∷ ("bua" ⇒ 26) ∷
    []

unfoldable pub tags_c : List Tagged
tags_c =
    ("ca" ⇒ 27) ∷ ("ccp" ⇒ 28) ∷ ("ce" ⇒ 29) ∷ ("ceb" ⇒ 30) ∷ ("cgg" ⇒ 31) ∷ ("chr" ⇒ 32) ∷ ("ckb-ir" ⇒ 264) ∷
    ("ckb" ⇒ 33) ∷ ("cs" ⇒ 34) ∷ ("csw" ⇒ 35) ∷ ("cv" ⇒ 36) ∷ ("cy" ⇒ 37) ∷
    []

unfoldable pub tags_d : List Tagged
tags_d =
    ("da" ⇒ 38) ∷ ("dav" ⇒ 39) ∷ ("de-at" ⇒ 265) ∷ ("de-ch" ⇒ 266) ∷ ("de-it" ⇒ 265) ∷ ("de-li" ⇒ 267) ∷
    ("de-lu" ⇒ 268) ∷ ("de" ⇒ 40) ∷ ("dje" ⇒ 41) ∷ ("doi" ⇒ 42) ∷ ("dsb" ⇒ 43) ∷ ("dua" ⇒ 44) ∷ ("dyo" ⇒ 45) ∷
    ("dz" ⇒ 46) ∷
    []

unfoldable pub tags_e : List Tagged
tags_e =
    ("ebu" ⇒ 47) ∷ ("ee-tg" ⇒ 269) ∷ ("ee" ⇒ 48) ∷ ("el" ⇒ 49) ∷ ("en-001" ⇒ 270) ∷ ("en-150" ⇒ 271) ∷
    ("en-ae" ⇒ 272) ∷ ("en-ag" ⇒ 270) ∷ ("en-ai" ⇒ 271) ∷ ("en-at" ⇒ 273) ∷ ("en-au" ⇒ 274) ∷ ("en-bb" ⇒ 270) ∷
    ("en-be" ⇒ 275) ∷ ("en-bi" ⇒ 276) ∷ ("en-bm" ⇒ 270) ∷ ("en-bs" ⇒ 270) ∷ ("en-bw" ⇒ 277) ∷ ("en-bz" ⇒ 278) ∷
    ("en-ca" ⇒ 279) ∷ ("en-cc" ⇒ 271) ∷ ("en-ch" ⇒ 280) ∷ ("en-ck" ⇒ 271) ∷ ("en-cm" ⇒ 271) ∷ ("en-cx" ⇒ 271) ∷
    ("en-cy" ⇒ 270) ∷ ("en-cz" ⇒ 273) ∷ ("en-de" ⇒ 273) ∷ ("en-dg" ⇒ 271) ∷ ("en-dk" ⇒ 281) ∷ ("en-dm" ⇒ 270) ∷
    ("en-ee" ⇒ 273) ∷ ("en-er" ⇒ 270) ∷ ("en-es" ⇒ 273) ∷ ("en-fi" ⇒ 282) ∷ ("en-fj" ⇒ 270) ∷ ("en-fk" ⇒ 271) ∷
    ("en-fm" ⇒ 270) ∷ ("en-fr" ⇒ 273) ∷ ("en-gb" ⇒ 283) ∷ ("en-gd" ⇒ 270) ∷ ("en-ge" ⇒ 273) ∷ ("en-gg" ⇒ 271) ∷
    ("en-gh" ⇒ 270) ∷ ("en-gi" ⇒ 271) ∷ ("en-gm" ⇒ 270) ∷ ("en-gs" ⇒ 271) ∷ ("en-gy" ⇒ 270) ∷ ("en-hk" ⇒ 284) ∷
    ("en-hu" ⇒ 273) ∷ ("en-id" ⇒ 285) ∷ ("en-ie" ⇒ 286) ∷ ("en-il" ⇒ 287) ∷ ("en-im" ⇒ 271) ∷ ("en-in" ⇒ 288) ∷
    ("en-io" ⇒ 271) ∷ ("en-it" ⇒ 273) ∷ ("en-je" ⇒ 271) ∷ ("en-jm" ⇒ 270) ∷ ("en-jp" ⇒ 289) ∷ ("en-ke" ⇒ 271) ∷
    ("en-ki" ⇒ 270) ∷ ("en-kn" ⇒ 270) ∷ ("en-ky" ⇒ 270) ∷ ("en-lc" ⇒ 270) ∷ ("en-lr" ⇒ 270) ∷ ("en-ls" ⇒ 270) ∷
    ("en-lt" ⇒ 273) ∷ ("en-lv" ⇒ 273) ∷ ("en-mg" ⇒ 271) ∷ ("en-mo" ⇒ 270) ∷ ("en-ms" ⇒ 271) ∷ ("en-mt" ⇒ 290) ∷
    ("en-mu" ⇒ 271) ∷ ("en-mv" ⇒ 291) ∷ ("en-mw" ⇒ 270) ∷ ("en-my" ⇒ 270) ∷ ("en-na" ⇒ 270) ∷ ("en-nf" ⇒ 271) ∷
    ("en-ng" ⇒ 271) ∷ ("en-nh" ⇒ 270) ∷ ("en-nl" ⇒ 273) ∷ ("en-no" ⇒ 273) ∷ ("en-nr" ⇒ 271) ∷ ("en-nu" ⇒ 271) ∷
    ("en-nz" ⇒ 292) ∷ ("en-pg" ⇒ 270) ∷ ("en-pk" ⇒ 293) ∷ ("en-pl" ⇒ 273) ∷ ("en-pn" ⇒ 271) ∷ ("en-pt" ⇒ 273) ∷
    ("en-pw" ⇒ 270) ∷ ("en-rh" ⇒ 294) ∷ ("en-ro" ⇒ 273) ∷ ("en-rw" ⇒ 271) ∷ ("en-sb" ⇒ 270) ∷ ("en-sc" ⇒ 271) ∷
    ("en-sd" ⇒ 270) ∷ ("en-se" ⇒ 295) ∷ ("en-sg" ⇒ 296) ∷ ("en-sh" ⇒ 271) ∷ ("en-si" ⇒ 273) ∷ ("en-sk" ⇒ 273) ∷
    ("en-sl" ⇒ 270) ∷ ("en-ss" ⇒ 270) ∷ ("en-sx" ⇒ 271) ∷ ("en-sz" ⇒ 270) ∷ ("en-tc" ⇒ 270) ∷ ("en-tk" ⇒ 271) ∷
    ("en-to" ⇒ 270) ∷ ("en-tt" ⇒ 270) ∷ ("en-tv" ⇒ 271) ∷ ("en-tz" ⇒ 271) ∷ ("en-ua" ⇒ 273) ∷ ("en-ug" ⇒ 271) ∷
    ("en-vc" ⇒ 270) ∷ ("en-vg" ⇒ 270) ∷ ("en-vu" ⇒ 270) ∷ ("en-ws" ⇒ 270) ∷ ("en-za" ⇒ 297) ∷ ("en-zm" ⇒ 270) ∷
    ("en-zw" ⇒ 294) ∷ ("en" ⇒ 50) ∷ ("eo" ⇒ 51) ∷ ("es-419" ⇒ 298) ∷ ("es-ar" ⇒ 299) ∷ ("es-bo" ⇒ 300) ∷
    ("es-br" ⇒ 301) ∷ ("es-bz" ⇒ 301) ∷ ("es-cl" ⇒ 302) ∷ ("es-co" ⇒ 303) ∷ ("es-cr" ⇒ 304) ∷ ("es-cu" ⇒ 298) ∷
    ("es-do" ⇒ 305) ∷ ("es-ec" ⇒ 304) ∷ ("es-gt" ⇒ 306) ∷ ("es-hn" ⇒ 307) ∷ ("es-mx" ⇒ 308) ∷ ("es-ni" ⇒ 309) ∷
    ("es-pa" ⇒ 310) ∷ ("es-pe" ⇒ 311) ∷ ("es-ph" ⇒ 312) ∷ ("es-pr" ⇒ 313) ∷ ("es-py" ⇒ 314) ∷ ("es-sv" ⇒ 315) ∷
    ("es-us" ⇒ 316) ∷ ("es-uy" ⇒ 317) ∷ ("es-ve" ⇒ 314) ∷ ("es" ⇒ 52) ∷ ("et" ⇒ 53) ∷ ("eu" ⇒ 54) ∷ ("ewo" ⇒ 55) ∷
    []

unfoldable pub tags_f : List Tagged
tags_f =
    ("fa-af" ⇒ 318) ∷ ("fa" ⇒ 56) ∷ ("ff-adlm-gh" ⇒ 384) ∷ ("ff-adlm-gm" ⇒ 384) ∷ ("ff-adlm-lr" ⇒ 384) ∷
    ("ff-adlm-mr" ⇒ 384) ∷ ("ff-adlm-sl" ⇒ 384) ∷ ("ff-adlm" ⇒ 319) ∷ ("ff-gh" ⇒ 320) ∷ ("ff-gm" ⇒ 320) ∷
    ("ff-latn-gh" ⇒ 320) ∷ ("ff-latn-gm" ⇒ 320) ∷ ("ff-latn-lr" ⇒ 320) ∷ ("ff-latn-mr" ⇒ 320) ∷
    ("ff-latn-sl" ⇒ 320) ∷ ("ff-lr" ⇒ 320) ∷ ("ff-mr" ⇒ 320) ∷ ("ff-sl" ⇒ 320) ∷ ("ff" ⇒ 57) ∷ ("fi" ⇒ 58) ∷
    ("fil" ⇒ 59) ∷ ("fo" ⇒ 60) ∷ ("fr-be" ⇒ 321) ∷ ("fr-ca" ⇒ 322) ∷ ("fr-ch" ⇒ 323) ∷ ("fr-cm" ⇒ 324) ∷
    ("fr-dj" ⇒ 325) ∷ ("fr-dz" ⇒ 325) ∷ ("fr-ht" ⇒ 326) ∷ ("fr-ma" ⇒ 327) ∷ ("fr-mr" ⇒ 325) ∷ ("fr-re" ⇒ 328) ∷
    ("fr-sn" ⇒ 328) ∷ ("fr-sy" ⇒ 325) ∷ ("fr-td" ⇒ 325) ∷ ("fr-tn" ⇒ 325) ∷ ("fr-vu" ⇒ 325) ∷ ("fr" ⇒ 61) ∷
    ("fur" ⇒ 62) ∷ ("fy" ⇒ 63) ∷
    []

unfoldable pub tags_g : List Tagged
tags_g =
    ("ga" ⇒ 64) ∷ ("gaa" ⇒ 65) ∷ ("gd" ⇒ 66) ∷ ("gl" ⇒ 67) ∷ ("gsw" ⇒ 68) ∷ ("gu" ⇒ 69) ∷ ("guz" ⇒ 70) ∷
    ("gv" ⇒ 71) ∷
    []

unfoldable pub tags_h : List Tagged
tags_h =
    ("ha-gh" ⇒ 329) ∷ ("ha" ⇒ 72) ∷ ("haw" ⇒ 73) ∷ ("he" ⇒ 74) ∷ ("hi-latn" ⇒ 330) ∷ ("hi" ⇒ 75) ∷ ("hr-ba" ⇒ 331) ∷
    ("hr" ⇒ 76) ∷ ("hsb" ⇒ 77) ∷ ("hu" ⇒ 78) ∷ ("hy" ⇒ 79) ∷
    []

unfoldable pub tags_i : List Tagged
tags_i =
    ("ia" ⇒ 80) ∷ ("id" ⇒ 81) ∷ ("ie" ⇒ 82) ∷ ("ig" ⇒ 83) ∷ ("ii" ⇒ 84) ∷ ("in" ⇒ 85) ∷ ("is" ⇒ 86) ∷
    ("it-ch" ⇒ 332) ∷ ("it" ⇒ 87) ∷ ("iw" ⇒ 88) ∷
    []

unfoldable pub tags_j : List Tagged
tags_j =
    ("ja" ⇒ 89) ∷ ("jgo" ⇒ 90) ∷ ("jmc" ⇒ 91) ∷ ("jv" ⇒ 92) ∷
    []

unfoldable pub tags_k : List Tagged
tags_k =
    ("ka" ⇒ 93) ∷ ("kab" ⇒ 94) ∷ ("kam" ⇒ 95) ∷ ("kde" ⇒ 96) ∷ ("kea" ⇒ 97) ∷ ("kgp" ⇒ 98) ∷ ("khq" ⇒ 99) ∷
    ("ki" ⇒ 100) ∷ ("kk-arab" ⇒ 333) ∷ ("kk-cn" ⇒ 333) ∷ ("kk" ⇒ 101) ∷ ("kkj" ⇒ 102) ∷ ("kl" ⇒ 103) ∷
    ("kln" ⇒ 104) ∷ ("km" ⇒ 105) ∷ ("kn" ⇒ 106) ∷ ("ko-cn" ⇒ 334) ∷ ("ko" ⇒ 107) ∷ ("kok-latn" ⇒ 335) ∷
    ("kok" ⇒ 108) ∷ ("ks-deva" ⇒ 336) ∷ ("ks" ⇒ 109) ∷ ("ksb" ⇒ 110) ∷ ("ksf" ⇒ 111) ∷ ("ksh" ⇒ 112) ∷
    ("ku-iq" ⇒ 337) ∷ ("ku-latn-iq" ⇒ 337) ∷ ("ku" ⇒ 113) ∷ ("kw" ⇒ 114) ∷ ("kxv-deva" ⇒ 338) ∷ ("kxv-orya" ⇒ 339) ∷
    ("kxv-telu" ⇒ 340) ∷ ("kxv" ⇒ 115) ∷ ("ky" ⇒ 116) ∷
    []

unfoldable pub tags_l : List Tagged
tags_l =
    ("lag" ⇒ 117) ∷ ("lb" ⇒ 118) ∷ ("lg" ⇒ 119) ∷ ("lij" ⇒ 120) ∷ ("lkt" ⇒ 121) ∷ ("lmo" ⇒ 122) ∷ ("ln" ⇒ 123) ∷
    ("lo" ⇒ 124) ∷ ("lrc-iq" ⇒ 341) ∷ ("lrc" ⇒ 125) ∷ ("lt" ⇒ 126) ∷ ("lu" ⇒ 127) ∷ ("luo" ⇒ 128) ∷ ("luy" ⇒ 129) ∷
    ("lv" ⇒ 130) ∷
    []

unfoldable pub tags_m : List Tagged
tags_m =
    ("mai" ⇒ 131) ∷ ("mas" ⇒ 132) ∷ ("mer" ⇒ 133) ∷ ("mfe" ⇒ 134) ∷ ("mg" ⇒ 135) ∷ ("mgh" ⇒ 136) ∷ ("mgo" ⇒ 137) ∷
    ("mi" ⇒ 138) ∷ ("mk" ⇒ 139) ∷ ("ml" ⇒ 140) ∷ ("mn" ⇒ 141) ∷ ("mni" ⇒ 142) ∷ ("mo" ⇒ 143) ∷ ("mr" ⇒ 144) ∷
    ("ms-bn" ⇒ 342) ∷ ("ms-id" ⇒ 343) ∷ ("ms" ⇒ 145) ∷ ("mt" ⇒ 146) ∷ ("mua" ⇒ 147) ∷ ("my" ⇒ 148) ∷ ("mzn" ⇒ 149) ∷
    []

unfoldable pub tags_n : List Tagged
tags_n =
    ("naq" ⇒ 150) ∷ ("nb" ⇒ 151) ∷ ("nd" ⇒ 152) ∷ ("nds" ⇒ 153) ∷ ("ne-in" ⇒ 344) ∷ ("ne" ⇒ 154) ∷ ("nl-be" ⇒ 345) ∷
    ("nl" ⇒ 155) ∷ ("nmg" ⇒ 156) ∷ ("nn" ⇒ 157) ∷ ("nnh" ⇒ 158) ∷ ("no" ⇒ 151) ∷ ("nqo" ⇒ 159) ∷ ("nso" ⇒ 160) ∷
    ("nus" ⇒ 161) ∷ ("nyn" ⇒ 162) ∷
    []

unfoldable pub tags_o : List Tagged
tags_o =
    ("oc-es" ⇒ 346) ∷ ("oc" ⇒ 163) ∷ ("om-ke" ⇒ 347) ∷ ("om" ⇒ 164) ∷ ("or" ⇒ 165) ∷ ("os" ⇒ 166) ∷
    []

unfoldable pub tags_p : List Tagged
tags_p =
    ("pa-arab" ⇒ 348) ∷ ("pa-pk" ⇒ 348) ∷ ("pa" ⇒ 167) ∷ ("pcm" ⇒ 168) ∷ ("pl" ⇒ 169) ∷ ("pms" ⇒ 170) ∷
    ("prg" ⇒ 171) ∷ ("ps-pk" ⇒ 349) ∷ ("ps" ⇒ 172) ∷ ("pt-ao" ⇒ 350) ∷ ("pt-ch" ⇒ 350) ∷ ("pt-cv" ⇒ 350) ∷
    ("pt-gq" ⇒ 350) ∷ ("pt-gw" ⇒ 350) ∷ ("pt-lu" ⇒ 350) ∷ ("pt-mo" ⇒ 351) ∷ ("pt-mz" ⇒ 350) ∷ ("pt-pt" ⇒ 350) ∷
    ("pt-st" ⇒ 350) ∷ ("pt-tl" ⇒ 350) ∷ ("pt" ⇒ 173) ∷
    []

unfoldable pub tags_q : List Tagged
tags_q =
    ("qu-bo" ⇒ 352) ∷ ("qu" ⇒ 174) ∷
    []

unfoldable pub tags_r : List Tagged
tags_r =
    ("raj" ⇒ 175) ∷ ("rm" ⇒ 176) ∷ ("rn" ⇒ 177) ∷ ("ro-md" ⇒ 353) ∷ ("ro" ⇒ 178) ∷ ("rof" ⇒ 179) ∷ ("ru-ua" ⇒ 354) ∷
    ("ru" ⇒ 180) ∷ ("rw" ⇒ 181) ∷ ("rwk" ⇒ 91) ∷
    []

unfoldable pub tags_s : List Tagged
tags_s =
    ("sa" ⇒ 182) ∷ ("sah" ⇒ 183) ∷ ("saq" ⇒ 184) ∷ ("sat" ⇒ 185) ∷ ("sbp" ⇒ 186) ∷ ("sc" ⇒ 187) ∷ ("scn" ⇒ 188) ∷
    ("sd-deva" ⇒ 355) ∷ ("sd-in" ⇒ 355) ∷ ("sd" ⇒ 189) ∷ ("se-fi" ⇒ 356) ∷ ("se" ⇒ 190) ∷ ("seh" ⇒ 191) ∷
    ("ses" ⇒ 192) ∷ ("sg" ⇒ 193) ∷ ("sh-ba" ⇒ 357) ∷ ("sh" ⇒ 194) ∷ ("shi-latn" ⇒ 358) ∷ ("shi" ⇒ 195) ∷
    ("shn" ⇒ 196) ∷ ("si" ⇒ 197) ∷ ("sk" ⇒ 198) ∷ ("sl" ⇒ 199) ∷ ("smn" ⇒ 200) ∷ ("sn" ⇒ 201) ∷ ("so-ke" ⇒ 359) ∷
    ("so" ⇒ 202) ∷ ("sq-mk" ⇒ 360) ∷ ("sq-xk" ⇒ 360) ∷ ("sq" ⇒ 203) ∷ ("sr-ba" ⇒ 361) ∷ ("sr-cyrl-ba" ⇒ 361) ∷
    ("sr-cyrl-me" ⇒ 385) ∷ ("sr-cyrl-xk" ⇒ 364) ∷ ("sr-latn-ba" ⇒ 386) ∷ ("sr-latn-me" ⇒ 363) ∷
    ("sr-latn-xk" ⇒ 387) ∷ ("sr-latn" ⇒ 362) ∷ ("sr-me" ⇒ 363) ∷ ("sr-xk" ⇒ 364) ∷ ("sr" ⇒ 204) ∷ ("st-ls" ⇒ 365) ∷
    ("st" ⇒ 205) ∷ ("su" ⇒ 206) ∷ ("sv-ax" ⇒ 366) ∷ ("sv-fi" ⇒ 367) ∷ ("sv" ⇒ 207) ∷ ("sw-cd" ⇒ 368) ∷
    ("sw-ke" ⇒ 369) ∷ ("sw" ⇒ 208) ∷ ("syr" ⇒ 209) ∷ ("szl" ⇒ 210) ∷
    []

unfoldable pub tags_t : List Tagged
tags_t =
    ("ta-lk" ⇒ 370) ∷ ("ta" ⇒ 211) ∷ ("te" ⇒ 212) ∷ ("teo" ⇒ 213) ∷ ("tg" ⇒ 214) ∷ ("th" ⇒ 215) ∷ ("ti-er" ⇒ 371) ∷
    ("ti" ⇒ 216) ∷ ("tk" ⇒ 217) ∷ ("tl" ⇒ 218) ∷ ("tn" ⇒ 219) ∷ ("to" ⇒ 220) ∷ ("tok" ⇒ 221) ∷ ("tr-cy" ⇒ 372) ∷
    ("tr" ⇒ 222) ∷ ("tt" ⇒ 223) ∷ ("twq" ⇒ 224) ∷ ("tyv" ⇒ 225) ∷ ("tzm" ⇒ 226) ∷
    []

unfoldable pub tags_u : List Tagged
tags_u =
    ("ug" ⇒ 227) ∷ ("uk" ⇒ 228) ∷ ("und" ⇒ 0) ∷ ("ur-in" ⇒ 373) ∷ ("ur" ⇒ 229) ∷ ("uz-af" ⇒ 374) ∷
    ("uz-arab" ⇒ 374) ∷ ("uz-cyrl" ⇒ 375) ∷ ("uz" ⇒ 230) ∷
    []

unfoldable pub tags_v : List Tagged
tags_v =
    ("vai-latn" ⇒ 376) ∷ ("vai" ⇒ 231) ∷ ("vec" ⇒ 232) ∷ ("vi" ⇒ 233) ∷ ("vmw" ⇒ 234) ∷ ("vun" ⇒ 91) ∷
    []

unfoldable pub tags_w : List Tagged
tags_w =
    ("wae" ⇒ 235) ∷ ("wo" ⇒ 236) ∷
    []

unfoldable pub tags_x : List Tagged
tags_x =
    ("xh" ⇒ 237) ∷ ("xnr" ⇒ 238) ∷ ("xog" ⇒ 239) ∷
    []

unfoldable pub tags_y : List Tagged
tags_y =
    ("yav" ⇒ 240) ∷ ("yi" ⇒ 241) ∷ ("yo-bj" ⇒ 377) ∷ ("yo" ⇒ 242) ∷ ("yrl-co" ⇒ 378) ∷ ("yrl-ve" ⇒ 378) ∷
    ("yrl" ⇒ 243) ∷ ("yue-cn" ⇒ 379) ∷ ("yue-hans" ⇒ 379) ∷ ("yue-hant-cn" ⇒ 388) ∷ ("yue" ⇒ 244) ∷
    []

unfoldable pub tags_z : List Tagged
tags_z =
    ("za" ⇒ 245) ∷ ("zgh" ⇒ 246) ∷ ("zh-hans-hk" ⇒ 389) ∷ ("zh-hans-mo" ⇒ 390) ∷ ("zh-hans-my" ⇒ 382) ∷
    ("zh-hans-sg" ⇒ 383) ∷ ("zh-hant-hk" ⇒ 380) ∷ ("zh-hant-mo" ⇒ 380) ∷ ("zh-hant-my" ⇒ 391) ∷ ("zh-hant" ⇒ 381) ∷
    ("zh-hk" ⇒ 380) ∷ ("zh-mo" ⇒ 380) ∷ ("zh-my" ⇒ 382) ∷ ("zh-sg" ⇒ 383) ∷ ("zh-tw" ⇒ 381) ∷ ("zh" ⇒ 247) ∷
    ("zu" ⇒ 248) ∷
    []

abbrev pub tags : List (List Tagged)
tags =
    tags_a ∷ tags_b ∷ tags_c ∷ tags_d ∷ tags_e ∷ tags_f ∷ tags_g ∷ tags_h ∷ tags_i ∷ tags_j ∷ tags_k ∷ tags_l ∷
    tags_m ∷ tags_n ∷ tags_o ∷ tags_p ∷ tags_q ∷ tags_r ∷ tags_s ∷ tags_t ∷ tags_u ∷ tags_v ∷ tags_w ∷ tags_x ∷
    tags_y ∷ tags_z ∷
    []

-- the row of the longest tag that a text begins with
abbrev pub row_for : Text → Option ℕ
row_for tag = first_in tags tag
