-- Written by tools/plurals from the plural rules of Unicode CLDR 48. Do not edit.
-- The rules for counts. Each set is named after one of its languages.
use Rattle.std.specs.Prelude.{List, [], ◌∷◌}
use Rattle.fluent_number.specs.declared.plural.PluralCategory.TheVariants.{ZERO, ONE, TWO, FEW, MANY}
use Rattle.fluent_plurals.specs.Conditions.{Condition, Rule, n, i, v, f, t, e, only, ◌modulo◌, ◌‥◌, ◌∪◌, ◌∈◌, ◌∉◌, ◌equals◌, ◌differs_from◌, ◌and◌, ◌or◌, ◌when◌}

-- am as bn doi fa gu hi kn kok kok_Latn pcm zu
abbrev pub hi : List Rule
hi =
    (ONE when i equals 0 or n equals 1) ∷
    []

-- ff hy kab
abbrev pub ff : List Rule
ff =
    (ONE when i ∈ only 0 ∪ only 1) ∷
    []

-- ast de en et fi fy gl ia ie io ji lij nl sc sv sw ur yi
abbrev pub en : List Rule
en =
    (ONE when i equals 1 and v equals 0) ∷
    []

-- si
abbrev pub si : List Rule
si =
    (ONE when n ∈ only 0 ∪ only 1 or i equals 0 and f equals 1) ∷
    []

-- ak bho csw guw ln mg nso pa ti wa
abbrev pub pa : List Rule
pa =
    (ONE when n ∈ 0 ‥ 1) ∷
    []

-- tzm
abbrev pub tzm : List Rule
tzm =
    (ONE when n ∈ 0 ‥ 1 or n ∈ 11 ‥ 99) ∷
    []

-- af an asa az bal bem bez bg brx ce cgg chr ckb dv ee el eo eu fo fur gsw ha haw hu jgo jmc ka kaj kcg kk kkj kl ks ksb ku ky lb lg mas mgo ml mn mr nah nb nd ne nn nnh no nr ny nyn om or os pap ps rm rof rwk saq sd sdh seh sn so sq ss ssy st syr ta te teo tig tk tn tr ts ug uz ve vo vun wae xh xog
abbrev pub tr : List Rule
tr =
    (ONE when n equals 1) ∷
    []

-- da
abbrev pub da : List Rule
da =
    (ONE when n equals 1 or t differs_from 0 and i ∈ only 0 ∪ only 1) ∷
    []

-- is
abbrev pub is : List Rule
is =
    (ONE when t equals 0 and i modulo 10 equals 1 and i modulo 100 differs_from 11
    or t modulo 10 equals 1 and t modulo 100 differs_from 11) ∷
    []

-- mk
abbrev pub mk : List Rule
mk =
    (ONE when v equals 0 and i modulo 10 equals 1 and i modulo 100 differs_from 11
    or f modulo 10 equals 1 and f modulo 100 differs_from 11) ∷
    []

-- ceb fil tl
abbrev pub ceb : List Rule
ceb =
    (ONE when v equals 0 and i ∈ only 1 ∪ only 2 ∪ only 3
    or v equals 0 and i modulo 10 ∉ only 4 ∪ only 6 ∪ only 9
    or v differs_from 0 and f modulo 10 ∉ only 4 ∪ only 6 ∪ only 9) ∷
    []

-- lv prg
abbrev pub lv_zero : Condition
lv_zero = n modulo 10 equals 0 or n modulo 100 ∈ 11 ‥ 19 or v equals 2 and f modulo 100 ∈ 11 ‥ 19

abbrev pub lv_one : Condition
lv_one = n modulo 10 equals 1 and n modulo 100 differs_from 11
    or v equals 2 and f modulo 10 equals 1 and f modulo 100 differs_from 11
    or v differs_from 2 and f modulo 10 equals 1

abbrev pub lv : List Rule
lv =
    (ZERO when lv_zero) ∷
    (ONE when lv_one) ∷
    []

-- lag
abbrev pub lag : List Rule
lag =
    (ZERO when n equals 0) ∷
    (ONE when i ∈ only 0 ∪ only 1 and n differs_from 0) ∷
    []

-- blo cv ksh
abbrev pub blo : List Rule
blo =
    (ZERO when n equals 0) ∷
    (ONE when n equals 1) ∷
    []

-- he iw
abbrev pub he : List Rule
he =
    (ONE when i equals 1 and v equals 0 or i equals 0 and v differs_from 0) ∷
    (TWO when i equals 2 and v equals 0) ∷
    []

-- iu naq sat se sma smi smj smn sms
abbrev pub iu : List Rule
iu =
    (ONE when n equals 1) ∷
    (TWO when n equals 2) ∷
    []

-- shi
abbrev pub shi : List Rule
shi =
    (ONE when i equals 0 or n equals 1) ∷
    (FEW when n ∈ 2 ‥ 10) ∷
    []

-- mo ro
abbrev pub ro : List Rule
ro =
    (ONE when i equals 1 and v equals 0) ∷
    (FEW when v differs_from 0 or n equals 0 or n differs_from 1 and n modulo 100 ∈ 1 ‥ 19) ∷
    []

-- bs hr sh sr
abbrev pub hr_one : Condition
hr_one = v equals 0 and i modulo 10 equals 1 and i modulo 100 differs_from 11
    or f modulo 10 equals 1 and f modulo 100 differs_from 11

abbrev pub hr_few : Condition
hr_few = v equals 0 and i modulo 10 ∈ 2 ‥ 4 and i modulo 100 ∉ 12 ‥ 14
    or f modulo 10 ∈ 2 ‥ 4 and f modulo 100 ∉ 12 ‥ 14

abbrev pub hr : List Rule
hr =
    (ONE when hr_one) ∷
    (FEW when hr_few) ∷
    []

-- fr
abbrev pub fr : List Rule
fr =
    (ONE when i ∈ only 0 ∪ only 1) ∷
    (MANY when e equals 0 and i differs_from 0 and i modulo 1000000 equals 0 and v equals 0 or e ∉ 0 ‥ 5) ∷
    []

-- pt
abbrev pub pt : List Rule
pt =
    (ONE when i ∈ 0 ‥ 1) ∷
    (MANY when e equals 0 and i differs_from 0 and i modulo 1000000 equals 0 and v equals 0 or e ∉ 0 ‥ 5) ∷
    []

-- ca it lld pt_PT scn vec
abbrev pub it : List Rule
it =
    (ONE when i equals 1 and v equals 0) ∷
    (MANY when e equals 0 and i differs_from 0 and i modulo 1000000 equals 0 and v equals 0 or e ∉ 0 ‥ 5) ∷
    []

-- es
abbrev pub es : List Rule
es =
    (ONE when n equals 1) ∷
    (MANY when e equals 0 and i differs_from 0 and i modulo 1000000 equals 0 and v equals 0 or e ∉ 0 ‥ 5) ∷
    []

-- gd
abbrev pub gd : List Rule
gd =
    (ONE when n ∈ only 1 ∪ only 11) ∷
    (TWO when n ∈ only 2 ∪ only 12) ∷
    (FEW when n ∈ 3 ‥ 10 ∪ 13 ‥ 19) ∷
    []

-- sl
abbrev pub sl : List Rule
sl =
    (ONE when v equals 0 and i modulo 100 equals 1) ∷
    (TWO when v equals 0 and i modulo 100 equals 2) ∷
    (FEW when v equals 0 and i modulo 100 ∈ 3 ‥ 4 or v differs_from 0) ∷
    []

-- dsb hsb
abbrev pub dsb : List Rule
dsb =
    (ONE when v equals 0 and i modulo 100 equals 1 or f modulo 100 equals 1) ∷
    (TWO when v equals 0 and i modulo 100 equals 2 or f modulo 100 equals 2) ∷
    (FEW when v equals 0 and i modulo 100 ∈ 3 ‥ 4 or f modulo 100 ∈ 3 ‥ 4) ∷
    []

-- cs sk
abbrev pub cs : List Rule
cs =
    (ONE when i equals 1 and v equals 0) ∷
    (FEW when i ∈ 2 ‥ 4 and v equals 0) ∷
    (MANY when v differs_from 0) ∷
    []

-- pl
abbrev pub pl : List Rule
pl =
    (ONE when i equals 1 and v equals 0) ∷
    (FEW when v equals 0 and i modulo 10 ∈ 2 ‥ 4 and i modulo 100 ∉ 12 ‥ 14) ∷
    (MANY when v equals 0 and i differs_from 1 and i modulo 10 ∈ 0 ‥ 1
    or v equals 0 and i modulo 10 ∈ 5 ‥ 9
    or v equals 0 and i modulo 100 ∈ 12 ‥ 14) ∷
    []

-- be
abbrev pub be : List Rule
be =
    (ONE when n modulo 10 equals 1 and n modulo 100 differs_from 11) ∷
    (FEW when n modulo 10 ∈ 2 ‥ 4 and n modulo 100 ∉ 12 ‥ 14) ∷
    (MANY when n modulo 10 equals 0 or n modulo 10 ∈ 5 ‥ 9 or n modulo 100 ∈ 11 ‥ 14) ∷
    []

-- lt
abbrev pub lt : List Rule
lt =
    (ONE when n modulo 10 equals 1 and n modulo 100 ∉ 11 ‥ 19) ∷
    (FEW when n modulo 10 ∈ 2 ‥ 9 and n modulo 100 ∉ 11 ‥ 19) ∷
    (MANY when f differs_from 0) ∷
    []

-- ru uk
abbrev pub ru : List Rule
ru =
    (ONE when v equals 0 and i modulo 10 equals 1 and i modulo 100 differs_from 11) ∷
    (FEW when v equals 0 and i modulo 10 ∈ 2 ‥ 4 and i modulo 100 ∉ 12 ‥ 14) ∷
    (MANY when v equals 0 and i modulo 10 equals 0
    or v equals 0 and i modulo 10 ∈ 5 ‥ 9
    or v equals 0 and i modulo 100 ∈ 11 ‥ 14) ∷
    []

-- sgs
abbrev pub sgs : List Rule
sgs =
    (ONE when n modulo 10 equals 1 and n modulo 100 differs_from 11) ∷
    (TWO when n equals 2) ∷
    (FEW when n differs_from 2 and n modulo 10 ∈ 2 ‥ 9 and n modulo 100 ∉ 11 ‥ 19) ∷
    (MANY when f differs_from 0) ∷
    []

-- br
abbrev pub br_one : Condition
br_one = n modulo 10 equals 1 and n modulo 100 ∉ only 11 ∪ only 71 ∪ only 91

abbrev pub br_two : Condition
br_two = n modulo 10 equals 2 and n modulo 100 ∉ only 12 ∪ only 72 ∪ only 92

abbrev pub br_few : Condition
br_few = n modulo 10 ∈ 3 ‥ 4 ∪ only 9 and n modulo 100 ∉ 10 ‥ 19 ∪ 70 ‥ 79 ∪ 90 ‥ 99

abbrev pub br_many : Condition
br_many = n differs_from 0 and n modulo 1000000 equals 0

abbrev pub br : List Rule
br =
    (ONE when br_one) ∷
    (TWO when br_two) ∷
    (FEW when br_few) ∷
    (MANY when br_many) ∷
    []

-- mt
abbrev pub mt : List Rule
mt =
    (ONE when n equals 1) ∷
    (TWO when n equals 2) ∷
    (FEW when n equals 0 or n modulo 100 ∈ 3 ‥ 10) ∷
    (MANY when n modulo 100 ∈ 11 ‥ 19) ∷
    []

-- ga
abbrev pub ga : List Rule
ga =
    (ONE when n equals 1) ∷
    (TWO when n equals 2) ∷
    (FEW when n ∈ 3 ‥ 6) ∷
    (MANY when n ∈ 7 ‥ 10) ∷
    []

-- gv
abbrev pub gv : List Rule
gv =
    (ONE when v equals 0 and i modulo 10 equals 1) ∷
    (TWO when v equals 0 and i modulo 10 equals 2) ∷
    (FEW when v equals 0 and i modulo 100 ∈ only 0 ∪ only 20 ∪ only 40 ∪ only 60 ∪ only 80) ∷
    (MANY when v differs_from 0) ∷
    []

-- kw
abbrev pub kw : List Rule
kw =
    (ZERO when n equals 0) ∷
    (ONE when n equals 1) ∷
    (TWO when n modulo 100 ∈ only 2 ∪ only 22 ∪ only 42 ∪ only 62 ∪ only 82
    or n modulo 1000 equals 0 and n modulo 100000 ∈ 1000 ‥ 20000 ∪ only 40000 ∪ only 60000 ∪ only 80000
    or n differs_from 0 and n modulo 1000000 equals 100000) ∷
    (FEW when n modulo 100 ∈ only 3 ∪ only 23 ∪ only 43 ∪ only 63 ∪ only 83) ∷
    (MANY when n differs_from 1 and n modulo 100 ∈ only 1 ∪ only 21 ∪ only 41 ∪ only 61 ∪ only 81) ∷
    []

-- ar ars
abbrev pub ar : List Rule
ar =
    (ZERO when n equals 0) ∷
    (ONE when n equals 1) ∷
    (TWO when n equals 2) ∷
    (FEW when n modulo 100 ∈ 3 ‥ 10) ∷
    (MANY when n modulo 100 ∈ 11 ‥ 99) ∷
    []

-- cy
abbrev pub cy : List Rule
cy =
    (ZERO when n equals 0) ∷
    (ONE when n equals 1) ∷
    (TWO when n equals 2) ∷
    (FEW when n equals 3) ∷
    (MANY when n equals 6) ∷
    []
