-- Written by tools/plurals from the plural rules of Unicode CLDR 48. Do not edit.
-- The rules for places in an order. Each set is named after one of its languages.
use Rattle.std.specs.Prelude.{List, [], ◌∷◌}
use Rattle.fluent_number.specs.declared.plural.PluralCategory.TheVariants.{ZERO, ONE, TWO, FEW, MANY}
use Rattle.fluent_plurals.specs.Conditions.{Rule, n, i, only, ◌modulo◌, ◌‥◌, ◌∪◌, ◌∈◌, ◌∉◌, ◌equals◌, ◌differs_from◌, ◌and◌, ◌or◌, ◌when◌}

-- sv
abbrev pub sv : List Rule
sv =
    (ONE when n modulo 10 ∈ only 1 ∪ only 2 and n modulo 100 ∉ only 11 ∪ only 12) ∷
    []

-- bal fil fr ga hy lo mo ms ro tl vi
abbrev pub fr : List Rule
fr =
    (ONE when n equals 1) ∷
    []

-- hu
abbrev pub hu : List Rule
hu =
    (ONE when n ∈ only 1 ∪ only 5) ∷
    []

-- ne
abbrev pub ne : List Rule
ne =
    (ONE when n ∈ 1 ‥ 4) ∷
    []

-- be
abbrev pub be : List Rule
be =
    (FEW when n modulo 10 ∈ only 2 ∪ only 3 and n modulo 100 ∉ only 12 ∪ only 13) ∷
    []

-- uk
abbrev pub uk : List Rule
uk =
    (FEW when n modulo 10 equals 3 and n modulo 100 differs_from 13) ∷
    []

-- tk
abbrev pub tk : List Rule
tk =
    (FEW when n modulo 10 ∈ only 6 ∪ only 9 or n equals 10) ∷
    []

-- kk
abbrev pub kk : List Rule
kk =
    (MANY when n modulo 10 equals 6 or n modulo 10 equals 9 or n modulo 10 equals 0 and n differs_from 0) ∷
    []

-- it lld sc vec
abbrev pub it : List Rule
it =
    (MANY when n ∈ only 11 ∪ only 8 ∪ only 80 ∪ only 800) ∷
    []

-- lij scn
abbrev pub lij : List Rule
lij =
    (MANY when n ∈ only 11 ∪ only 8 ∪ 80 ‥ 89 ∪ 800 ‥ 899) ∷
    []

-- ka
abbrev pub ka : List Rule
ka =
    (ONE when i equals 1) ∷
    (MANY when i equals 0 or i modulo 100 ∈ 2 ‥ 20 ∪ only 40 ∪ only 60 ∪ only 80) ∷
    []

-- sq
abbrev pub sq : List Rule
sq =
    (ONE when n equals 1) ∷
    (MANY when n modulo 10 equals 4 and n modulo 100 differs_from 14) ∷
    []

-- kw
abbrev pub kw : List Rule
kw =
    (ONE when n ∈ 1 ‥ 4 or n modulo 100 ∈ 1 ‥ 4 ∪ 21 ‥ 24 ∪ 41 ‥ 44 ∪ 61 ‥ 64 ∪ 81 ‥ 84) ∷
    (MANY when n equals 5 or n modulo 100 equals 5) ∷
    []

-- blo
abbrev pub blo : List Rule
blo =
    (ZERO when i equals 0) ∷
    (ONE when i equals 1) ∷
    (FEW when i ∈ only 2 ∪ only 3 ∪ only 4 ∪ only 5 ∪ only 6) ∷
    []

-- en
abbrev pub en : List Rule
en =
    (ONE when n modulo 10 equals 1 and n modulo 100 differs_from 11) ∷
    (TWO when n modulo 10 equals 2 and n modulo 100 differs_from 12) ∷
    (FEW when n modulo 10 equals 3 and n modulo 100 differs_from 13) ∷
    []

-- kok kok_Latn mr
abbrev pub kok : List Rule
kok =
    (ONE when n equals 1) ∷
    (TWO when n ∈ only 2 ∪ only 3) ∷
    (FEW when n equals 4) ∷
    []

-- gd
abbrev pub gd : List Rule
gd =
    (ONE when n ∈ only 1 ∪ only 11) ∷
    (TWO when n ∈ only 2 ∪ only 12) ∷
    (FEW when n ∈ only 3 ∪ only 13) ∷
    []

-- ca
abbrev pub ca : List Rule
ca =
    (ONE when n ∈ only 1 ∪ only 3) ∷
    (TWO when n equals 2) ∷
    (FEW when n equals 4) ∷
    []

-- mk
abbrev pub mk : List Rule
mk =
    (ONE when i modulo 10 equals 1 and i modulo 100 differs_from 11) ∷
    (TWO when i modulo 10 equals 2 and i modulo 100 differs_from 12) ∷
    (MANY when i modulo 10 ∈ only 7 ∪ only 8 and i modulo 100 ∉ only 17 ∪ only 18) ∷
    []

-- az
abbrev pub az : List Rule
az =
    (ONE when i modulo 10 ∈ only 1 ∪ only 2 ∪ only 5 ∪ only 7 ∪ only 8
    or i modulo 100 ∈ only 20 ∪ only 50 ∪ only 70 ∪ only 80) ∷
    (FEW when i modulo 10 ∈ only 3 ∪ only 4
    or i modulo 1000 ∈ only 100 ∪ only 200 ∪ only 300 ∪ only 400 ∪ only 500 ∪ only 600 ∪ only 700 ∪ only 800 ∪ only 900) ∷
    (MANY when i equals 0 or i modulo 10 equals 6 or i modulo 100 ∈ only 40 ∪ only 60 ∪ only 90) ∷
    []

-- gu hi
abbrev pub hi : List Rule
hi =
    (ONE when n equals 1) ∷
    (TWO when n ∈ only 2 ∪ only 3) ∷
    (FEW when n equals 4) ∷
    (MANY when n equals 6) ∷
    []

-- as bn
abbrev pub bn : List Rule
bn =
    (ONE when n ∈ only 1 ∪ only 5 ∪ only 7 ∪ only 8 ∪ only 9 ∪ only 10) ∷
    (TWO when n ∈ only 2 ∪ only 3) ∷
    (FEW when n equals 4) ∷
    (MANY when n equals 6) ∷
    []

-- or
abbrev pub or : List Rule
or =
    (ONE when n ∈ only 1 ∪ only 5 ∪ 7 ‥ 9) ∷
    (TWO when n ∈ only 2 ∪ only 3) ∷
    (FEW when n equals 4) ∷
    (MANY when n equals 6) ∷
    []

-- cy
abbrev pub cy : List Rule
cy =
    (ZERO when n ∈ only 0 ∪ only 7 ∪ only 8 ∪ only 9) ∷
    (ONE when n equals 1) ∷
    (TWO when n equals 2) ∷
    (FEW when n ∈ only 3 ∪ only 4) ∷
    (MANY when n ∈ only 5 ∪ only 6) ∷
    []
