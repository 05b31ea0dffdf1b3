-- Written by tools/plurals from the plural rules of Unicode CLDR 48. Do not edit.
-- The rules of each set.
use Rattle.std.specs.Prelude.{List, []}
use Rattle.fluent_plurals.specs.Conditions.{Rule}
use Rattle.fluent_plurals.specs.Cardinal as cardinal
use Rattle.fluent_plurals.specs.declared.sets.Cardinal.{Cardinal}
use Rattle.fluent_plurals.specs.declared.sets.Cardinal.TheVariants as cardinal_set
use Rattle.fluent_plurals.specs.Ordinal as ordinal
use Rattle.fluent_plurals.specs.declared.sets.Ordinal.{Ordinal}
use Rattle.fluent_plurals.specs.declared.sets.Ordinal.TheVariants as ordinal_set

abbrev pub cardinal_rules : Cardinal → List Rule
cardinal_rules cardinal_set.Root = []
cardinal_rules cardinal_set.Hi = cardinal.hi
cardinal_rules cardinal_set.Ff = cardinal.ff
cardinal_rules cardinal_set.En = cardinal.en
cardinal_rules cardinal_set.Si = cardinal.si
cardinal_rules cardinal_set.Pa = cardinal.pa
cardinal_rules cardinal_set.Tzm = cardinal.tzm
cardinal_rules cardinal_set.Tr = cardinal.tr
cardinal_rules cardinal_set.Da = cardinal.da
cardinal_rules cardinal_set.Is = cardinal.is
cardinal_rules cardinal_set.Mk = cardinal.mk
cardinal_rules cardinal_set.Ceb = cardinal.ceb
cardinal_rules cardinal_set.Lv = cardinal.lv
cardinal_rules cardinal_set.Lag = cardinal.lag
cardinal_rules cardinal_set.Blo = cardinal.blo
cardinal_rules cardinal_set.He = cardinal.he
cardinal_rules cardinal_set.Iu = cardinal.iu
cardinal_rules cardinal_set.Shi = cardinal.shi
cardinal_rules cardinal_set.Ro = cardinal.ro
cardinal_rules cardinal_set.Hr = cardinal.hr
cardinal_rules cardinal_set.Fr = cardinal.fr
cardinal_rules cardinal_set.Pt = cardinal.pt
cardinal_rules cardinal_set.It = cardinal.it
cardinal_rules cardinal_set.Es = cardinal.es
cardinal_rules cardinal_set.Gd = cardinal.gd
cardinal_rules cardinal_set.Sl = cardinal.sl
cardinal_rules cardinal_set.Dsb = cardinal.dsb
cardinal_rules cardinal_set.Cs = cardinal.cs
cardinal_rules cardinal_set.Pl = cardinal.pl
cardinal_rules cardinal_set.Be = cardinal.be
cardinal_rules cardinal_set.Lt = cardinal.lt
cardinal_rules cardinal_set.Ru = cardinal.ru
cardinal_rules cardinal_set.Sgs = cardinal.sgs
cardinal_rules cardinal_set.Br = cardinal.br
cardinal_rules cardinal_set.Mt = cardinal.mt
cardinal_rules cardinal_set.Ga = cardinal.ga
cardinal_rules cardinal_set.Gv = cardinal.gv
cardinal_rules cardinal_set.Kw = cardinal.kw
cardinal_rules cardinal_set.Ar = cardinal.ar
cardinal_rules cardinal_set.Cy = cardinal.cy

abbrev pub ordinal_rules : Ordinal → List Rule
ordinal_rules ordinal_set.Root = []
ordinal_rules ordinal_set.Sv = ordinal.sv
ordinal_rules ordinal_set.Fr = ordinal.fr
ordinal_rules ordinal_set.Hu = ordinal.hu
ordinal_rules ordinal_set.Ne = ordinal.ne
ordinal_rules ordinal_set.Be = ordinal.be
ordinal_rules ordinal_set.Uk = ordinal.uk
ordinal_rules ordinal_set.Tk = ordinal.tk
ordinal_rules ordinal_set.Kk = ordinal.kk
ordinal_rules ordinal_set.It = ordinal.it
ordinal_rules ordinal_set.Lij = ordinal.lij
ordinal_rules ordinal_set.Ka = ordinal.ka
ordinal_rules ordinal_set.Sq = ordinal.sq
ordinal_rules ordinal_set.Kw = ordinal.kw
ordinal_rules ordinal_set.Blo = ordinal.blo
ordinal_rules ordinal_set.En = ordinal.en
ordinal_rules ordinal_set.Kok = ordinal.kok
ordinal_rules ordinal_set.Gd = ordinal.gd
ordinal_rules ordinal_set.Ca = ordinal.ca
ordinal_rules ordinal_set.Mk = ordinal.mk
ordinal_rules ordinal_set.Az = ordinal.az
ordinal_rules ordinal_set.Hi = ordinal.hi
ordinal_rules ordinal_set.Bn = ordinal.bn
ordinal_rules ordinal_set.Or = ordinal.or
ordinal_rules ordinal_set.Cy = ordinal.cy
