-- `take` hands the box's pointer out where there is one.
use Rattle.fluent_c.proofs.Steps.{[], ◌∷◌, refl, ap, lit<, proved_at, SProp, ftrue, Val, vptr, tables, ‵, raw, ◌⊛◌, at_ret, ◌$◌, ◌∵◌, !, qed, done, move, drop, split, join, fsplit, suffices, use0, use1, enter, of_opd, lit, stop, fld, no_more, and_then, returns, first, branches, exec, alloc_all, pass_all, free_all, look_at, get, get_in, sets, sets_last, env, agg, whole, sub, block_ptr, ptr_val, yes, plain, types_at, type_at, nothing, Stays, walk_of, says, stay_dropped, Goes-dropped, ends_at, prop, regoal}
use Rattle.std.proofs.Common.{◌++◌}
use mir.Val.{vcons, vnil}
use types.Match.{live}
use denote.RawPtr.{rawptr_Lawful}
use denote.RattleType.{RattleType, owns}
use denote.Param.{layout}
use types.ByLocal.{is}
use denote.Floats.{is_true}
use lib.Ieee.Bits.{is_false}
use Rattle.std_alloc.proofs.ResultValues.{and_tt}
use prog.Wp.{WpFn}
use Rattle.core.specs.declared.option.Option.TheVariants.{None, Some}
use Rattle.core.proofs.option.Made.{Some-of, none_of}
use Rattle.core.proofs.cell.Inside.{Good}
use Rattle.core.proofs.alloc.Calls.{handle_tells}
use Rattle.std.specs.contracts.alloc.Global as heap
use Rattle.std.proofs.alloc.Global.TheLaws as heap_laws
use Rattle.std.specs.contracts.impls.GlobalAllocator.TheImpl.{ghosts}
use Rattle.fluent_c.specs.Texts.{buffers_row}
use Rattle.fluent_c.proofs.Texts.{held_out, good_of}
use Rattle.fluent_kept.proofs.Values.{both, RawBox, al, loose_good, loose_in}
use Rattle.fluent_c.proofs.text.FluentText.TheLaws.{lowers}
use Rattle.fluent_c.specs.contracts.text.FluentText.{the_row}
use Rattle.fluent_c.specs.contracts.text.FluentText.take as f
use Rattle.fluent_c.proofs.text.FluentText.take.Statement.{statement}
use Rattle.fluent_c.proofs.text.FluentText.take.Code as code

abbrev Owner : RattleType
Owner = RawBox buffers_row heap.the_row heap_laws.the_row_laws ghosts

abbrev stayed : Stays f.ended.signature.params f.ended.kept
stayed = (stay_dropped (plain (λ _. the_row)) yes, (stay_dropped (plain (λ _. heap.the_row)) yes, tt))

pub take_spec : {M : Type 1} → statement M
take_spec 𝓤 𝓛 𝓜 𝓡 wired =
    let H = 𝓛.H in let 𝓣 = tables 𝓤 H 𝓜 𝓡 𝓡.env in let c = f.clauses 𝓛 𝓜.mem 𝓡.returns in let fn = code.function in let Z = heap.the_row in let LZ = heap_laws.the_row_laws in
    proved_at 𝓛 f.ended stayed c 𝓜 𝓡
    (Goes-dropped 𝓛 0 (plain (λ _. the_row)) yes (λ κs x w. refl), (Goes-dropped 𝓛 0 (plain (λ _. heap.the_row)) yes (λ κs x w. refl), tt))
    f.Key.name fn (code.unfolded 𝓤 H 𝓜 𝓡 wired) (λ z are.
    let κs = z.0.0 in let qs = z.0.1 in let args = z.0.3 in let words = z.0.4 in let Post : Val → SProp 𝓤 = (walk_of 𝓛 f.ended stayed c).post z in
    let Out : RattleType = type_at f.ended.signature.result κs in let d = args.0 in let a = args.1.0 in
    qed 𝓛 ((‵ ftrue ⊛ ‵ (owns (types_at f.ended.signature.params κs) args words)) ∷ raw ((c κs args).requires z.1) ∷ []) ∵
    split ! $ drop ! $ fsplit ! $ move ! (1 ∷ []) $ fsplit ! $ handle_tells (al buffers_row Z LZ ghosts) ! a words.1.0 (λ h eh fits.
    move ! (2 ∷ []) $
    regoal ! (λ us. prop (WpFn 𝓤 H 𝓣.C 𝓣.Λ fn us Post)) (λ i. lowers.val_is d words.0 are.0 i ++ (eh i ++ [])) refl $
    enter ! _ _ _ _ _ $ alloc_all ! (λ l. pass_all ! refl (good_of 𝓛 d words.0 are.0, (fits, tt)) $ let Ev = env fn.locals l in
    sets ! (of_opd ! (get_in ! (fld ! refl (stop !)) (sub ! 0 refl (whole !)))) refl (tt, tt) $
    sets ! (of_opd ! (get_in ! (fld ! refl (stop !)) (sub ! 3 refl (whole !)))) refl (((rawptr_Lawful 𝓛).typed d.owner _ refl).0) $
    sets ! (of_opd ! (get ! refl)) refl (tt, tt) $
    first ! $ branches ! (get ! refl)
    (λ some. held_out ! a d words.0 (is_true d.held some) (λ b o v e holds.
    let made : Val = both (vptr b o) h in let typed = loose_good buffers_row Z LZ ghosts b o h fits in let v₁ : Val = live 1 (vcons made vnil) in let r : Owner.Denot = record { at = block_ptr b o; alloc = a; value = v } in
    let good : Good (layout Out) v₁ = (and_tt _ typed.0, (record { fits = lit< tt }, (typed.1, tt))) in
    sets ! (is ! (of_opd ! (get ! refl)) (ap ptr_val e)) refl (tt, tt) $
    sets ! (agg ! (and_then ! (get ! refl) (and_then ! (get ! refl) (no_more !)))) refl typed $
    sets_last ! (agg ! (and_then ! (lit ! tt) (and_then ! (get ! refl) (no_more !)))) refl good $
    exec ! 𝓣.C 𝓣.Λ Ev code.Mir.t-5 (at_ret Ev Post) $ sets ! (of_opd ! (get ! refl)) refl good $
    loose_in buffers_row Z LZ ghosts ! b o h a v $ use1 𝓛 (‵ (Out.own_val (Some r) (v₁ ∷ []))) (Some-of 𝓛 Owner r made) $
    returns ! (look_at ! 0 refl) $ free_all ! refl $ move ! (1 ∷ []) $ drop ! $ move ! (1 ∷ []) $ drop ! $
    suffices ! _ (ends_at 𝓛 f.ended stayed c z v₁ (Some r) (tt, (tt, tt)) (tt, (tt, tt))) $ says ! holds $
    nothing ! $ nothing ! $ join ! $ nothing ! $ join ! $ nothing ! $ done !))
    (λ none.
    sets_last ! (agg ! (and_then ! (lit ! tt) (no_more !))) refl (tt, (record { fits = lit< tt }, tt)) $
    exec ! 𝓣.C 𝓣.Λ Ev code.Mir.t-5 (at_ret Ev Post) $
    sets ! (of_opd ! (get ! refl)) refl (tt, (record { fits = lit< tt }, tt)) $
    returns ! (look_at ! 0 refl) $ free_all ! refl $ drop ! $ drop ! $ drop ! $ drop ! $
    suffices ! _ (ends_at 𝓛 f.ended stayed c z (live 0 vnil) None (tt, (tt, tt)) (tt, (tt, tt))) $ says ! (is_false d.held none) $
    use0 𝓛 (‵ (Out.own_val None (live 0 vnil ∷ []))) (none_of 𝓛 Owner) $
    nothing ! $ nothing ! $ join ! $ nothing ! $ join ! $ nothing ! $ done !))))
