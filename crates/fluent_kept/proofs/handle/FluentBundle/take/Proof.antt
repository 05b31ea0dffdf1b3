-- `take` hands the bundle out where there is one.
use Rattle.fluent_kept.proofs.Steps.{[], ◌∷◌, ◌++◌, refl, lit<, proved_at, SProp, ftrue, Val, vcons, vnil, live, tables, ‵, raw, ◌⊛◌, at_ret, ◌$◌, ◌∵◌, !, qed, done, drop, keep, split, join, fsplit, suffices, prop, regoal, rewrite, use0, use1, enter, of_opd, lit, stop, fld, no_more, and_then, returns, first, branches, exec, alloc_all, pass_all, free_all, look_at, get, get_in, sets, sets_last, env, agg, whole, sub, RattleType, owns, yes, plain, types_at, nothing, Stays, walk_of, says, stay_dropped, Goes-dropped, ends_at, WpFn, Good, rawptr_Lawful}
use Rattle.std.specs.Prelude.{Bool}
use Rattle.core.specs.contracts.option.Option as OP
use Rattle.core.specs.declared.option.Option.TheVariants.{None, Some}
use Rattle.core.proofs.option.Made.{Some-of, none_of}
use Rattle.std_alloc.proofs.ResultValues.{and_tt}
use denote.Floats.{is_true}
use denote.Param.{layout}
use lib.Ieee.Bits.{is_false}
use mir.Val.{has_ty}
use Rattle.fluent_kept.specs.Handle.{handle_owns}
use Rattle.fluent_kept.proofs.HandleMade.{handle_good}
use Rattle.fluent_kept.proofs.BundleMade.{bundle_in, bundle_good}
use Rattle.fluent_kept.proofs.bundle.Bundle.TheLaws as bundle_laws
use Rattle.fluent_kept.proofs.handle.FluentBundle.TheLaws.{lowers}
use Rattle.fluent_kept.specs.contracts.bundle.Bundle.{the_row as Bundle}
use Rattle.fluent_kept.specs.contracts.handle.FluentBundle.{the_row}
use Rattle.fluent_kept.specs.contracts.handle.FluentBundle.take as f
use Rattle.fluent_kept.proofs.handle.FluentBundle.take.Statement.{statement}
use Rattle.fluent_kept.proofs.handle.FluentBundle.take.Code as code

abbrev Out : RattleType
Out = OP.the_row Bundle

abbrev stayed : Stays f.ended.signature.params f.ended.kept
stayed = (stay_dropped (plain (λ _. the_row)) yes, tt)

pub take_spec : {M : Type 1} → statement M
take_spec 𝓤 𝓛 𝓜 𝓡 wired =
    let H = 𝓛.H in let 𝓣 = tables 𝓤 H 𝓜 𝓡 𝓡.env in let c = f.clauses 𝓛 𝓜.mem 𝓡.returns in let fn = code.function in
    proved_at 𝓛 f.ended stayed c 𝓜 𝓡 (Goes-dropped 𝓛 0 (plain (λ _. the_row)) yes (λ κs x w. refl), tt)
    f.Key.name fn (code.unfolded 𝓤 H 𝓜 𝓡 wired) (λ z are.
    let κs = z.0.0 in let args = z.0.3 in let words = z.0.4 in let Post : Val → SProp 𝓤 = (walk_of 𝓛 f.ended stayed c).post z in let d = args.0 in
    qed 𝓛 ((‵ ftrue ⊛ ‵ (owns (types_at f.ended.signature.params κs) args words)) ∷ raw ((c κs args).requires z.1) ∷ []) ∵
    split ! $ drop ! $ fsplit ! $ fsplit ! $ drop ! $ keep ! (0 ∷ []) $
    regoal ! (λ us. prop (WpFn 𝓤 H 𝓣.C 𝓣.Λ fn us Post)) (λ i. lowers.val_is d words.0 are.0 i ++ []) refl $
    let sources = ((rawptr_Lawful 𝓛).typed d.sources _ refl).0 in let read = ((rawptr_Lawful 𝓛).typed d.read _ refl).0 in let desk = ((rawptr_Lawful 𝓛).typed d.desk _ refl).0 in
    enter ! _ _ _ _ _ $ alloc_all ! (λ l. pass_all ! refl (handle_good 𝓛 d, tt) $ let Ev = env fn.locals l in
    sets ! (of_opd ! (get_in ! (fld ! refl (stop !)) (sub ! 0 refl (whole !)))) refl (tt, tt) $
    sets ! (of_opd ! (get_in ! (fld ! refl (stop !)) (sub ! 1 refl (whole !)))) refl sources $
    sets ! (of_opd ! (get_in ! (fld ! refl (stop !)) (sub ! 2 refl (whole !)))) refl read $
    sets ! (of_opd ! (get_in ! (fld ! refl (stop !)) (sub ! 3 refl (whole !)))) refl desk $
    sets ! (of_opd ! (get ! refl)) refl (tt, tt) $
    first ! $ branches ! (get ! refl)
    (λ some. rewrite ! 0 (λ (held : Bool). ‵ (handle_owns held d.sources d.read d.desk d.catalog)) (is_true d.held some) refl $
    let r : Bundle.Denot = record { sources = d.sources; read = d.read; desk = d.desk; catalog = d.catalog } in
    let v : Val = live 1 (vcons (bundle_laws.lowered r) vnil) in
    let good : Good (layout Out) v = (and_tt (has_ty (layout Bundle) (bundle_laws.lowered r)) (bundle_good 𝓛 r).0, (record { fits = lit< tt }, ((bundle_good 𝓛 r).1, tt))) in
    sets ! (of_opd ! (get ! refl)) refl sources $
    sets ! (agg ! (and_then ! (get ! refl) (and_then ! (get ! refl) (and_then ! (get ! refl) (no_more !))))) refl (bundle_good 𝓛 r) $
    sets_last ! (agg ! (and_then ! (lit ! tt) (and_then ! (get ! refl) (no_more !)))) refl good $
    exec ! 𝓣.C 𝓣.Λ Ev code.Mir.t-7 (at_ret Ev Post) $ sets ! (of_opd ! (get ! refl)) refl good $
    bundle_in ! r $ use1 𝓛 (‵ (Out.own_val (Some r) (v ∷ []))) (Some-of 𝓛 Bundle r (bundle_laws.lowered r)) $
    returns ! (look_at ! 0 refl) $ free_all ! refl $
    suffices ! _ (ends_at 𝓛 f.ended stayed c z v (Some r) (tt, tt) (tt, tt)) $ says ! (is_true d.held some, refl) $
    nothing ! $ nothing ! $ join ! $ nothing ! $ done !)
    (λ none.
    sets_last ! (agg ! (and_then ! (lit ! tt) (no_more !))) refl (tt, (record { fits = lit< tt }, tt)) $
    exec ! 𝓣.C 𝓣.Λ Ev code.Mir.t-7 (at_ret Ev Post) $
    sets ! (of_opd ! (get ! refl)) refl (tt, (record { fits = lit< tt }, tt)) $
    returns ! (look_at ! 0 refl) $ free_all ! refl $ drop ! $
    suffices ! _ (ends_at 𝓛 f.ended stayed c z (live 0 vnil) None (tt, tt) (tt, tt)) $ says ! (is_false d.held none) $
    use0 𝓛 (‵ (Out.own_val None (live 0 vnil ∷ []))) (none_of 𝓛 Bundle) $
    nothing ! $ nothing ! $ join ! $ nothing ! $ done !)))
