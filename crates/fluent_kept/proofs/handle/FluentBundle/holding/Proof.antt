-- `holding` keeps the bundle's pointers.
use Rattle.fluent_kept.proofs.Steps.{[], ◌∷◌, ◌++◌, refl, proved_at, SProp, ftrue, Val, tables, ‵, raw, ◌⊛◌, ◌$◌, ◌∵◌, !, qed, done, drop, keep, split, join, fsplit, suffices, prop, regoal, enter, of_opd, true_lit, stop, fld, no_more, and_then, returns, alloc_all, pass_all, free_all, look_at, get, get_in, sets, agg, whole, sub, owns, yes, plain, types_at, nothing, Stays, walk_of, says, stay_dropped, Goes-dropped, ends_at, WpFn, rawptr_Lawful}
use Rattle.std.specs.Prelude.{true}
use Rattle.fluent_kept.proofs.HandleMade.{handle_in, handle_good}
use Rattle.fluent_kept.proofs.BundleMade.{bundle_good}
use Rattle.fluent_kept.proofs.bundle.Bundle.TheLaws as bundle_laws
use Rattle.fluent_kept.proofs.handle.FluentBundle.TheLaws.{lowered}
use Rattle.fluent_kept.specs.contracts.bundle.Bundle.{the_row as Bundle}
use Rattle.fluent_kept.specs.contracts.handle.FluentBundle.{the_row}
use Rattle.fluent_kept.specs.contracts.handle.FluentBundle.holding as f
use Rattle.fluent_kept.proofs.handle.FluentBundle.holding.Statement.{statement}
use Rattle.fluent_kept.proofs.handle.FluentBundle.holding.Code as code

abbrev stayed : Stays f.ended.signature.params f.ended.kept
stayed = (stay_dropped (plain (λ _. Bundle)) yes, tt)

pub holding_spec : {M : Type 1} → statement M
holding_spec 𝓤 𝓛 𝓜 𝓡 wired =
    let H = 𝓛.H in let 𝓣 = tables 𝓤 H 𝓜 𝓡 𝓡.env in let c = f.clauses 𝓛 𝓜.mem 𝓡.returns in let fn = code.function in
    proved_at 𝓛 f.ended stayed c 𝓜 𝓡 (Goes-dropped 𝓛 0 (plain (λ _. Bundle)) yes (λ κs x w. refl), tt)
    f.Key.name fn (code.unfolded 𝓤 H 𝓜 𝓡 wired) (λ z are.
    let κs = z.0.0 in let args = z.0.3 in let words = z.0.4 in let Post : Val → SProp 𝓤 = (walk_of 𝓛 f.ended stayed c).post z in let v = args.0 in
    qed 𝓛 ((‵ ftrue ⊛ ‵ (owns (types_at f.ended.signature.params κs) args words)) ∷ raw ((c κs args).requires z.1) ∷ []) ∵
    split ! $ drop ! $ fsplit ! $ fsplit ! $ drop ! $ keep ! (0 ∷ []) $
    regoal ! (λ us. prop (WpFn 𝓤 H 𝓣.C 𝓣.Λ fn us Post)) (λ i. bundle_laws.lowers.val_is v words.0 are.0 i ++ []) refl $
    let d : the_row.Denot = record { held = true; sources = v.sources; read = v.read; desk = v.desk; catalog = v.catalog } in
    let sources = ((rawptr_Lawful 𝓛).typed v.sources _ refl).0 in let read = ((rawptr_Lawful 𝓛).typed v.read _ refl).0 in let desk = ((rawptr_Lawful 𝓛).typed v.desk _ refl).0 in
    enter ! _ _ _ _ _ $ alloc_all ! (λ l. pass_all ! refl (bundle_good 𝓛 v, tt) $
    sets ! (of_opd ! (get_in ! (fld ! refl (stop !)) (sub ! 0 refl (whole !)))) refl sources $
    sets ! (of_opd ! (get_in ! (fld ! refl (stop !)) (sub ! 1 refl (whole !)))) refl read $
    sets ! (of_opd ! (get_in ! (fld ! refl (stop !)) (sub ! 2 refl (whole !)))) refl desk $
    sets ! (of_opd ! (get ! refl)) refl sources $
    sets ! (agg ! (and_then ! (true_lit !) (and_then ! (get ! refl) (and_then ! (get ! refl) (and_then ! (get ! refl) (no_more !)))))) refl (handle_good 𝓛 d) $
    returns ! (look_at ! 0 refl) $ free_all ! refl $
    suffices ! _ (ends_at 𝓛 f.ended stayed c z (lowered d) d (tt, tt) (tt, tt)) $ says ! (refl, refl) $
    handle_in ! d $ nothing ! $ nothing ! $ join ! $ nothing ! $ done !))
