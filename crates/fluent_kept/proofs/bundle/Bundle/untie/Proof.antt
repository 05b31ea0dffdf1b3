-- `untie` frees the desk, ends the loan of what it refers to, and has the shelf again.
use Rattle.fluent_kept.proofs.Steps.{ℕ, [], ◌∷◌, ◌++◌, refl, ap, proved_at, SProp, ftrue, flft, full_share, id⊢, Val, vptr, tables, ‵, raw, ◌⊛◌, some, later, ◌$◌, ◌∵◌, !, qed, done, move, keep, drop, split, split3, join, fsplit, fjoin, fpick, fpack, pick, await, feq_l, suffices, use1, use2, enter, of_opd, stop, fld, no_more, and_then, returns, alloc_all, pass_all, free_all, look_at, get, get_in, sets, lands_as, env, is, agg, whole, sub, lft_end, lent_back, RattleType, owns, Ptr, block_ptr, ptr_val, yes, plain, types_at, nothing, Stays, walk_of, says, stay_dropped, Goes-dropped, ends_at, prop, regoal, calls_at, Lasts, lasts, triple_of, fm, handle_tells, WpFn, only, rawptr_Lawful}
use base.Fml.{fdead, Lft, Share}
use base.Share
use contract.BorrowLft.{meet_⊑_left, meet_⊑_right}
use denote.Builtin.{unit}
use base.Logic.{emp}
use denote.Signature.{named_lft}
use Rattle.std.specs.Box.Ownership.{box_owns}
use Rattle.std.specs.contracts.alloc.Global as heap
use Rattle.std.proofs.alloc.Global.TheLaws as heap_laws
use Rattle.std.specs.contracts.impls.GlobalAllocator.TheImpl.{ghosts}
use Rattle.fluent_kept.specs.Kept.{sources_row, resources_row, desk_row, boxed, shelf_owns}
use Rattle.fluent_kept.specs.Catalogs.{IsReadOf, IsDeskOf}
use Rattle.fluent_kept.specs.contracts.desk.KeptDesk as desk_of
use Rattle.fluent_kept.proofs.Made as shelf
use Rattle.fluent_kept.proofs.Made.{apart}
use Rattle.fluent_kept.proofs.BundleMade as bundle
use Rattle.fluent_kept.proofs.Heaps.{boxed_in, boxed_out, lent_out}
use Rattle.fluent_kept.proofs.Tokens.{met, goes_below, comes_up}
use Rattle.fluent_kept.proofs.Values.{both, RawBox, al, loose_good, loose_in}
use Rattle.fluent_kept.proofs.shelf.KeptSources.TheLaws as shelf_laws
use Rattle.fluent_kept.proofs.bundle.Bundle.TheLaws as bundle_laws
use Rattle.fluent_kept.specs.contracts.shelf.KeptSources.{the_row as KeptSources}
use Rattle.fluent_kept.specs.contracts.bundle.Bundle.{the_row as Bundle}
use Rattle.fluent_kept.specs.contracts.bundle.Bundle.untie as f
use Rattle.fluent_kept.proofs.bundle.Bundle.untie.Statement.{statement}
use Rattle.fluent_kept.proofs.bundle.Bundle.untie.Code as code
use Rattle.fluent_kept.specs.contracts.desk.discard_desk as g
use Rattle.fluent_kept.proofs.desk.discard_desk.Met as callee

abbrev stayed : Stays f.ended.signature.params f.ended.kept
stayed = (stay_dropped (plain (λ _. Bundle)) yes, (stay_dropped (plain (λ _. heap.the_row)) yes, tt))

pub untie_spec : {M : Type 1} → statement M
untie_spec 𝓤 𝓛 𝓜 𝓡 wired =
    let H = 𝓛.H in let 𝓣 = tables 𝓤 H 𝓜 𝓡 𝓡.env in let c = f.clauses 𝓛 𝓜.mem 𝓡.returns in let fn = code.function in let Z = heap.the_row in let LZ = heap_laws.the_row_laws in
    proved_at 𝓛 f.ended stayed c 𝓜 𝓡
    (Goes-dropped 𝓛 0 (plain (λ _. Bundle)) yes (λ κs x w. refl), (Goes-dropped 𝓛 0 (plain (λ _. heap.the_row)) yes (λ κs x w. refl), tt))
    f.Key.name fn (code.unfolded 𝓤 H 𝓜 𝓡 wired) (λ z are.
    let κs = z.0.0 in let args = z.0.3 in let words = z.0.4 in let Post : Val → SProp 𝓤 = (walk_of 𝓛 f.ended stayed c).post z in
    let d = args.0 in let a = args.1.0 in
    qed 𝓛 ((‵ ftrue ⊛ ‵ (owns (types_at f.ended.signature.params κs) args words)) ∷ raw ((c κs args).requires z.1) ∷ []) ∵
    split ! $ drop ! $ fsplit ! $ move ! (1 ∷ []) $ fsplit ! $ handle_tells (al sources_row Z LZ ghosts) ! a words.1.0 (λ h eh fits.
    move ! (2 ∷ []) $ fsplit ! $ drop ! $ keep ! (0 ∷ 1 ∷ []) $
    regoal ! (λ us. prop (WpFn 𝓤 H 𝓣.C 𝓣.Λ fn us Post)) (λ i. bundle_laws.lowers.val_is d words.0 are.0 i ++ (eh i ++ [])) refl $
    enter ! _ _ _ _ _ $ alloc_all ! (λ l. pass_all ! refl (bundle.bundle_good 𝓛 d, (fits, tt)) $ let Ev = env fn.locals l in
    sets ! (of_opd ! (get_in ! (fld ! refl (stop !)) (sub ! 0 refl (whole !)))) refl (((rawptr_Lawful 𝓛).typed d.sources _ refl).0) $
    sets ! (of_opd ! (get_in ! (fld ! refl (stop !)) (sub ! 1 refl (whole !)))) refl (((rawptr_Lawful 𝓛).typed d.read _ refl).0) $
    sets ! (of_opd ! (get_in ! (fld ! refl (stop !)) (sub ! 2 refl (whole !)))) refl (((rawptr_Lawful 𝓛).typed d.desk _ refl).0) $
    fpick ! (λ α. fpick ! (λ β. let κ : Lft = α ∷ [] in let κr : Lft = β ∷ κ in let m : Share = met full_share in
    fsplit ! $ move ! (1 ∷ []) $ fsplit ! $ move ! (1 ∷ []) $ fsplit ! $ move ! (1 ∷ []) $ fsplit ! $ move ! (1 ∷ []) $
    -- [the desk; what was read; the sources; the two tokens; the handle]
    boxed_out ! (desk_row κr κ) d.desk (λ l. IsDeskOf l d.catalog) (λ a3 b3 o3 l e3 lays.
    let Desk : RattleType = desk_of.the_row (named_lft 2 0 tt (κr, (κ, tt))) (named_lft 2 1 tt (κr, (κ, tt))) in
    use1 𝓛 (‵ (box_owns (ghosts.dealloc_token a) Desk (block_ptr b3 o3) l)) (id⊢ 𝓤 _) $
    sets ! (is ! (of_opd ! (get ! refl)) (ap ptr_val e3)) refl (tt, tt) $
    sets ! (agg ! (and_then ! (get ! refl) (and_then ! (get ! refl) (no_more !)))) refl (loose_good Desk Z LZ ghosts b3 o3 h fits) $
    move ! (0 ∷ 5 ∷ []) $ loose_in Desk Z LZ ghosts ! b3 o3 h a l $ move ! (3 ∷ 4 ∷ []) $ goes_below ! β κ full_share $
    nothing ! $ move ! (4 ∷ 0 ∷ []) $ join ! $ nothing ! $ move ! (3 ∷ 0 ∷ []) $ join ! $ move ! (2 ∷ 0 ∷ []) $ join ! $ join ! $ nothing ! $ move ! (1 ∷ 0 ∷ []) $
    let k = triple_of 𝓛 g.signature (g.spec 𝓛 𝓜.mem 𝓡.returns) in
    let gone : (RawBox Desk Z LZ ghosts).Denot = record { at = block_ptr b3 o3; alloc = a; value = l } in
    let y : k.Ghost = (((κr, (κ, tt)), (m, (Share.right full_share, tt)), (meet_⊑_right (β ∷ []) κ, tt), (gone, tt), (both (vptr b3 o3) h ∷ [], tt)), tt) in
    use2 𝓛 (raw (k.pre y)) (id⊢ 𝓤 _) $
    calls_at ! (fm 𝓛 𝓜 𝓡) k (callee.met 𝓤 𝓛 𝓜 𝓡 (code.calls-fluent_kept::desk::discard_desk 𝓡.env wired)) y (and_then ! (get ! refl) (no_more !)) (λ u.
    use1 𝓛 (later (some (λ (n : Unit {0}). ((‵ (flft κr m) ⊛ ‵ (flft κ (Share.right full_share)) ⊛ ‵ ftrue) ⊛ ‵ (unit.own_val n (u ∷ []))) ⊛
    some (λ (ls : Lasts g.ended y.0.0 y.0.3). ‵ (lasts g.ended y.0.0 y.0.3 ls) ⊛ raw (emp 𝓤))))) (id⊢ 𝓤 _) $
    await ! tt $ pick ! (λ n. split ! $ split ! $ split3 ! $ move ! (3 ∷ []) $ feq_l ! (λ is_unit. lands_as ! (ap only is_unit) refl (tt, tt) $
    move ! (2 ∷ []) $ drop ! $ move ! (2 ∷ []) $ drop ! $ comes_up ! β κ full_share $
    lft_end ! tt $ use1 𝓛 (‵ (fdead κr)) (𝓛.lfts.dead-incl κr (β ∷ []) (meet_⊑_left (β ∷ []) κ)) $ move ! (2 ∷ []) $
    lent_out ! κr (resources_row κ) d.read (λ w. IsReadOf w d.catalog) (λ a2 b2 o2 w e2 reads. move ! (2 ∷ 0 ∷ []) $ lent_back ! tt $ fjoin ! $ use1 𝓛 (‵ (boxed (resources_row κ) (block_ptr b2 o2) w a2)) (id⊢ 𝓤 _) $
    let back : KeptSources.Denot = record { sources = d.sources; read = block_ptr b2 o2; catalog = d.catalog } in
    boxed_in ! (resources_row κ) (block_ptr b2 o2) (λ v. IsReadOf v d.catalog) a2 w reads $
    move ! (2 ∷ 0 ∷ []) $ fjoin ! $ move ! (1 ∷ 0 ∷ []) $ fjoin ! $ fpack ! ℕ (shelf_owns d.sources (block_ptr b2 o2) d.catalog) α $ shelf.shelf_in ! back $
    sets ! (is ! (agg ! (and_then ! (get ! refl) (and_then ! (get ! refl) (no_more !)))) (ap (λ (p : Ptr). shelf_laws.lowered (record back { read = p })) e2)) refl (shelf.shelf_good 𝓛 back) $
    returns ! (look_at ! 0 refl) $ free_all ! refl $
    suffices ! _ (ends_at 𝓛 f.ended stayed c z (shelf_laws.lowered back) back (tt, (tt, tt)) (tt, (tt, tt))) $ says ! refl $
    nothing ! $ nothing ! $ join ! $ nothing ! $ join ! $ nothing ! $ done !))))))))))
