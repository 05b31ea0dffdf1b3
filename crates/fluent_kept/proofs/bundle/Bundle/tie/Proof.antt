-- `tie` lends what was read for a lifetime below that of the sources, and has a desk made of it.
use Rattle.fluent_kept.proofs.Steps.{ℕ, List, [], ◌∷◌, ◌++◌, refl, ap, ◌∙◌, subst, lit<, proved_at, SProp, ftrue, fex, flft, flent, full_share, id⊢, Val, vptr, vcons, vnil, tables, fact, ‵, raw, ◌⊛◌, some, later, at_ret, ◌$◌, ◌∵◌, !, qed, done, move, keep, drop, split, split3, join, fsplit, fjoin, fpick, fpack, pick, await, heard, suffices, use1, use2, enter, of_opd, lit, stop, fld, addr, no_more, and_then, returns, first, blocks, exec, alloc_all, pass_all, free_all, look_at, get, get_in, get_tag, through, sets, sets_last, lands_as, env, is, agg, whole, sub, lft_new, lft_end, lent_back, part_at, RattleType, owns, block_ptr, ptr_val, Bor, ShrRef, yes, plain, types_at, type_at, nothing, Stays, walk_of, says, stay_dropped, Goes-dropped, ends_at, prop, regoal, lends_shr, calls_at, Lasts, lasts, triple_of, fm, Good, handle_tells, WpFn, live, vrt, only, rawptr_Lawful}
use base.Fml.{fdead, Lft, Share}
use base.Share
use mir.Syntax.{erased, Body}
use mir.Val.{has_ty}
use package.mir.Val.{of_list}
use prog.Wp.{Wp, after_seq, at_return}
use contract.BorrowLft.{⊑_refl, meet_⊑_left, meet_⊑_right}
use types.Kit.{Post as After, any_q}
use types.Match.{in_variant}
use types.Run.{switches_on}
use denote.Param.{layout}
use denote.Signature.{named_lft}
use Rattle.core.specs.contracts.result.Result as RS
use Rattle.core.specs.declared.result.Result.TheVariants.{Ok, Err}
use Rattle.core.proofs.result.Made.{Ok-of, Err-of}
use Rattle.core.proofs.alloc.Shapes.{head, arm_body}
use Rattle.std_alloc.proofs.ResultValues.{and_tt}
use Rattle.std.specs.Prelude.{IfSome}
use Rattle.std.specs.contracts.alloc.Global as heap
use Rattle.std.proofs.alloc.Global.TheLaws as heap_laws
use Rattle.std.specs.contracts.impls.GlobalAllocator.TheImpl.{ghosts}
use Rattle.fluent_kept.specs.Kept.{sources_row, resources_row, desk_row, boxed, shelf_owns, bundle_owns}
use Rattle.fluent_kept.specs.Catalogs.{IsReadOf, IsDeskOf, IsDeskFor}
use Rattle.fluent_kept.specs.contracts.desk.KeptDesk as desk_of
use Rattle.fluent_kept.proofs.Made as shelf
use Rattle.fluent_kept.proofs.Made.{apart}
use Rattle.fluent_kept.proofs.BundleMade as bundle
use Rattle.fluent_kept.proofs.Heaps.{boxed_in, boxed_out, lent_in}
use Rattle.fluent_kept.proofs.Tokens.{met, goes_below, comes_up}
use Rattle.fluent_kept.proofs.Rows.{of_resources, resources_within}
use Rattle.fluent_kept.proofs.Values.{RawBox, al, loose_good, loose_out}
use Rattle.fluent_kept.proofs.shelf.KeptSources.TheLaws as shelf_laws
use Rattle.fluent_kept.proofs.bundle.Bundle.TheLaws as bundle_laws
use Rattle.fluent_kept.specs.contracts.shelf.KeptSources.{the_row as KeptSources}
use Rattle.fluent_kept.specs.contracts.bundle.Bundle.{the_row as Bundle}
use Rattle.fluent_kept.specs.contracts.bundle.Bundle.tie as f
use Rattle.fluent_kept.proofs.bundle.Bundle.tie.Statement.{statement}
use Rattle.fluent_kept.proofs.bundle.Bundle.tie.Code as code
use Rattle.fluent_kept.specs.contracts.desk.lay_out as g
use Rattle.fluent_kept.proofs.desk.lay_out.Met as callee

abbrev Result : RattleType
Result = RS.the_row Bundle KeptSources

abbrev stayed : Stays f.ended.signature.params f.ended.kept
stayed = (stay_dropped (plain (λ _. heap.the_row)) yes, (stay_dropped (plain (λ _. KeptSources)) yes, tt))

pub tie_spec : {M : Type 1} → statement M
tie_spec 𝓤 𝓛 𝓜 𝓡 wired =
    let H = 𝓛.H in let 𝓣 = tables 𝓤 H 𝓜 𝓡 𝓡.env in let c = f.clauses 𝓛 𝓜.mem 𝓡.returns in let fn = code.function in let Z = heap.the_row in let LZ = heap_laws.the_row_laws in
    proved_at 𝓛 f.ended stayed c 𝓜 𝓡
    (Goes-dropped 𝓛 0 (plain (λ _. heap.the_row)) yes (λ κs x w. refl), (Goes-dropped 𝓛 0 (plain (λ _. KeptSources)) yes (λ κs x w. refl), tt))
    f.Key.name fn (code.unfolded 𝓤 H 𝓜 𝓡 wired) (λ z are.
    let κs = z.0.0 in let args = z.0.3 in let words = z.0.4 in let Post : Val → SProp 𝓤 = (walk_of 𝓛 f.ended stayed c).post z in
    let a = args.0 in let d = args.1.0 in
    qed 𝓛 ((‵ ftrue ⊛ ‵ (owns (types_at f.ended.signature.params κs) args words)) ∷ raw ((c κs args).requires z.1) ∷ []) ∵
    split ! $ drop ! $ fsplit ! $ handle_tells (al sources_row Z LZ ghosts) ! a words.0 (λ h eh fits.
    move ! (1 ∷ []) $ fsplit ! $ fsplit ! $ drop ! $ fpick ! (λ α. let κ : Lft = α ∷ [] in fsplit ! $ move ! (1 ∷ []) $ fsplit ! $ move ! (1 ∷ []) $
    boxed_out ! (resources_row κ) d.read (λ w. IsReadOf w d.catalog) (λ a2 b2 o2 w e2 reads. fsplit ! $
    -- [what was read; its block; the sources; their token; the handle]
    move ! (4 ∷ []) $ drop ! $ keep ! (0 ∷ 1 ∷ 2 ∷ 3 ∷ 4 ∷ []) $
    regoal ! (λ us. prop (WpFn 𝓤 H 𝓣.C 𝓣.Λ fn us Post)) (λ i. eh i ++ (shelf_laws.lowers.val_is d words.1.0 are.1.0 i ++ [])) refl $
    enter ! _ _ _ _ _ $ alloc_all ! (λ l. pass_all ! refl (fits, (shelf.shelf_good 𝓛 d, tt)) $ let Ev = env fn.locals l in let Both : Body = head code.Mir.t-7 in
    let Then : After 𝓤 H = any_q (after_seq 𝓤 H (Wp 𝓤 H 𝓣.C 𝓣.Λ Ev code.Mir.t-8 (at_return 𝓤 H Ev Post)) (at_return 𝓤 H Ev Post)) in
    let sources_typed = ((rawptr_Lawful 𝓛).typed d.sources _ refl).0 in
    sets ! (of_opd ! (get_in ! (fld ! refl (stop !)) (sub ! 0 refl (whole !)))) refl sources_typed $
    sets ! (is ! (of_opd ! (get_in ! (fld ! refl (stop !)) (sub ! 1 refl (whole !)))) (ap ptr_val e2)) refl (tt, tt) $
    sets ! (of_opd ! (get ! refl)) refl fits $
    first ! $ blocks ! $ sets ! (of_opd ! (get ! refl)) refl (tt, tt) $ sets ! (of_opd ! (get ! refl)) refl (tt, tt) $ sets_last ! (addr ! (through ! refl (stop !))) refl (tt, tt) $
    exec ! 𝓣.C 𝓣.Λ Ev code.Mir.t-5 (at_ret Ev Post) $ sets ! (of_opd ! (get ! refl)) refl (tt, tt) $
    lft_new ! tt (λ β. let κr : Lft = β ∷ κ in let m : Share = met full_share in let r : Bor (resources_row κ).Denot = record { ref_ptr = (b2, o2); now = w } in
    move ! (0 ∷ 4 ∷ []) $ goes_below ! β κ full_share $ move ! (3 ∷ 0 ∷ []) $
    use2 𝓛 (later ((‵ ((ShrRef erased κr (resources_row κ)).own_val r (vptr b2 o2 ∷ [])) ⊛ ‵ (flent κr (part_at (resources_row κ) full_share w b2 o2))) ⊛ ‵ (flft κr m)))
    (lends_shr 𝓛 (resources_row κ) erased κr full_share w b2 o2 (resources_row κ).lives ((of_resources κ).shares 𝓛 w) ((κr, m) ∷ []) (resources_within κr κ (meet_⊑_right (β ∷ []) κ)) (⊑_refl κr)) $ await ! tt $ split ! $ split ! $
    -- [the loan; what it leaves; its token; a part of the sources' token; the way back; the block; the sources; the handle]
    nothing ! $ move ! (1 ∷ 0 ∷ []) $ join ! $ move ! (7 ∷ 0 ∷ []) $ join ! $
    nothing ! $ move ! (4 ∷ 0 ∷ []) $ join ! $ move ! (3 ∷ 0 ∷ []) $ join ! $ join ! $ nothing ! $ move ! (1 ∷ 0 ∷ []) $
    let k = triple_of 𝓛 g.signature (g.spec 𝓛 𝓜.mem 𝓡.returns) in
    let y : k.Ghost = (((κr, (κ, tt)), (m, (Share.right full_share, tt)), (meet_⊑_right (β ∷ []) κ, tt), (a, (r, tt)), (h ∷ [], (vptr b2 o2 ∷ [], tt))), tt) in
    let Out : RattleType = type_at g.signature.result y.0.0 in
    let Desk : RattleType = desk_of.the_row (named_lft 2 0 tt y.0.0) (named_lft 2 1 tt y.0.0) in
    use2 𝓛 (raw (k.pre y)) (id⊢ 𝓤 _) $
    calls_at ! (fm 𝓛 𝓜 𝓡) k (callee.met 𝓤 𝓛 𝓜 𝓡 (code.calls-fluent_kept::desk::lay_out 𝓡.env wired)) y (and_then ! (get ! refl) (and_then ! (get ! refl) (no_more !))) (λ u.
    use1 𝓛 (later (some (λ (n : Out.Denot). ((‵ (flft κr m) ⊛ ‵ (flft κ (Share.right full_share)) ⊛ ‵ ftrue) ⊛ ‵ (Out.own_val n (u ∷ []))) ⊛
    some (λ (ls : Lasts g.ended y.0.0 y.0.3). ‵ (lasts g.ended y.0.0 y.0.3 ls) ⊛ raw (fact 𝓤 (IfSome n (λ l. IsDeskFor w l.value))))))) (id⊢ 𝓤 _) $
    await ! tt $ pick ! (λ n. split ! $ split ! $ split3 ! $ move ! (4 ∷ []) $ pick ! (λ ls. split ! $ drop ! $ heard ! _ (λ lays.
    move ! (2 ∷ []) $ drop ! $ move ! (0 ∷ 1 ∷ 4 ∷ []) $ comes_up ! β κ full_share $ move ! (2 ∷ []) $
    -- [the desk, if there is one; the tokens; what the loan leaves; the block; the sources]
    apart (RawBox Desk Z LZ ghosts) ! n (u ∷ [])
    (λ x us is ev. loose_out Desk Z LZ ghosts ! x us (λ b3 o3 h3 e3 ws3 fits3. move ! (1 ∷ []) $ drop ! $
    let typed = loose_good Desk Z LZ ghosts b3 o3 h3 fits3 in
    let d' : Bundle.Denot = record { sources = d.sources; read = block_ptr b2 o2; desk = block_ptr b3 o3; catalog = d.catalog } in
    let lays-so : IsDeskFor w x.value = subst (λ (n' : Out.Denot). IfSome n' (λ l. IsDeskFor w l.value)) is lays in let answers : IsDeskOf x.value d.catalog = lays-so.of_catalog d.catalog reads in
    let v' : Val = live 0 (vcons (bundle_laws.lowered d') vnil) in let good : Good (layout Result) v' = (and_tt (has_ty (layout Bundle) (bundle_laws.lowered d')) (bundle.bundle_good 𝓛 d').0, (record { fits = lit< tt }, ((bundle.bundle_good 𝓛 d').1, tt))) in
    lands_as ! (ap only ev ∙ ap (λ (vs : List Val). live 1 (of_list (vs ++ []))) ws3) refl (and_tt _ typed.0, (record { fits = lit< tt }, (typed.1, tt))) $
    first ! $ switches_on ! (get_tag ! (vrt ! refl (fld ! refl (stop !))) (whole !)) $ exec ! 𝓣.C 𝓣.Λ Ev (arm_body 0 Both) Then $
    sets ! (of_opd ! (get_in ! (vrt ! refl (fld ! refl (stop !))) (in_variant ! 1 0 refl refl (whole !)))) refl typed $
    sets ! (of_opd ! (get_in ! (fld ! refl (stop !)) (sub ! 0 refl (whole !)))) refl (tt, tt) $
    sets ! (of_opd ! (get ! refl)) refl sources_typed $ sets ! (of_opd ! (get ! refl)) refl (tt, tt) $ sets ! (of_opd ! (get ! refl)) refl (tt, tt) $ sets ! (of_opd ! (get ! refl)) refl (tt, tt) $
    sets ! (agg ! (and_then ! (get ! refl) (and_then ! (get ! refl) (and_then ! (get ! refl) (no_more !))))) refl (bundle.bundle_good 𝓛 d') $
    sets_last ! (agg ! (and_then ! (lit ! tt) (and_then ! (get ! refl) (no_more !)))) refl good $
    exec ! 𝓣.C 𝓣.Λ Ev code.Mir.t-8 (at_ret Ev Post) $ sets ! (of_opd ! (get ! refl)) refl good $
    returns ! (look_at ! 0 refl) $ free_all ! refl $
    suffices ! _ (ends_at 𝓛 f.ended stayed c z v' (Ok d') (tt, (tt, tt)) (tt, (tt, tt))) $ says ! refl $
    use1 𝓛 (‵ (boxed (desk_row κr κ) (block_ptr b3 o3) x.value x.alloc)) (id⊢ 𝓤 _) $
    boxed_in ! (desk_row κr κ) (block_ptr b3 o3) (λ l. IsDeskOf l d.catalog) x.alloc x.value answers $
    move ! (3 ∷ 4 ∷ []) $ lent_in ! κr (resources_row κ) (λ v. IsReadOf v d.catalog) a2 b2 o2 w reads $ fjoin ! $ move ! (3 ∷ 0 ∷ []) $ fjoin ! $ move ! (1 ∷ 0 ∷ []) $ fjoin ! $ move ! (1 ∷ 0 ∷ []) $ fjoin ! $
    let owns_at = bundle_owns d.sources (block_ptr b2 o2) (block_ptr b3 o3) d.catalog in
    fpack ! ℕ (owns_at α) β $ fpack ! ℕ (λ α'. fex ℕ (owns_at α')) α $ bundle.bundle_in ! d' $
    use1 𝓛 (‵ (Result.own_val (Ok d') (v' ∷ []))) (Ok-of 𝓛 Bundle KeptSources d' (bundle_laws.lowered d')) $
    nothing ! $ nothing ! $ join ! $ nothing ! $ join ! $ nothing ! $ done !))
    (λ is ev.
    let back : KeptSources.Denot = record { sources = d.sources; read = block_ptr b2 o2; catalog = d.catalog } in let word = shelf_laws.lowered back in
    let v' : Val = live 1 (vcons word vnil) in let good : Good (layout Result) v' = (and_tt (has_ty (layout KeptSources) word) (shelf.shelf_good 𝓛 back).0, (record { fits = lit< tt }, ((shelf.shelf_good 𝓛 back).1, tt))) in
    lft_end ! tt $ use1 𝓛 (‵ (fdead κr)) (𝓛.lfts.dead-incl κr (β ∷ []) (meet_⊑_left (β ∷ []) κ)) $
    move ! (0 ∷ 2 ∷ []) $ lent_back ! tt $ move ! (0 ∷ 2 ∷ []) $ fjoin ! $ use1 𝓛 (‵ (boxed (resources_row κ) (block_ptr b2 o2) w a2)) (id⊢ 𝓤 _) $
    boxed_in ! (resources_row κ) (block_ptr b2 o2) (λ v. IsReadOf v d.catalog) a2 w reads $
    move ! (2 ∷ 0 ∷ []) $ fjoin ! $ move ! (1 ∷ 0 ∷ []) $ fjoin ! $ fpack ! ℕ (shelf_owns d.sources (block_ptr b2 o2) d.catalog) α $ shelf.shelf_in ! back $
    lands_as ! (ap only ev) refl (tt, (record { fits = lit< tt }, tt)) $
    first ! $ switches_on ! (get_tag ! (vrt ! refl (fld ! refl (stop !))) (whole !)) $ exec ! 𝓣.C 𝓣.Λ Ev (arm_body 1 Both) Then $
    sets ! (of_opd ! (get ! refl)) refl sources_typed $ sets ! (of_opd ! (get ! refl)) refl (tt, tt) $
    sets ! (agg ! (and_then ! (get ! refl) (and_then ! (get ! refl) (no_more !)))) refl (shelf.shelf_good 𝓛 back) $
    sets_last ! (agg ! (and_then ! (lit ! tt) (and_then ! (get ! refl) (no_more !)))) refl good $
    exec ! 𝓣.C 𝓣.Λ Ev code.Mir.t-8 (at_ret Ev Post) $ sets ! (of_opd ! (get ! refl)) refl good $
    returns ! (look_at ! 0 refl) $ free_all ! refl $
    suffices ! _ (ends_at 𝓛 f.ended stayed c z v' (Err back) (tt, (tt, tt)) (tt, (tt, tt))) $ says ! refl $
    use1 𝓛 (‵ (Result.own_val (Err back) (v' ∷ []))) (Err-of 𝓛 Bundle KeptSources back word) $
    nothing ! $ nothing ! $ join ! $ nothing ! $ join ! $ nothing ! $ done !)))))))))))
