-- `tie` lends the sources for a lifetime of their own, and has them read.
use Rattle.fluent_kept.proofs.Steps.{◌≡◌, ℕ, List, [], ◌∷◌, ◌++◌, refl, ap, ◌∙◌, subst, lit<, proved_at, SProp, ftrue, flft, full_share, id⊢, Val, vptr, tables, fact, ‵, raw, ◌⊛◌, some, later, at_ret, ◌$◌, ◌∵◌, !, qed, done, move, keep, drop, split, join, fsplit, fjoin, fpack, pick, await, heard, suffices, use1, use2, enter, of_opd, lit, stop, fld, addr, no_more, and_then, returns, first, blocks, exec, alloc_all, pass_all, free_all, look_at, get, get_in, through, sets, sets_last, lands_as, env, agg, whole, sub, lft_new, lft_end, lent_back, part_at, RattleType, owns, block_ptr, Bor, ShrRef, yes, plain, types_at, type_at, nothing, Stays, walk_of, says, stay_dropped, Goes-dropped, ends_at, prop, regoal, lends_shr, calls_at, Lasts, lasts, triple_of, fm, Good, handle_tells, WpFn}
use mir.Syntax.{erased}
use Rattle.std.specs.Prelude.{IfSome}
use Rattle.std.specs.contracts.alloc.Global as heap
use Rattle.std.proofs.alloc.Global.TheLaws as heap_laws
use Rattle.std.specs.contracts.impls.GlobalAllocator.TheImpl.{ghosts}
use Rattle.fluent_kept.specs.Kept.{sources_row, resources_row, boxed}
use Rattle.fluent_kept.proofs.Made.{shelf_in, shelf_good, apart}
use Rattle.fluent_kept.proofs.Values.{both, RawBox, al, loose_good, loose_out, loose_in}
use Rattle.fluent_kept.proofs.shelf.KeptSources.TheLaws.{lowered}
use Rattle.fluent_kept.specs.contracts.shelf.KeptSources.{the_row}
use Rattle.fluent_kept.specs.contracts.shelf.KeptSources.tie as f
use Rattle.fluent_kept.proofs.shelf.KeptSources.tie.Statement.{statement}
use Rattle.fluent_kept.proofs.shelf.KeptSources.tie.Code as code
use Rattle.fluent_kept.specs.contracts.resources.read_out as g
use Rattle.fluent_kept.proofs.resources.read_out.Met.{met}
use base.Fml.{flent}
use contract.BorrowLft.{⊑_refl}
use Rattle.fluent_kept.proofs.Rows.{of_sources, sources_within}
use denote.Signature.{named_lft}
use Rattle.fluent_kept.specs.contracts.resources.Resources as read_of
use mir.Syntax.{Body}
use mir.Val.{vcons, vnil, has_ty}
use denote.Param.{layout}
use Rattle.core.specs.contracts.result.Result as RS
use Rattle.core.specs.declared.result.Result.TheVariants.{Ok, Err}
use Rattle.core.proofs.result.Made.{Ok-of, Err-of}
use package.mir.Val.{of_list}
use prog.Wp.{Wp, after_seq, at_return}
use types.Kit.{Post as After, any_q}
use types.Match.{live, in_variant, vrt}
use types.Run.{switches_on}
use types.ByLocal.{get_tag}
use denote.Steps.{only}
use Rattle.core.proofs.alloc.Shapes.{head, arm_body}
use Rattle.std_alloc.proofs.ResultValues.{and_tt}
use Rattle.fluent_kept.specs.Kept.{shelf_owns}
use Rattle.fluent_kept.specs.Catalogs.{catalog_of, IsReadOf}
use Rattle.fluent_kept.proofs.Heaps.{boxed_in, lent_in}

abbrev Owner : RattleType
Owner = RawBox sources_row heap.the_row heap_laws.the_row_laws ghosts

abbrev Result : RattleType
Result = RS.the_row the_row Owner

abbrev stayed : Stays f.ended.signature.params f.ended.kept
stayed = (stay_dropped (plain (λ _. heap.the_row)) yes, (stay_dropped (plain (λ _. Owner)) yes, tt))

pub tie_spec : {M : Type 1} → statement M
tie_spec 𝓤 𝓛 𝓜 𝓡 wired =
    let H = 𝓛.H in let 𝓣 = tables 𝓤 H 𝓜 𝓡 𝓡.env in let c = f.clauses 𝓛 𝓜.mem 𝓡.returns in let fn = code.function in let Z = heap.the_row in let LZ = heap_laws.the_row_laws in
    proved_at 𝓛 f.ended stayed c 𝓜 𝓡
    (Goes-dropped 𝓛 0 (plain (λ _. heap.the_row)) yes (λ κs x w. refl), (Goes-dropped 𝓛 0 (plain (λ _. Owner)) yes (λ κs x w. refl), tt))
    f.Key.name fn (code.unfolded 𝓤 H 𝓜 𝓡 wired) (λ z are.
    let κs = z.0.0 in let args = z.0.3 in let words = z.0.4 in let Post : Val → SProp 𝓤 = (walk_of 𝓛 f.ended stayed c).post z in
    let a = args.0 in let d = args.1.0 in
    qed 𝓛 ((‵ ftrue ⊛ ‵ (owns (types_at f.ended.signature.params κs) args words)) ∷ raw ((c κs args).requires z.1) ∷ []) ∵
    split ! $ drop ! $ fsplit ! $ handle_tells (al sources_row Z LZ ghosts) ! a words.0 (λ h eh fits.
    move ! (1 ∷ []) $ fsplit ! $ loose_out sources_row Z LZ ghosts ! d words.1.0 (λ b o h2 e ws fits2.
    fsplit ! $ keep ! (0 ∷ 1 ∷ 4 ∷ 2 ∷ []) $
    regoal ! (λ us. prop (WpFn 𝓤 H 𝓣.C 𝓣.Λ fn us Post)) (λ i. eh i ++ (ws i ++ [])) refl $
    enter ! _ _ _ _ _ $ alloc_all ! (λ l. pass_all ! refl (fits, (loose_good sources_row Z LZ ghosts b o h2 fits2, tt)) $ let Ev = env fn.locals l in let Both : Body = head code.Mir.t-7 in
    let Then : After 𝓤 H = any_q (after_seq 𝓤 H (Wp 𝓤 H 𝓣.C 𝓣.Λ Ev code.Mir.t-8 (at_return 𝓤 H Ev Post)) (at_return 𝓤 H Ev Post)) in
    sets ! (of_opd ! (get_in ! (fld ! refl (stop !)) (sub ! 0 refl (whole !)))) refl (tt, tt) $
    sets ! (of_opd ! (get_in ! (fld ! refl (stop !)) (sub ! 1 refl (whole !)))) refl fits2 $
    sets ! (of_opd ! (get ! refl)) refl fits $
    first ! $ blocks ! $ sets_last ! (addr ! (through ! refl (stop !))) refl (tt, tt) $
    exec ! 𝓣.C 𝓣.Λ Ev code.Mir.t-5 (at_ret Ev Post) $
    sets ! (of_opd ! (get ! refl)) refl (tt, tt) $
    lft_new ! tt (λ α. let κ = α ∷ [] in let r : Bor sources_row.Denot = record { ref_ptr = (b, o); now = d.value } in
    move ! (1 ∷ 0 ∷ []) $
    use2 𝓛 (later ((‵ ((ShrRef erased κ sources_row).own_val r (vptr b o ∷ [])) ⊛ ‵ (flent κ (part_at sources_row full_share d.value b o))) ⊛ ‵ (flft κ full_share)))
    (lends_shr 𝓛 sources_row erased κ full_share d.value b o sources_row.lives (of_sources.shares 𝓛 d.value) ((κ, full_share) ∷ []) (sources_within κ) (⊑_refl κ)) $ await ! tt $
    split ! $ split ! $
    nothing ! $ move ! (1 ∷ 0 ∷ []) $ join ! $ move ! (4 ∷ 0 ∷ []) $ join ! $
    nothing ! $ move ! (3 ∷ 0 ∷ []) $ join ! $ join ! $ nothing ! $ move ! (1 ∷ 0 ∷ []) $
    let k = triple_of 𝓛 g.signature (g.spec 𝓛 𝓜.mem 𝓡.returns) in
    let y : k.Ghost = (((κ, tt), (full_share, tt), tt, (a, (r, tt)), (h ∷ [], (vptr b o ∷ [], tt))), tt) in
    let Out : RattleType = type_at g.signature.result (κ, tt) in
    let Read : RattleType = read_of.the_row (named_lft 1 0 tt (κ, tt)) in
    use2 𝓛 (raw (k.pre y)) (id⊢ 𝓤 _) $
    calls_at ! (fm 𝓛 𝓜 𝓡) k (met 𝓤 𝓛 𝓜 𝓡 (code.calls-fluent_kept::resources::read_out 𝓡.env wired)) y (and_then ! (get ! refl) (and_then ! (get ! refl) (no_more !))) (λ u.
    use1 𝓛 (later (some (λ (m : Out.Denot). ((‵ (flft κ full_share) ⊛ ‵ ftrue) ⊛ ‵ (Out.own_val m (u ∷ []))) ⊛
    some (λ (ls : Lasts g.ended (κ, tt) (a, (r, tt))). ‵ (lasts g.ended (κ, tt) (a, (r, tt)) ls) ⊛ raw (fact 𝓤 (IfSome m (λ w. IsReadOf w.value (catalog_of d.value)))))))) (id⊢ 𝓤 _) $
    await ! tt $ pick ! (λ m. split ! $ split ! $ split ! $ move ! (3 ∷ []) $ pick ! (λ ls. split ! $ drop ! $ heard ! _ (λ reads.
    move ! (1 ∷ []) $ drop ! $ move ! (1 ∷ []) $
    apart (RawBox Read Z LZ ghosts) ! m (u ∷ [])
    (λ x us is e. loose_out Read Z LZ ghosts ! x us (λ b2 o2 h3 e3 ws3 fits3. move ! (1 ∷ []) $ drop ! $
    let typed = loose_good Read Z LZ ghosts b2 o2 h3 fits3 in
    let d' : the_row.Denot = record { sources = block_ptr b o; read = block_ptr b2 o2; catalog = catalog_of d.value } in
    let same : IsReadOf x.value (catalog_of d.value) = subst (λ (n : Out.Denot). IfSome n (λ w. IsReadOf w.value (catalog_of d.value))) is reads in
    let v' : Val = live 0 (vcons (lowered d') vnil) in let good : Good (layout Result) v' = (and_tt (has_ty (layout the_row) (lowered d')) (shelf_good 𝓛 d').0, (record { fits = lit< tt }, ((shelf_good 𝓛 d').1, tt))) in
    lands_as ! (ap only e ∙ ap (λ (vs : List Val). live 1 (of_list (vs ++ []))) ws3) refl (and_tt _ typed.0, (record { fits = lit< tt }, (typed.1, tt))) $
    first ! $ switches_on ! (get_tag ! (vrt ! refl (fld ! refl (stop !))) (whole !)) $ exec ! 𝓣.C 𝓣.Λ Ev (arm_body 0 Both) Then $
    sets ! (of_opd ! (get_in ! (vrt ! refl (fld ! refl (stop !))) (in_variant ! 1 0 refl refl (whole !)))) refl typed $
    sets ! (of_opd ! (get_in ! (fld ! refl (stop !)) (sub ! 0 refl (whole !)))) refl (tt, tt) $
    sets ! (of_opd ! (get ! refl)) refl (tt, tt) $ sets ! (of_opd ! (get ! refl)) refl (tt, tt) $ sets ! (of_opd ! (get ! refl)) refl (tt, tt) $
    sets ! (agg ! (and_then ! (get ! refl) (and_then ! (get ! refl) (no_more !)))) refl (shelf_good 𝓛 d') $
    sets_last ! (agg ! (and_then ! (lit ! tt) (and_then ! (get ! refl) (no_more !)))) refl good $
    exec ! 𝓣.C 𝓣.Λ Ev code.Mir.t-8 (at_ret Ev Post) $ sets ! (of_opd ! (get ! refl)) refl good $
    returns ! (look_at ! 0 refl) $ free_all ! refl $ move ! (4 ∷ []) $ drop ! $
    suffices ! _ (ends_at 𝓛 f.ended stayed c z v' (Ok d') (tt, (tt, tt)) (tt, (tt, tt))) $ says ! refl $
    use1 𝓛 (‵ (boxed (resources_row κ) (block_ptr b2 o2) x.value x.alloc)) (id⊢ 𝓤 _) $
    boxed_in ! (resources_row κ) (block_ptr b2 o2) (λ w. IsReadOf w (catalog_of d.value)) x.alloc x.value same $
    move ! (2 ∷ 3 ∷ []) $ lent_in ! κ sources_row (λ v. catalog_of v ≡ catalog_of d.value) d.alloc b o d.value refl $ fjoin ! $ move ! (1 ∷ 0 ∷ []) $ fjoin ! $
    fpack ! ℕ (shelf_owns (block_ptr b o) (block_ptr b2 o2) (catalog_of d.value)) α $ shelf_in ! d' $
    use1 𝓛 (‵ (Result.own_val (Ok d') (v' ∷ []))) (Ok-of 𝓛 the_row Owner d' (lowered d')) $
    nothing ! $ nothing ! $ join ! $ nothing ! $ join ! $ nothing ! $ done !))
    (λ is e.
    let back : Owner.Denot = record { at = block_ptr b o; alloc = d.alloc; value = d.value } in let typed = loose_good sources_row Z LZ ghosts b o h2 fits2 in
    let v' : Val = live 1 (vcons (both (vptr b o) h2) vnil) in let good : Good (layout Result) v' = (and_tt _ typed.0, (record { fits = lit< tt }, (typed.1, tt))) in
    lft_end ! tt $ lent_back ! tt $ fjoin ! $ loose_in sources_row Z LZ ghosts ! b o h2 d.alloc d.value $
    lands_as ! (ap only e) refl (tt, (record { fits = lit< tt }, tt)) $
    first ! $ switches_on ! (get_tag ! (vrt ! refl (fld ! refl (stop !))) (whole !)) $ exec ! 𝓣.C 𝓣.Λ Ev (arm_body 1 Both) Then $
    sets ! (of_opd ! (get ! refl)) refl (tt, tt) $ sets ! (of_opd ! (get ! refl)) refl fits2 $
    sets ! (agg ! (and_then ! (get ! refl) (and_then ! (get ! refl) (no_more !)))) refl typed $
    sets_last ! (agg ! (and_then ! (lit ! tt) (and_then ! (get ! refl) (no_more !)))) refl good $
    exec ! 𝓣.C 𝓣.Λ Ev code.Mir.t-8 (at_ret Ev Post) $ sets ! (of_opd ! (get ! refl)) refl good $
    returns ! (look_at ! 0 refl) $ free_all ! refl $
    suffices ! _ (ends_at 𝓛 f.ended stayed c z v' (Err back) (tt, (tt, tt)) (tt, (tt, tt))) $ says ! refl $
    use1 𝓛 (‵ (Result.own_val (Err back) (v' ∷ []))) (Err-of 𝓛 the_row Owner back (both (vptr b o) h2)) $
    nothing ! $ nothing ! $ join ! $ nothing ! $ join ! $ nothing ! $ done !))))))))))
