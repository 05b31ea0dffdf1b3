-- `untie` lets what was read go, ends the loan, and has the sources back.
use Rattle.fluent_kept.proofs.Steps.{◌≡◌, [], ◌∷◌, ◌++◌, refl, ap, proved_at, SProp, ftrue, flft, full_share, id⊢, Val, vptr, tables, ‵, raw, ◌⊛◌, some, later, ◌$◌, ◌∵◌, !, qed, done, move, keep, drop, split, join, fsplit, fjoin, fpick, pick, await, feq_l, suffices, use1, use2, enter, of_opd, stop, fld, no_more, and_then, returns, alloc_all, pass_all, free_all, look_at, get, get_in, sets, lands_as, env, is, agg, whole, sub, lft_end, lent_back, RattleType, owns, Ptr, block_ptr, ptr_val, yes, plain, types_at, nothing, Stays, walk_of, says, stay_dropped, Goes-dropped, ends_at, prop, regoal, calls_at, Lasts, lasts, triple_of, fm, handle_tells, WpFn, rawptr_Lawful, only}
use denote.Builtin.{unit}
use denote.Signature.{named_lft}
use Rattle.std.specs.contracts.alloc.Global as heap
use Rattle.std.proofs.alloc.Global.TheLaws as heap_laws
use Rattle.std.specs.contracts.impls.GlobalAllocator.TheImpl.{ghosts}
use Rattle.fluent_kept.specs.contracts.resources.Resources as read_of
use Rattle.fluent_kept.specs.Kept.{sources_row, resources_row}
use Rattle.fluent_kept.specs.Catalogs.{catalog_of, IsReadOf}
use Rattle.fluent_kept.proofs.Made.{good_of}
use Rattle.fluent_kept.proofs.Heaps.{boxed_out, lent_out, handle_twice}
use Rattle.fluent_kept.proofs.Values.{both, RawBox, al, loose_good, loose_in}
use Rattle.fluent_kept.proofs.shelf.KeptSources.TheLaws.{lowers}
use Rattle.fluent_kept.specs.contracts.shelf.KeptSources.{the_row}
use Rattle.fluent_kept.specs.contracts.shelf.KeptSources.untie as f
use Rattle.fluent_kept.proofs.shelf.KeptSources.untie.Statement.{statement}
use Rattle.fluent_kept.proofs.shelf.KeptSources.untie.Code as code
use Rattle.fluent_kept.specs.contracts.resources.discard_resources as g
use Rattle.fluent_kept.proofs.resources.discard_resources.Met.{met}
use base.Logic.{emp}
use Rattle.std.specs.Box.Ownership.{box_owns}

abbrev stayed : Stays f.ended.signature.params f.ended.kept
stayed = (stay_dropped (plain (λ _. the_row)) yes, (stay_dropped (plain (λ _. heap.the_row)) yes, tt))

pub untie_spec : {M : Type 1} → statement M
untie_spec 𝓤 𝓛 𝓜 𝓡 wired =
    let H = 𝓛.H in let 𝓣 = tables 𝓤 H 𝓜 𝓡 𝓡.env in let c = f.clauses 𝓛 𝓜.mem 𝓡.returns in let fn = code.function in let Z = heap.the_row in let LZ = heap_laws.the_row_laws in
    proved_at 𝓛 f.ended stayed c 𝓜 𝓡
    (Goes-dropped 𝓛 0 (plain (λ _. the_row)) yes (λ κs x w. refl), (Goes-dropped 𝓛 0 (plain (λ _. heap.the_row)) yes (λ κs x w. refl), tt))
    f.Key.name fn (code.unfolded 𝓤 H 𝓜 𝓡 wired) (λ z are.
    let κs = z.0.0 in let args = z.0.3 in let words = z.0.4 in let Post : Val → SProp 𝓤 = (walk_of 𝓛 f.ended stayed c).post z in
    let d = args.0 in let a = args.1.0 in
    qed 𝓛 ((‵ ftrue ⊛ ‵ (owns (types_at f.ended.signature.params κs) args words)) ∷ raw ((c κs args).requires z.1) ∷ []) ∵
    split ! $ drop ! $ fsplit ! $ move ! (1 ∷ []) $ fsplit ! $ handle_tells (al sources_row Z LZ ghosts) ! a words.1.0 (λ h eh fits.
    handle_twice ! a (h ∷ []) $ move ! (3 ∷ []) $ fsplit ! $ drop ! $ keep ! (0 ∷ 1 ∷ 2 ∷ []) $
    regoal ! (λ us. prop (WpFn 𝓤 H 𝓣.C 𝓣.Λ fn us Post)) (λ i. lowers.val_is d words.0 are.0 i ++ (eh i ++ [])) refl $
    enter ! _ _ _ _ _ $ alloc_all ! (λ l. pass_all ! refl (good_of 𝓛 d words.0 are.0, (fits, tt)) $ let Ev = env fn.locals l in
    sets ! (of_opd ! (get_in ! (fld ! refl (stop !)) (sub ! 0 refl (whole !)))) refl (((rawptr_Lawful 𝓛).typed d.sources _ refl).0) $
    sets ! (of_opd ! (get_in ! (fld ! refl (stop !)) (sub ! 1 refl (whole !)))) refl (((rawptr_Lawful 𝓛).typed d.read _ refl).0) $
    fpick ! (λ α. let κ = α ∷ [] in fsplit ! $ move ! (1 ∷ []) $ fsplit ! $ move ! (1 ∷ []) $
    boxed_out ! (resources_row κ) d.read (λ w. IsReadOf w d.catalog) (λ a2 b2 o2 w e2 same2.
    let Read : RattleType = read_of.the_row (named_lft 1 0 tt (κ, tt)) in
    use1 𝓛 (‵ (box_owns (ghosts.dealloc_token a) Read (block_ptr b2 o2) w)) (id⊢ 𝓤 _) $
    sets ! (is ! (of_opd ! (get ! refl)) (ap ptr_val e2)) refl (tt, tt) $
    sets ! (agg ! (and_then ! (get ! refl) (and_then ! (get ! refl) (no_more !)))) refl (loose_good Read Z LZ ghosts b2 o2 h fits) $
    move ! (0 ∷ 3 ∷ []) $ loose_in Read Z LZ ghosts ! b2 o2 h a w $
    nothing ! $ move ! (1 ∷ 0 ∷ []) $ join ! $ nothing ! $ move ! (3 ∷ 0 ∷ []) $ join ! $ join ! $ nothing ! $ move ! (1 ∷ 0 ∷ []) $
    let k = triple_of 𝓛 g.signature (g.spec 𝓛 𝓜.mem 𝓡.returns) in
    let gone : (RawBox Read Z LZ ghosts).Denot = record { at = block_ptr b2 o2; alloc = a; value = w } in
    let y : k.Ghost = (((κ, tt), (full_share, tt), tt, (gone, tt), (both (vptr b2 o2) h ∷ [], tt)), tt) in
    use2 𝓛 (raw (k.pre y)) (id⊢ 𝓤 _) $
    calls_at ! (fm 𝓛 𝓜 𝓡) k (met 𝓤 𝓛 𝓜 𝓡 (code.calls-fluent_kept::resources::discard_resources 𝓡.env wired)) y (and_then ! (get ! refl) (no_more !)) (λ u.
    use1 𝓛 (later (some (λ (n : Unit {0}). ((‵ (flft κ full_share) ⊛ ‵ ftrue) ⊛ ‵ (unit.own_val n (u ∷ []))) ⊛
    some (λ (ls : Lasts g.ended (κ, tt) (gone, tt)). ‵ (lasts g.ended (κ, tt) (gone, tt) ls) ⊛ raw (emp 𝓤))))) (id⊢ 𝓤 _) $
    await ! tt $ pick ! (λ n. split ! $ split ! $ split ! $ lft_end ! tt $ move ! (2 ∷ []) $ feq_l ! (λ is_unit.
    lands_as ! (ap only is_unit) refl (tt, tt) $
    move ! (1 ∷ []) $ drop ! $ move ! (1 ∷ []) $ drop ! $ move ! (1 ∷ []) $
    lent_out ! κ sources_row d.sources (λ v. catalog_of v ≡ d.catalog) (λ a3 b o v e same. move ! (2 ∷ 0 ∷ []) $ lent_back ! tt $ fjoin ! $
    use1 𝓛 (‵ (box_owns (ghosts.dealloc_token a) sources_row (block_ptr b o) v)) (id⊢ 𝓤 _) $ loose_in sources_row Z LZ ghosts ! b o h a v $
    sets ! (is ! (agg ! (and_then ! (get ! refl) (and_then ! (get ! refl) (no_more !)))) (ap (λ (p : Ptr). both (ptr_val p) h) e)) refl (loose_good sources_row Z LZ ghosts b o h fits) $
    returns ! (look_at ! 0 refl) $ free_all ! refl $
    suffices ! _ (ends_at 𝓛 f.ended stayed c z (both (vptr b o) h) (record { at = block_ptr b o; alloc = a; value = v }) (tt, (tt, tt)) (tt, (tt, tt))) $ says ! same $
    nothing ! $ nothing ! $ join ! $ nothing ! $ join ! $ nothing ! $ done !)))))))))
