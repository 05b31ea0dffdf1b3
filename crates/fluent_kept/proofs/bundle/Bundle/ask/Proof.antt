-- `ask` lends the desk, for the call that asks it.
use Rattle.fluent_kept.proofs.Steps.{ℕ, List, [], ◌∷◌, refl, sym, ap, ◌∙◌, proved, ftrue, fex, flft, flent, full_share, id⊢, Val, vptr, tables, fact, ‵, raw, ◌⊛◌, some, later, at_ret, ◌$◌, ◌∵◌, !, qed, done, move, keep, drop, split, split3, join, fsplit, fjoin, fpick, fpack, pick, await, heard, suffices, frame, group, rewrite, use1, use2, enter, of_opd, stop, fld, addr, no_more, and_then, returns, first, blocks, exec, alloc_all, pass_all, free_all, look_at, get, through, sets, sets_last, lands_as, env, whole, sub, lft_new, lft_end, RattleType, Ptr, block_ptr, yes, plain, nothing, peeks, shows, Stays, walk_of, says, stay_dropped, Goes-dropped, ends_at, calls_at, Lasts, lasts, triple_of, fm}
use base.Fml.{fdead, Lft, Share}
use base.Share
use mir.Syntax.{named}
use contract.Lifetimes.{Lfts}
use contract.BorrowLft.{meet_⊑_left, meet_⊑_right, ◌⊑◌, ⊑_trans}
use types.Kit.{fsplit3, use3}
use types.Part.{look_in}
use types.Run.{load}
use types.SemTy.{Body}
use denote.Builtin.{RefOf}
use denote.Lend.{lends_ref, ref_back}
use denote.Memory.{cell_at, mem}
use denote.Ref.{MutBor, MutRef, ShrRef, mut_vals, mut_Tells, shr_vals, shr_Tells}
use denote.Signature.{named_lft, Slot}
use denote.Steps.{opens, closes}
use denote.Triple.Walked.{stay_ref, Goes-ref}
use Rattle.std.specs.contracts.alloc.Global as heap
use Rattle.std.proofs.alloc.Global.TheLaws as heap_laws
use Rattle.fluent_kept.specs.Kept.{desk_row, boxed, some_boxed, bundle_owns}
use Rattle.fluent_kept.specs.Answers.{Answers}
use Rattle.fluent_kept.specs.Catalogs.{Catalog, IsDeskOf}
use Rattle.fluent_kept.specs.contracts.desk.KeptDesk as desk_of
use Rattle.fluent_kept.specs.contracts.question.Answer.{the_row as Answer}
use Rattle.fluent_kept.specs.contracts.question.Question as question_of
use Rattle.fluent_kept.proofs.question.Answer.TheLaws as answer_laws
use Rattle.fluent_kept.proofs.Heaps.{boxed_in, boxed_out}
use Rattle.fluent_kept.proofs.Tokens.{met, goes_below, comes_up}
use Rattle.fluent_kept.proofs.bundle.Bundle.TheLaws.{lowers}
use Rattle.fluent_kept.specs.contracts.bundle.Bundle.{the_row as R}
use Rattle.fluent_kept.specs.contracts.bundle.Bundle.ask as f
use Rattle.fluent_kept.proofs.bundle.Bundle.ask.Statement.{statement}
use Rattle.fluent_kept.proofs.bundle.Bundle.ask.Code as code
use Rattle.fluent_kept.specs.contracts.desk.asked as g
use Rattle.fluent_kept.proofs.desk.asked.Met as callee

abbrev Question : Lfts 3 → RattleType
Question κs = question_of.the_row (named_lft 3 2 tt κs)

abbrev question : Slot 3
question = RefOf (1 ∷ []) tt (plain Question) (λ _. tt)

abbrev stayed : Stays f.ended.signature.params f.ended.kept
stayed = (stay_ref (0 ∷ []) tt (plain (λ _. R)), (stay_dropped (plain (λ _. heap.the_row)) yes, (stay_dropped question yes, tt)))

pub ask_spec : {M : Type 1} → statement M
ask_spec 𝓤 𝓛 𝓜 𝓡 wired =
    let H = 𝓛.H in let 𝓣 = tables 𝓤 H 𝓜 𝓡 𝓡.env in let c = f.clauses 𝓛 𝓜.mem 𝓡.returns in let W = walk_of 𝓛 f.ended stayed c in let fn = code.function in
    proved 𝓛 f.ended stayed c 𝓜 𝓡 (Goes-ref 𝓛 3 0 tt (plain (λ _. R)), (Goes-dropped 𝓛 3 (plain (λ _. heap.the_row)) yes (λ κs x w. refl), (Goes-dropped 𝓛 3 question yes (λ κs x w. refl), tt)))
    f.Key.name fn (code.unfolded 𝓤 H 𝓜 𝓡 wired)
    (λ κs. (mut_vals, ((λ x. heap_laws.the_told.val x ∷ []), (shr_vals, tt)))) (λ κs. (mut_Tells (named 0) κs.0 R, (heap_laws.the_told.tells, (shr_Tells (named 1) κs.1.0 (Question κs), tt)))) (λ κs qs bounds a gh are.
    let b = a.0.ref_ptr.0 in let o = a.0.ref_ptr.1 in let d = a.0.now in let vs = mut_vals a.0 in let hv = heap_laws.the_told.val a.1.0 ∷ [] in let q = a.1.1.0 in let qv = shr_vals q in
    let z : W.Ghost = ((κs, qs, bounds, a, (vs, (hv, (qv, tt)))), tt) in
    qed 𝓛 (((‵ (flft κs.0 qs.0) ⊛ ‵ (flft κs.1.0 qs.1.0) ⊛ ‵ (flft κs.1.1.0 qs.1.1.0) ⊛ ‵ ftrue) ⊛ ‵ ((MutRef (named 0) κs.0 R).own_val a.0 vs) ⊛ ‵ (heap.the_row.own_val a.1.0 hv) ⊛ ‵ ((ShrRef (named 1) κs.1.0 (Question κs)).own_val q qv) ⊛ ‵ ftrue) ∷ ‵ ftrue ∷ []) ∵
    split ! $ move ! (1 ∷ []) $ split ! $ move ! (1 ∷ []) $ split ! $ move ! (1 ∷ []) $ split ! $ move ! (4 ∷ []) $ split3 ! $ move ! (2 ∷ []) $ split ! $ keep ! (7 ∷ 2 ∷ 3 ∷ 0 ∷ 4 ∷ 6 ∷ []) $
    -- [the bundle's reference; its token; the question's two; the question; the handle]
    enter ! _ _ _ _ _ $ alloc_all ! (λ l. pass_all ! refl ((tt, tt), (((heap_laws.the_row_laws.lawful 𝓛).typed a.1.0 hv are.1.0).0, ((tt, tt), tt))) $ let Ev = env fn.locals l in
    fsplit3 ! $ move ! (1 ∷ 2 ∷ 3 ∷ []) $ opens ! tt R b o (λ us.
    move ! (1 ∷ []) $ peeks ! R _ (shows 𝓛 R) d us (λ is. fsplit ! $ move ! (1 ∷ []) $
    fpick ! (λ α. fpick ! (λ β. let κ : Lft = α ∷ [] in let κr : Lft = β ∷ κ in let m : Share = met full_share in
    fsplit ! $ move ! (1 ∷ []) $ fsplit ! $ move ! (1 ∷ []) $ fsplit ! $ move ! (1 ∷ []) $ fsplit ! $ move ! (1 ∷ []) $
    boxed_out ! (desk_row κr κ) d.desk (λ x. IsDeskOf x d.catalog) (λ a3 b3 o3 x e3 answers. fsplit ! $
    -- [the desk; its block; what was read; the sources; two tokens; the fields; the struct's cell; the open borrow, in three entries; its address; the question's two tokens; the question; the handle]
    let word = lowers.val_is d us is ∙ ap (λ (p : Ptr). lowers.lowered (record d { desk = p }) ∷ []) e3 in
    let Cell = λ (ws : List Val). ‵ (cell_at full_share R.mir ws b o) in
    rewrite ! 7 Cell word refl $
    first ! $ blocks ! $ sets ! (of_opd ! (load ! (through ! refl (fld ! refl (stop !))) (look_in ! 7 (sub ! 2 refl (whole !))))) refl (tt, tt) $
    sets ! (of_opd ! (get ! refl)) refl (tt, tt) $ sets_last ! (addr ! (through ! refl (stop !))) refl (tt, tt) $
    exec ! 𝓣.C 𝓣.Λ Ev code.Mir.t-2 (at_ret Ev (W.post z)) $ sets ! (of_opd ! (get ! refl)) refl (tt, tt) $ sets ! (addr ! (through ! refl (stop !))) refl (tt, tt) $
    lft_new ! tt (λ γ. let κy : Lft = γ ∷ κr in
    move ! (5 ∷ 6 ∷ []) $ goes_below ! β κ full_share $ move ! (3 ∷ 0 ∷ []) $ goes_below ! γ κr m $ move ! (5 ∷ []) $
    let ks : Lfts 5 = (κy, (κr, (κ, (κs.1.0, (κs.1.1.0, tt))))) in
    let Desk : RattleType = desk_of.the_row (named_lft 5 1 tt ks) (named_lft 5 2 tt ks) in
    use1 𝓛 (‵ ((mem Desk).own_at x b3 o3)) (id⊢ 𝓤 _) $
    use1 𝓛 (later (some (λ (δ : ℕ). ‵ ((MutRef (named 0) κy Desk).own_val (record { ref_ptr = (b3, o3); ghost_name = δ; now = x }) (vptr b3 o3 ∷ [])) ⊛ ‵ (flent κy (Body (mem Desk) b3 o3 δ)))))
    (lends_ref 𝓛 Desk (named 0) κy x b3 o3) $ await ! tt $ pick ! (λ δ. split ! $
    nothing ! $ move ! (19 ∷ 0 ∷ []) $ join ! $ move ! (19 ∷ 0 ∷ []) $ join ! $ move ! (1 ∷ 0 ∷ []) $ join ! $
    nothing ! $ move ! (18 ∷ 0 ∷ []) $ join ! $ move ! (17 ∷ 0 ∷ []) $ join ! $ move ! (6 ∷ 0 ∷ []) $ join ! $ move ! (4 ∷ 0 ∷ []) $ join ! $ move ! (3 ∷ 0 ∷ []) $ join ! $ join ! $ nothing ! $ move ! (1 ∷ 0 ∷ []) $
    let k = triple_of 𝓛 g.signature (g.spec 𝓛 𝓜.mem 𝓡.returns) in
    let r : MutBor Desk.Denot = record { ref_ptr = (b3, o3); ghost_name = δ; now = x } in
    let yr : κy ⊑ κr = meet_⊑_right (γ ∷ []) κr in let rs : κr ⊑ κ = meet_⊑_right (β ∷ []) κ in
    let y : k.Ghost = ((ks, (met m, (Share.right m, (Share.right full_share, (qs.1.0, (qs.1.1.0, tt))))), (yr, (⊑_trans κy κr κ yr rs, (rs, (bounds.0, tt)))), (r, (a.1.0, (q, tt))), (vptr b3 o3 ∷ [], (hv, (qv, tt)))), tt) in
    use2 𝓛 (raw (k.pre y)) (id⊢ 𝓤 _) $
    calls_at ! (fm 𝓛 𝓜 𝓡) k (callee.met 𝓤 𝓛 𝓜 𝓡 (code.calls-fluent_kept::desk::asked 𝓡.env wired)) y (and_then ! (get ! refl) (and_then ! (get ! refl) (and_then ! (get ! refl) (no_more !)))) (λ v.
    use1 𝓛 (later (some (λ (n : Answer.Denot). ((‵ (flft κy (met m)) ⊛ ‵ (flft κr (Share.right m)) ⊛ ‵ (flft κ (Share.right full_share)) ⊛ ‵ (flft κs.1.0 qs.1.0) ⊛ ‵ (flft κs.1.1.0 qs.1.1.0) ⊛ ‵ ftrue) ⊛ ‵ (Answer.own_val n (v ∷ []))) ⊛
    some (λ (ls : Lasts g.ended y.0.0 y.0.3). ‵ (lasts g.ended y.0.0 y.0.3 ls) ⊛ raw (fact 𝓤 ((catalog : Catalog) → IsDeskOf x catalog → Answers catalog q.now n × IsDeskOf ls.0 catalog)))))) (id⊢ 𝓤 _) $
    await ! tt $ pick ! (λ n. split ! $ split ! $ move ! (1 ∷ []) $
    peeks ! Answer _ (shows 𝓛 Answer) n (v ∷ []) (λ is_n. lands_as ! refl refl ((answer_laws.the_row_laws.lawful 𝓛).typed n (v ∷ []) is_n).0 $
    move ! (2 ∷ []) $ pick ! (λ ls. split ! $ move ! (1 ∷ []) $ heard ! _ (λ says_so. fsplit ! $ move ! (1 ∷ []) $ drop ! $ fsplit ! $ move ! (1 ∷ []) $ drop ! $
    let so = says_so d.catalog answers in
    move ! (2 ∷ []) $ split ! $ move ! (1 ∷ []) $ split ! $ move ! (1 ∷ []) $ split ! $ move ! (1 ∷ []) $ split ! $ move ! (1 ∷ []) $ split ! $ move ! (1 ∷ []) $ drop ! $
    move ! (4 ∷ 3 ∷ 8 ∷ []) $ comes_up ! γ κr m $ lft_end ! tt $ use1 𝓛 (‵ (fdead κy)) (𝓛.lfts.dead-incl κy (γ ∷ []) (meet_⊑_left (γ ∷ []) κr)) $
    move ! (0 ∷ 7 ∷ 5 ∷ []) $ use3 𝓛 (later (‵ ((mem Desk).own_at ls.0 b3 o3))) (ref_back 𝓛 Desk κy δ ls.0 b3 o3) $ await ! tt $
    move ! (1 ∷ 4 ∷ 6 ∷ []) $ comes_up ! β κ full_share $ move ! (2 ∷ 6 ∷ []) $ fjoin ! $
    use1 𝓛 (‵ (boxed (desk_row κr κ) (block_ptr b3 o3) ls.0 a3)) (id⊢ 𝓤 _) $
    boxed_in ! (desk_row κr κ) (block_ptr b3 o3) (λ w. IsDeskOf w d.catalog) a3 ls.0 so.1 $
    rewrite ! 0 (λ (p : Ptr). ‵ (some_boxed (desk_row κr κ) p (λ w. IsDeskOf w d.catalog))) (sym e3) refl $
    move ! (6 ∷ 0 ∷ []) $ fjoin ! $ move ! (6 ∷ 0 ∷ []) $ fjoin ! $ move ! (1 ∷ 0 ∷ []) $ fjoin ! $ move ! (1 ∷ 0 ∷ []) $ fjoin ! $
    let owns_at = bundle_owns d.sources d.read d.desk d.catalog in
    fpack ! ℕ (owns_at α) β $ fpack ! ℕ (λ α'. fex ℕ (owns_at α')) α $
    move ! (4 ∷ 0 ∷ []) $ fjoin ! $ rewrite ! 4 Cell (sym word) refl $ move ! (4 ∷ 0 ∷ 5 ∷ 6 ∷ 7 ∷ []) $ closes ! tt R d us b o $
    returns ! (look_at ! 0 refl) $ free_all ! refl $ move ! (6 ∷ []) $
    suffices ! _ (ends_at 𝓛 f.ended stayed c z v n (d, (tt, (tt, tt))) (tt, (tt, (tt, tt)))) $ says ! (so.0, refl) $
    group ! 3 $ nothing ! $ nothing ! $ join ! $ nothing ! $ join ! $ move ! (1 ∷ 0 ∷ []) $ join ! $
    nothing ! $ move ! (3 ∷ 0 ∷ []) $ join ! $ move ! (3 ∷ 0 ∷ []) $ join ! $ move ! (2 ∷ 0 ∷ []) $ join ! $ frame ! $ frame ! $ done !))))))))))))))
