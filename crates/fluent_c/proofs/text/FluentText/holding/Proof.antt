-- `holding` keeps the box's pointer.
use Rattle.fluent_c.proofs.Steps.{[], ◌∷◌, refl, sym, proved_at, SProp, ftrue, Val, tables, ‵, raw, ◌⊛◌, ◌$◌, ◌∵◌, !, qed, done, move, drop, split, join, fsplit, suffices, enter, of_opd, true_lit, stop, fld, no_more, and_then, returns, alloc_all, pass_all, free_all, look_at, get, get_in, sets, agg, whole, sub, RawPtr, block_ptr, usize, yes, plain, types_at, nothing, heard, Stays, walk_of, says, stay_dropped, Goes-dropped, ends_at}
use denote.RawPtr.{rawptr_Lawful}
use Rattle.std.proofs.Common.{◌++◌}
use types.Kit.{prop, regoal}
use denote.RattleType.{RattleType, owns}
use prog.Wp.{WpFn}
use Rattle.std.specs.contracts.alloc.Global as heap
use Rattle.std.proofs.alloc.Global.TheLaws as heap_laws
use Rattle.std.specs.contracts.impls.GlobalAllocator.TheImpl.{ghosts}
use Rattle.fluent_c.specs.Texts.{buffers_row}
use Rattle.fluent_c.proofs.Texts.{text_good, held_by, held_in}
use Rattle.fluent_kept.proofs.Values.{RawBox, loose_good, loose_out}
use Rattle.fluent_c.proofs.text.FluentText.TheLaws.{lowered}
use Rattle.fluent_c.specs.contracts.text.FluentText.{the_row}
use Rattle.fluent_c.specs.contracts.text.FluentText.holding as f
use Rattle.fluent_c.proofs.text.FluentText.holding.Statement.{statement}
use Rattle.fluent_c.proofs.text.FluentText.holding.Code as code

abbrev Owner : RattleType
Owner = RawBox buffers_row heap.the_row heap_laws.the_row_laws ghosts

abbrev stayed : Stays f.ended.signature.params f.ended.kept
stayed = (stay_dropped (plain (λ _. RawPtr)) yes, (stay_dropped (plain (λ _. usize)) yes, (stay_dropped (plain (λ _. Owner)) yes, tt)))

pub holding_spec : {M : Type 1} → statement M
holding_spec 𝓤 𝓛 𝓜 𝓡 wired =
    let H = 𝓛.H in let 𝓣 = tables 𝓤 H 𝓜 𝓡 𝓡.env in let c = f.clauses 𝓛 𝓜.mem 𝓡.returns in let fn = code.function in let Z = heap.the_row in let LZ = heap_laws.the_row_laws in
    proved_at 𝓛 f.ended stayed c 𝓜 𝓡
    (Goes-dropped 𝓛 0 (plain (λ _. RawPtr)) yes (λ κs x w. refl), (Goes-dropped 𝓛 0 (plain (λ _. usize)) yes (λ κs x w. refl), (Goes-dropped 𝓛 0 (plain (λ _. Owner)) yes (λ κs x w. refl), tt)))
    f.Key.name fn (code.unfolded 𝓤 H 𝓜 𝓡 wired) (λ z are.
    let κs = z.0.0 in let qs = z.0.1 in let args = z.0.3 in let words = z.0.4 in let Post : Val → SProp 𝓤 = (walk_of 𝓛 f.ended stayed c).post z in
    let start = args.0 in let n = args.1.0 in let v = args.1.1.0 in
    qed 𝓛 ((‵ ftrue ⊛ ‵ (owns (types_at f.ended.signature.params κs) args words)) ∷ raw ((c κs args).requires z.1) ∷ []) ∵
    split ! $ drop ! $ fsplit ! $ drop ! $ fsplit ! $ drop ! $ fsplit ! $
    loose_out buffers_row Z LZ ghosts ! v words.1.1.0 (λ b o h e ws fits.
    move ! (3 ∷ []) $ heard ! _ (λ same. move ! (1 ∷ []) $ drop ! $ move ! (1 ∷ []) $ drop ! $
    regoal ! (λ us. prop (WpFn 𝓤 H 𝓣.C 𝓣.Λ fn us Post)) (λ i. are.0 i ++ (are.1.0.0 i ++ (ws i ++ []))) refl $
    let d : the_row.Denot = held_by start n (block_ptr b o) v.value in
    enter ! _ _ _ _ _ $ alloc_all ! (λ l. pass_all ! refl (((rawptr_Lawful 𝓛).typed start _ refl).0, ((tt, record { fits = are.1.0.1 }), (loose_good buffers_row Z LZ ghosts b o h fits, tt))) $
    sets ! (of_opd ! (get_in ! (fld ! refl (stop !)) (sub ! 0 refl (whole !)))) refl (tt, tt) $
    sets ! (of_opd ! (get ! refl)) refl (tt, tt) $
    sets ! (agg ! (and_then ! (true_lit !) (and_then ! (get ! refl) (and_then ! (get ! refl) (and_then ! (get ! refl) (no_more !)))))) refl (text_good 𝓛 d are.1.0.1) $
    returns ! (look_at ! 0 refl) $ free_all ! refl $
    suffices ! _ (ends_at 𝓛 f.ended stayed c z (lowered d) d (tt, (tt, (tt, tt))) (tt, (tt, (tt, tt)))) $ says ! (refl, (refl, (sym same.0, sym same.1))) $
    held_in ! v.alloc start n (block_ptr b o) v.value same.0 same.1 are.1.0.1 $
    nothing ! $ nothing ! $ join ! $ nothing ! $ join ! $ nothing ! $ join ! $ nothing ! $ done !))))
