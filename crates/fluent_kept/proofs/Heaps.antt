-- What is kept in boxes is put together and taken apart.
use Rattle.fluent_kept.proofs.Steps.{◌≡◌, ℕ, List, ◌∷◌, refl, full_share, ftrue, fex, fsep, feq, flent, Lft, ‵, Item, Goal, Seq, Step, step, ◌$◌, ◌⊛◌, drop, split, fsplit, fjoin, fpick, fpack, feq_i, feq_l, use1, nothing, in_a_block, part_at, lone, Val, RattleType, Ptr, block_ptr, null_ptr}
use mir.Raw.{raw}
use seplogic.Ra.Ura.{Ura}
use base.Logic.{never, fst∗}
use types.Logic.{Logic, sem}
use denote.Struct.Laws.{copy}
use Rattle.std.specs.Global.{Global}
use Rattle.std.specs.contracts.alloc.Global as heap
use Rattle.std.proofs.alloc.Global.TheLaws as heap_laws
use Rattle.std.specs.contracts.impls.GlobalAllocator.TheImpl.{ghosts}
use Rattle.fluent_kept.specs.Kept.{boxed, some_boxed, lent_at, lent_box, some_lent}

module _ {M : Type 1} {𝓤 : Ura M} {𝓛 : Logic 𝓤} {K : Type 0} {Γ : List (Item 𝓤)} {G : Goal 𝓤 𝓛.H} where
  pub boxed_in : K → (R : RattleType) (p : Ptr) (Has : R.Denot → Type 0) (a : Global) (v : R.Denot) → Has v
      → Step K 𝓛 (‵ (some_boxed R p Has) ∷ Γ) G (‵ (boxed R p v a) ∷ Γ) G
  boxed_in t R p Has a v has = step (λ s. fpack t Global (boxed R p v) a $ nothing t $ fpack t (Has v) (λ _. ftrue) has $ fjoin t $
      fpack t R.Denot (λ w. fsep (fex (Has w) (λ _. ftrue)) (fex Global (boxed R p w))) v $ s)

  pub boxed_out : K → (R : RattleType) (p : Ptr) (Has : R.Denot → Type 0)
      → ((a : Global) (b o : ℕ) (v : R.Denot) → p ≡ block_ptr b o → Has v → Seq K 𝓛 (‵ (boxed R (block_ptr b o) v a) ∷ Γ) G)
      → Seq K 𝓛 (‵ (some_boxed R p Has) ∷ Γ) G
  boxed_out t R p Has k = fpick t (λ v. fsplit t $ fpick t (λ has. drop t $ fpick t (λ a.
      in_a_block t p (λ p'. boxed R p' v a) (fst∗ 𝓤 (never 𝓤) (sem 𝓛 (ghosts.dealloc_token a (raw (lone R.mir)) null_ptr))) (λ b o e. k a b o v e has))))

  pub lent_in : K → (κ : Lft) (R : RattleType) (Has : R.Denot → Type 0) (a : Global) (b o : ℕ) (v : R.Denot) → Has v
      → Step K 𝓛 (‵ (some_lent κ R (block_ptr b o) Has) ∷ Γ) G (‵ (flent κ (part_at R full_share v b o)) ∷ ‵ (ghosts.dealloc_token a (raw (lone R.mir)) (block_ptr b o)) ∷ Γ) G
  lent_in t κ R Has a b o v has = step (λ s. let p = block_ptr b o in let Lent = λ (b' o' : ℕ). fsep (feq Ptr p (block_ptr b' o')) (lent_at κ R v a b' o') in
      fjoin t $ feq_i t Ptr p p refl $ fjoin t $ fpack t ℕ (λ o'. Lent b o') o $ fpack t ℕ (λ b'. fex ℕ (λ o'. Lent b' o')) b $
      fpack t Global (lent_box κ R p v) a $ nothing t $ fpack t (Has v) (λ _. ftrue) has $ fjoin t $
      fpack t R.Denot (λ w. fsep (fex (Has w) (λ _. ftrue)) (fex Global (lent_box κ R p w))) v $ s)

  pub lent_out : K → (κ : Lft) (R : RattleType) (p : Ptr) (Has : R.Denot → Type 0)
      → ((a : Global) (b o : ℕ) (v : R.Denot) → p ≡ block_ptr b o → Has v → Seq K 𝓛 (‵ (flent κ (part_at R full_share v b o)) ∷ ‵ (ghosts.dealloc_token a (raw (lone R.mir)) (block_ptr b o)) ∷ Γ) G)
      → Seq K 𝓛 (‵ (some_lent κ R p Has) ∷ Γ) G
  lent_out t κ R p Has k = fpick t (λ v. fsplit t $ fpick t (λ has. drop t $ fpick t (λ a. fpick t (λ b. fpick t (λ o. fsplit t $ feq_l t (λ e. fsplit t $ k a b o v e has))))))

  pub handle_twice : K → (a : Global) (vs : List Val) → Step K 𝓛 (‵ (heap.the_row.own_val a vs) ∷ ‵ (heap.the_row.own_val a vs) ∷ Γ) G (‵ (heap.the_row.own_val a vs) ∷ Γ) G
  handle_twice t a vs = step (λ s. use1 𝓛 (‵ (heap.the_row.own_val a vs) ⊛ ‵ (heap.the_row.own_val a vs)) ((copy heap.the_type heap_laws.the_copy 𝓛).twice a vs) $ split t $ s)
