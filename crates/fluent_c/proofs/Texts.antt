-- A `FluentText` is made of its fields and of what it owns.
use Rattle.fluent_c.proofs.Steps.{◌≡◌, ℕ, ◌<◌, ◌^◌, List, [], ◌∷◌, refl, sym, Val, vbool, vint, w64, ‵, Item, Goal, Step, step, ◌$◌, fjoin, Is, Ptr, ptr_val, owned}
use Rattle.std.specs.Prelude.{suc, true, vec_items, vec_len}
use Rattle.std.specs.Vec.{vec_ptr}
use Rattle.std.specs.Global.{Global}
use Rattle.std.specs.contracts.impls.GlobalAllocator.TheImpl.{ghosts}
use base.Fml.{fsep, fex}
use types.Kit.{fpack, feq_i, move}
use Rattle.fluent_c.specs.Texts.{buffers_row}
use Rattle.std.specs.Prelude.{Bool}
use types.Kit.{Seq, feq_l, fsplit, fpick, drop, rewrite, use1}
use types.Logic.{sem}
use base.Logic.{id⊢, never, fst∗}
use package.mir.Raw.{raw as bare}
use denote.Memory.{lone}
use denote.RawPtr.{block_ptr, null_ptr, in_a_block}
use Rattle.fluent_c.specs.Texts.{text_owns, boxed, told, HeldBy}
use denote.Plain.{bool_Lawful, uint_Lawful}
use denote.RawPtr.{rawptr_Lawful}
use Rattle.core.proofs.cell.Inside.{Good}
use seplogic.Ra.Ura.{Ura}
use types.Logic.{Logic}
use denote.RattleType.{RattleType}
use denote.Struct.Struct.{Struct, Struct-Makes, Struct-Lawful}
use denote.Struct.Owning.{shape, to}
use Rattle.fluent_c.specs.contracts.text.FluentText.{the_type, the_row, the_heap}
use Rattle.fluent_c.proofs.text.FluentText.TheLaws.{lowered, mir}

-- the proof that a value is one of its fields
abbrev pub parts_are : (d : the_row.Denot) → d.len < 2 ^ 64 → Is (Struct (shape the_type)) (to the_type d) (lowered d ∷ [])
parts_are d fits = ((vbool d.held ∷ [], (ptr_val d.bytes ∷ [], (vint w64 d.len ∷ [], (ptr_val d.owner ∷ [], tt)))), (refl, (refl, (refl, ((refl, fits), (refl, tt))))))

abbrev pub fields : RattleType
fields = Struct (shape the_type)

module _ {M : Type 1} {𝓤 : Ura M} {𝓛 : Logic 𝓤} {K : Type 0} {Γ : List (Item 𝓤)} {G : Goal 𝓤 𝓛.H} where
  pub text_in : K → (d : the_row.Denot) → d.len < 2 ^ 64
      → Step K 𝓛 (‵ (the_row.own_val d (lowered d ∷ [])) ∷ Γ) G (‵ (the_heap d) ∷ Γ) G
  text_in t d fits = step (λ s. owned t fields (Is fields) (Struct-Makes 𝓛 (shape the_type) (λ _ _. tt, (λ _ _. tt, (λ _ _. (tt, tt), (λ _ _. tt, tt))))) (to the_type d) (lowered d ∷ [])
      (parts_are d fits) $ fjoin t $ s)

-- a text that is held by buffers
abbrev pub held_by : Ptr → ℕ → Ptr → buffers_row.Denot → the_row.Denot
held_by start n p v = record { held = true; bytes = start; len = n; owner = p; text = vec_items v.bytes }

module _ {M : Type 1} {𝓤 : Ura M} {𝓛 : Logic 𝓤} {K : Type 0} {Γ : List (Item 𝓤)} {G : Goal 𝓤 𝓛.H} where
  pub held_in : K → (a : Global) (start : Ptr) (n : ℕ) (p : Ptr) (v : buffers_row.Denot) → vec_ptr v.bytes ≡ start → vec_len v.bytes ≡ suc n → n < 2 ^ 64
      → Step K 𝓛 (‵ (the_row.own_val (held_by start n p v) (lowered (held_by start n p v) ∷ [])) ∷ Γ) G (‵ (boxed p v a) ∷ Γ) G
  held_in t a start n p v es el fits = step (λ s. fpack t Global (boxed p v) a $
      feq_i t (List ℕ) (vec_items v.bytes) (vec_items v.bytes) refl $ feq_i t ℕ (vec_len v.bytes) (suc n) el $ fjoin t $ feq_i t Ptr (vec_ptr v.bytes) start es $ fjoin t $ move t (1 ∷ 0 ∷ []) $ fjoin t $
      fpack t buffers_row.Denot (λ w. fsep (fex Global (boxed p w)) (told start n (vec_items v.bytes) w)) v $ text_in t (held_by start n p v) fits $ s)

  -- a text that is held is buffers in a box; the handle by which the box is freed doesn't matter
  pub held_out : K → (a : Global) (d : the_row.Denot) (vs : List Val) → d.held ≡ true
      → ((b o : ℕ) (v : buffers_row.Denot) → d.owner ≡ block_ptr b o → HeldBy d.held d.bytes d.len d.text v → Seq K 𝓛 (‵ (boxed (block_ptr b o) v a) ∷ Γ) G)
      → Seq K 𝓛 (‵ (the_row.own_val d vs) ∷ Γ) G
  held_out t a d vs is k = fsplit t $ drop t $ rewrite t 0 (λ (held : Bool). ‵ (text_owns held d.owner d.bytes d.len d.text)) is refl $
      fpick t (λ v. fsplit t $ move t (1 ∷ []) $ fsplit t $ feq_l t (λ first. fsplit t $ feq_l t (λ count. feq_l t (λ same. fpick t (λ a'. use1 𝓛 (‵ (boxed d.owner v a)) (id⊢ 𝓤 _) $
      in_a_block t d.owner (λ p. boxed p v a) (fst∗ 𝓤 (never 𝓤) (sem 𝓛 (ghosts.dealloc_token a (bare (lone buffers_row.mir)) null_ptr))) (λ b o e. k b o v e (is, (sym same, (sym first, sym count)))))))))

module _ {M : Type 1} {𝓤 : Ura M} (𝓛 : Logic 𝓤) where
  pub text_good : (d : the_row.Denot) → d.len < 2 ^ 64 → Good mir (lowered d)
  text_good d fits = ((Struct-Lawful 𝓛 (shape the_type) (bool_Lawful 𝓛, (rawptr_Lawful 𝓛, (uint_Lawful 𝓛 w64, (rawptr_Lawful 𝓛, tt))))).typed (to the_type d) (lowered d ∷ []) (parts_are d fits)).0

  pub good_of : (d : the_row.Denot) (vs : List Val) → Is the_row d vs → Good mir (lowered d)
  good_of d vs is = text_good d is.0.1.1.1.1.0.1
