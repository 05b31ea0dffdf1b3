-- How a `KeptSources` is made of its fields and of what it owns, and how an `Option` is told apart.
use Rattle.fluent_kept.proofs.Steps.{◌≡◌, List, [], ◌∷◌, ◌++◌, move, refl, subst, Val, vnil, live, ‵, Item, Goal, Seq, Step, step, ◌$◌, drop, fsplit, fjoin, fpick, feq_l, Is, ptr_val, owned, RattleType, Good}
use seplogic.Ra.Ura.{Ura}
use package.mir.Val.{of_list}
use types.Logic.{Logic}
use denote.RawPtr.{rawptr_Lawful}
use denote.Struct.Struct.{Struct, Struct-Makes, Struct-Lawful}
use denote.Struct.Owning.{shape, to}
use Rattle.core.specs.declared.option.Option.TheVariants.{None, Some}
use Rattle.core.specs.contracts.option.Option as OP
use Rattle.fluent_kept.specs.contracts.shelf.KeptSources.{the_type, the_row, the_heap}
use Rattle.fluent_kept.proofs.shelf.KeptSources.TheLaws.{lowered, mir}

-- the proof that a value is one of its fields
abbrev pub parts_are : (d : the_row.Denot) → Is (Struct (shape the_type)) (to the_type d) (lowered d ∷ [])
parts_are d = ((ptr_val d.sources ∷ [], (ptr_val d.read ∷ [], tt)), (refl, (refl, (refl, tt))))

abbrev pub fields : RattleType
fields = Struct (shape the_type)

module _ {M : Type 1} {𝓤 : Ura M} {𝓛 : Logic 𝓤} {K : Type 0} {Γ : List (Item 𝓤)} {G : Goal 𝓤 𝓛.H} where
  pub shelf_in : K → (d : the_row.Denot)
      → Step K 𝓛 (‵ (the_row.own_val d (lowered d ∷ [])) ∷ Γ) G (‵ (the_heap d) ∷ Γ) G
  shelf_in t d = step (λ s. owned t fields (Is fields) (Struct-Makes 𝓛 (shape the_type) (λ _ _. tt, (λ _ _. tt, tt))) (to the_type d) (lowered d ∷ [])
      (parts_are d) $ fjoin t $ s)

module _ {M : Type 1} {𝓤 : Ura M} (𝓛 : Logic 𝓤) where
  pub shelf_good : (d : the_row.Denot) → Good mir (lowered d)
  shelf_good d = ((Struct-Lawful 𝓛 (shape the_type) (rawptr_Lawful 𝓛, (rawptr_Lawful 𝓛, tt))).typed (to the_type d) (lowered d ∷ []) (parts_are d)).0

  pub good_of : (d : the_row.Denot) (vs : List Val) → Is the_row d vs → Good mir (lowered d)
  good_of d vs is = shelf_good d

-- an `Option` by value is told apart
module _ (X : RattleType) {M : Type 1} {𝓤 : Ura M} {𝓛 : Logic 𝓤} {K : Type 0} {Γ : List (Item 𝓤)} {G : Goal 𝓤 𝓛.H} where
  pub apart : K → (r : (OP.the_row X).Denot) (vs : List Val)
      → ((x : X.Denot) (us : List Val) → r ≡ Some x → vs ≡ live 1 (of_list (us ++ [])) ∷ [] → Seq K 𝓛 (‵ (X.own_val x us) ∷ Γ) G)
      → (r ≡ None → vs ≡ live 0 vnil ∷ [] → Seq K 𝓛 Γ G)
      → Seq K 𝓛 (‵ ((OP.the_row X).own_val r vs) ∷ Γ) G
  apart t (Some x) vs k n =
      fpick t (λ ws. fsplit t $ feq_l t (λ ev. fpick t (λ vss. fsplit t $ feq_l t (λ ew. fsplit t $ move t (1 ∷ []) $ drop t $
      k x vss.0 refl (subst (λ (us : List Val). vs ≡ live 1 (of_list us) ∷ []) ew ev)))))
  apart t None vs k n =
      fpick t (λ ws. fsplit t $ feq_l t (λ ev. fpick t (λ vss. fsplit t $ feq_l t (λ ew. drop t $
      n refl (subst (λ (us : List Val). vs ≡ live 0 (of_list us) ∷ []) ew ev)))))
