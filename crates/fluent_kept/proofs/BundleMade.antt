-- How a `Bundle` is made of its fields and of what it owns.
use Rattle.fluent_kept.proofs.Steps.{List, [], ◌∷◌, refl, Val, ‵, Item, Goal, Step, step, ◌$◌, fjoin, Is, ptr_val, owned, RattleType, Good}
use seplogic.Ra.Ura.{Ura}
use types.Logic.{Logic}
use denote.RawPtr.{rawptr_Lawful}
use denote.Struct.Struct.{Struct, Struct-Makes, Struct-Lawful}
use denote.Struct.Owning.{shape, to}
use Rattle.fluent_kept.specs.contracts.bundle.Bundle.{the_type, the_row, the_heap}
use Rattle.fluent_kept.proofs.bundle.Bundle.TheLaws.{lowered, mir}

-- the proof that a value is one of its fields
abbrev pub parts_are : (d : the_row.Denot) → Is (Struct (shape the_type)) (to the_type d) (lowered d ∷ [])
parts_are d = ((ptr_val d.sources ∷ [], (ptr_val d.read ∷ [], (ptr_val d.desk ∷ [], tt))), (refl, (refl, (refl, (refl, tt)))))

abbrev pub fields : RattleType
fields = Struct (shape the_type)

module _ {M : Type 1} {𝓤 : Ura M} {𝓛 : Logic 𝓤} {K : Type 0} {Γ : List (Item 𝓤)} {G : Goal 𝓤 𝓛.H} where
  pub bundle_in : K → (d : the_row.Denot)
      → Step K 𝓛 (‵ (the_row.own_val d (lowered d ∷ [])) ∷ Γ) G (‵ (the_heap d) ∷ Γ) G
  bundle_in t d = step (λ s. owned t fields (Is fields) (Struct-Makes 𝓛 (shape the_type) (λ _ _. tt, (λ _ _. tt, (λ _ _. tt, tt)))) (to the_type d) (lowered d ∷ [])
      (parts_are d) $ fjoin t $ s)

module _ {M : Type 1} {𝓤 : Ura M} (𝓛 : Logic 𝓤) where
  pub bundle_good : (d : the_row.Denot) → Good mir (lowered d)
  bundle_good d = ((Struct-Lawful 𝓛 (shape the_type) (rawptr_Lawful 𝓛, (rawptr_Lawful 𝓛, (rawptr_Lawful 𝓛, tt)))).typed (to the_type d) (lowered d ∷ []) (parts_are d)).0

  pub good_of : (d : the_row.Denot) (vs : List Val) → Is the_row d vs → Good mir (lowered d)
  good_of d vs is = bundle_good d
