-- What is owned by sources with what is read of them, and by those with a desk.
use Rattle.std.specs.Prelude.{◌≡◌, ℕ, [], ◌∷◌}
use Rattle.std.specs.Global.{Global}
use Rattle.std.specs.Box.Ownership.{box_owns}
use Rattle.std.specs.contracts.impls.GlobalAllocator.TheImpl.{ghosts}
use Rattle.fluent_kept.specs.Catalogs.{Catalog, catalog_of, IsReadOf, IsDeskOf}
use Rattle.fluent_kept.specs.contracts.desk.KeptDesk as desk
use Rattle.fluent_kept.specs.contracts.resources.Resources as resources
use Rattle.fluent_kept.specs.contracts.sources.Sources as sources
use base.Fml.{Fml, Lft, ftrue, fex, fsep, feq, flft, flent}
use base.Fraction.{full_share}
use mir.Raw.{raw}
use mir.Syntax.{erased}
use denote.Memory.{part_at, lone}
use denote.RattleType.{RattleType}
use denote.RawPtr.{Ptr, block_ptr}
use denote.Ref.{NamedLft}

abbrev pub lived : Lft → NamedLft
lived κ = record { mir = erased; lft = κ }

abbrev pub sources_row : RattleType
sources_row = sources.the_row

-- what is read of sources that live so long
abbrev pub resources_row : Lft → RattleType
resources_row s = resources.the_row (lived s)

-- a desk over what was read, by how long the two live
abbrev pub desk_row : Lft → Lft → RattleType
desk_row r s = desk.the_row (lived r) (lived s)

-- the value v in a box at the address
abbrev pub boxed : (R : RattleType) → Ptr → R.Denot → Global → Fml
boxed R p v alloc = box_owns (ghosts.dealloc_token alloc) R p v

-- a value with the property, in a box at the address
abbrev pub some_boxed : (R : RattleType) → Ptr → (R.Denot → Type 0) → Fml
some_boxed R p Has = fex R.Denot (λ v. fsep (fex (Has v) (λ _. ftrue)) (fex Global (boxed R p v)))

-- the value v in a box at the address, lent until the lifetime is over
abbrev pub lent_at : Lft → (R : RattleType) → R.Denot → Global → ℕ → ℕ → Fml
lent_at κ R v alloc b o = fsep (flent κ (part_at R full_share v b o)) (ghosts.dealloc_token alloc (raw (lone R.mir)) (block_ptr b o))

abbrev pub lent_box : Lft → (R : RattleType) → Ptr → R.Denot → Global → Fml
lent_box κ R p v alloc = fex ℕ (λ b. fex ℕ (λ o. fsep (feq Ptr p (block_ptr b o)) (lent_at κ R v alloc b o)))

-- a value with the property, in a box at the address, lent until the lifetime is over
abbrev pub some_lent : Lft → (R : RattleType) → Ptr → (R.Denot → Type 0) → Fml
some_lent κ R p Has = fex R.Denot (λ v. fsep (fex (Has v) (λ _. ftrue)) (fex Global (lent_box κ R p v)))

-- sources that are lent, and what was read of them, with the right to end the loan
abbrev pub shelf_owns : Ptr → Ptr → Catalog → ℕ → Fml
shelf_owns sources read catalog α = fsep (flft (α ∷ []) full_share) (fsep (some_lent (α ∷ []) sources_row sources (λ s. catalog_of s ≡ catalog))
    (some_boxed (resources_row (α ∷ [])) read (λ r. IsReadOf r catalog)))

-- sources that are lent, what was read of them, which is lent too, and a desk over both, with the right to end the two loans
abbrev pub bundle_owns : Ptr → Ptr → Ptr → Catalog → ℕ → ℕ → Fml
bundle_owns sources read desk catalog α β = fsep (flft (α ∷ []) full_share) (fsep (flft (β ∷ []) full_share)
    (fsep (some_lent (α ∷ []) sources_row sources (λ s. catalog_of s ≡ catalog)) (fsep (some_lent (β ∷ α ∷ []) (resources_row (α ∷ [])) read (λ r. IsReadOf r catalog))
    (some_boxed (desk_row (β ∷ α ∷ []) (α ∷ [])) desk (λ d. IsDeskOf d catalog)))))
