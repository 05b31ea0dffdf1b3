-- What a text in memory of the library owns.
use Rattle.std.specs.Prelude.{◌≡◌, ◌++◌, ℕ, suc, Bool, true, false, List, [], ◌∷◌, vec_items, vec_len}
use Rattle.std.specs.Vec.{vec_ptr}
use Rattle.std.specs.Global.{Global}
use Rattle.std.specs.Box.Ownership.{box_owns}
use Rattle.std.specs.contracts.impls.GlobalAllocator.TheImpl.{ghosts}
use base.Fml.{Fml, ftrue, fex, fsep, feq}
use denote.RattleType.{RattleType}
use Rattle.fluent_c.specs.contracts.buffers.Buffers as buffers
use denote.RawPtr.{Ptr}

-- the bytes and the spare memory
abbrev pub buffers_row : RattleType
buffers_row = buffers.the_row

-- the buffers v, in a box at the address
abbrev pub boxed : Ptr → buffers_row.Denot → Global → Fml
boxed owner v alloc = box_owns (ghosts.dealloc_token alloc) buffers_row owner v

-- the bytes begin at this address and are these: this many, and one after them
abbrev pub told : Ptr → ℕ → List ℕ → buffers_row.Denot → Fml
told bytes n text v = fsep (feq Ptr (vec_ptr v.bytes) bytes) (fsep (feq ℕ (vec_len v.bytes) (suc n)) (feq (List ℕ) (vec_items v.bytes) text))

-- if there is a text, a box holds the buffers of its bytes
abbrev pub text_owns : Bool → Ptr → Ptr → ℕ → List ℕ → Fml
text_owns false owner bytes n text = ftrue
text_owns true owner bytes n text = fex buffers_row.Denot (λ v. fsep (fex Global (boxed owner v)) (told bytes n text v))

-- there is a text, and it is that of the buffers, at the address of their bytes, of which the last doesn't count
abbrev pub HeldBy : Bool → Ptr → ℕ → List ℕ → buffers_row.Denot → Type 0
HeldBy held bytes n text v = (held ≡ true) × ((text ≡ vec_items v.bytes) × ((bytes ≡ vec_ptr v.bytes) × (suc n ≡ vec_len v.bytes)))

-- a text, and the byte 0 after it
abbrev pub with_nul : List ℕ → List ℕ
with_nul text = text ++ (0 ∷ [])
