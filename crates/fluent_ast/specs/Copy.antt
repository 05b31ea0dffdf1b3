-- What calls that copy a node give.
use Rattle.std.specs.Prelude.{◌≡◌, Result, IfOk}

-- a copy, unless the call fails: it stands for the same plain data
abbrev pub GivesCopy : {A V E : Type 0} → (A → V) → A → Result A E → Type 0
GivesCopy view original result = IfOk result (λ copy. view copy ≡ view original)
