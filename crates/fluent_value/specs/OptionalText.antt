-- A text that may be absent.
use Rattle.std.specs.Prelude.{◌≡◌, ◌++◌, ℕ, Bool, List, [], Option, Result, IfOk, OnOk, is_some, option_map, unwrap_or, String, string_bytes}
use Rattle.std.specs.Global.{Global}

-- its bytes, if it is there
abbrev pub optional_bytes : Option (String Global) → Option (List ℕ)
optional_bytes text = option_map string_bytes text

-- unless memory ran out, the answer is whether the text is there
abbrev pub SaysWhether : {E : Type 0} → Result Bool E → Option (List ℕ) → Type 0
SaysWhether result text = IfOk result (λ is_there. is_there ≡ is_some text)

-- unless memory ran out, the text, if it is there, was put after what was written before
abbrev pub Appends : {A E : Type 0} → Result A E → String Global → String Global → Option (List ℕ) → Type 0
Appends result old new text = OnOk result (string_bytes new ≡ string_bytes old ++ unwrap_or text [])
