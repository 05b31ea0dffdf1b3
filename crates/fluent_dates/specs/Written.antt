-- What functions that write leave.
use Rattle.std.specs.Prelude.{◌≡◌, ◌++◌, IfOk, OnOk, Result, String, string_bytes}
use Rattle.std.specs.Global.{Global}
use Rattle.fluent_date_tables.specs.Tables.{Text}

-- unless memory ran out, a text was put after the one that was there
abbrev pub Adds : {A E : Type 0} → Result A E → String Global → String Global → Text → Type 0
Adds result old new text = OnOk result (string_bytes new ≡ string_bytes old ++ text)

-- unless memory ran out, the result is a text
abbrev pub IsText : {E : Type 0} → Result (String Global) E → Text → Type 0
IsText result text = IfOk result (λ found. string_bytes found ≡ text)
