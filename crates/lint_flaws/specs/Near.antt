-- What a search for a near name finds.
use Rattle.std.specs.Prelude.{◌≡◌, Bool, if◌then◌else◌, List, ◌∷◌, ◌++◌, map, Option, Some, None, IfOk, Result, String, string_bytes}
use Rattle.std.specs.Global.{Global}
use Rattle.std.specs.List.{find}
use Rattle.fluent_grammar.specs.Words.{Text}
use Rattle.lint_findings.specs.NearNames.{name_bytes}

-- the name that a text holds, if one was found
abbrev pub found_name : Bool → String Global → Option Text
found_name found near = if found then Some (string_bytes near) else None

-- a text holds this name, if it is one
abbrev pub Finds : Bool → String Global → Option Text → Type 0
Finds found near name = found_name found near ≡ name

-- If all went well: the text holds the first of these names that is known, if one is.
abbrev pub FindsFirst : {E : Type 0} → Result Bool E → String Global → (Text → Bool) → List Text → Type 0
FindsFirst result near is_known names = IfOk result (λ found. Finds found near (find is_known names))

-- the names with a byte of identifiers between these texts
abbrev pub between : Text → Text → List Text
between front back = map (λ x. front ++ x ∷ back) name_bytes
