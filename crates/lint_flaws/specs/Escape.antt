-- Escapes that are found.
use Rattle.std.specs.Prelude.{◌≡◌, ℕ, ◌==◌, if◌then◌else◌, List, [], ◌∷◌, ◌++◌, map, Vec}
use Rattle.std.specs.Global.{Global}
use denote.Ref.{Bor}
use Rattle.fluent_grammar.specs.Words.{Text, small_u, capital_u}
use Rattle.lint_findings.specs.Escapes.{invalid_escape}

-- the escape whose backslash is at the front, if it stands for no character
abbrev pub escape_there : Text → List Text
escape_there [] = []
escape_there (c ∷ []) = []
escape_there (c ∷ d ∷ ds) = invalid_escape d ds

-- how many hex digits the escape whose backslash is at the front has, 0 if it is written without any
abbrev pub digit_count : Text → ℕ
digit_count [] = 0
digit_count (c ∷ []) = 0
digit_count (c ∷ d ∷ ds) = if d == small_u then 4 else if d == capital_u then 6 else 0

-- these texts are added after the others
abbrev pub AddsTexts : Vec (Bor Text) Global → Vec (Bor Text) Global → List Text → Type 0
AddsTexts old new added = map (λ s. s.now) new.items ≡ map (λ s. s.now) old.items ++ added
