-- What the code's texts stand for.
use Rattle.std.specs.Prelude.{◌≡◌, true, false, List, Option, Some, None, map}
use Rattle.std.specs.Global.{Vec}
use denote.Ref.{Bor}
use Rattle.fluent_project.specs.declared.part.Part.{Part}
use Rattle.fluent_project.specs.Patterns.{AreLongest, Matches, Text}
use Rattle.fluent_project.specs.Taking.{taken, takes}

-- the texts that are lent
abbrev pub plain : List (Bor Text) → List Text
plain = map (λ text. text.now)

-- these texts are what the wildcards stand for, or the path is none of the pattern
abbrev pub FindsLongest : Text → List Part → Text → Option (Vec (Bor Text)) → Type 0
FindsLongest locale pattern path None = ¬ (Matches locale pattern path)
FindsLongest locale pattern path (Some found) = AreLongest locale pattern path (plain found.items)

-- the same, part by part
abbrev pub FindsTaken : Text → List Part → Text → Option (Vec (Bor Text)) → Type 0
FindsTaken locale pattern path None = takes locale pattern path ≡ false
FindsTaken locale pattern path (Some found) = (takes locale pattern path ≡ true) × (plain found.items ≡ taken locale pattern path)

-- the pieces of a pattern that are lent
abbrev pub cuts : List (Bor (List Part)) → List (List Part)
cuts = map (λ parts. parts.now)
