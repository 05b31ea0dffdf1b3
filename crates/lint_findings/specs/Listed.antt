-- Findings as the items of a list of JSON.
use Rattle.std.specs.Prelude.{if◌then◌else◌, ◌==◌, List, [], ◌∷◌, ◌++◌, codes}
use Rattle.std.specs.List.{flat_map}
use Rattle.serde_json.specs.Data.{Data}
use Rattle.serde_json.specs.Written.{compact_text}
use Rattle.fluent_grammar.specs.Words.{Text, comma}
use Rattle.lint_findings.specs.Findings.{FileFinding}

-- an item on a line of its own, with a comma before it
abbrev pub listed_item : Data → Text
listed_item d = codes ",\n" ++ compact_text d

-- items without the comma before the first
abbrev pub after_comma : Text → Text
after_comma [] = []
after_comma (c ∷ rest) = if c == comma then rest else []

-- the items of these findings
abbrev pub listed : (FileFinding → Data) → List FileFinding → Text
listed item_of fs = after_comma (flat_map (λ f. listed_item (item_of f)) fs)
