-- How a language is found by a tag, as the lookup of RFC 4647 does: by the longest tag of the table that the text begins with,
-- part by part.
use Rattle.std.specs.Prelude.{ℕ, Bool, true, false, not, ◌&&◌, ◌==◌, List, [], ◌∷◌, Option, Some, None, if◌then◌else◌}
use Rattle.std.specs.Char.{to_ascii_lowercase, is_ascii_alphanumeric}
use Rattle.fluent_plurals.specs.declared.sets.Cardinal.{Cardinal}
use Rattle.fluent_plurals.specs.declared.sets.Ordinal.{Ordinal}
use Rattle.fluent_plurals.specs.declared.language.Language.{Language}

-- Letters of either case are the same, and so are `_` (95) and `-` (45).
abbrev pub folded : ℕ → ℕ
folded byte = if byte == 95 then 45 else to_ascii_lowercase byte

-- neither a letter nor a digit follows
abbrev pub ends_here : List ℕ → Bool
ends_here [] = true
ends_here (byte ∷ _) = not (is_ascii_alphanumeric byte)

-- A text begins with a tag, which is one in small letters and with `-`, and whose last part ends there.
abbrev pub begins_with_tag : List ℕ → List ℕ → Bool
begins_with_tag [] rest = ends_here rest
begins_with_tag (byte ∷ tag) [] = false
begins_with_tag (byte ∷ tag) (other ∷ rest) = byte == folded other && begins_with_tag tag rest

-- a tag, and its sets of rules
abbrev pub Entry : Type 0
Entry = List ℕ × Cardinal × Ordinal

-- The first entry whose tag the text begins with. It is the longest one if longer tags stand before the ones that they begin with.
abbrev pub first_of : List Entry → List ℕ → Option Entry
first_of [] text = None
first_of (entry ∷ entries) text = if begins_with_tag entry.0 text then Some entry else first_of entries text

-- what the code's table says
abbrev pub entry_of : Language → Entry
entry_of language = (language.0.now, language.1, language.2)

abbrev pub entries_of : List Language → List Entry
entries_of [] = []
entries_of (language ∷ rest) = entry_of language ∷ entries_of rest

abbrev pub entry_found : Option Language → Option Entry
entry_found None = None
entry_found (Some language) = Some (entry_of language)
