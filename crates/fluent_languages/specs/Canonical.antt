-- The text of a tag: small letters, the script with a capital at its front, the region in capitals, and `-` between the parts.
use Rattle.std.specs.Prelude.{List, [], ◌∷◌, ◌++◌, map}
use Rattle.std.specs.Char.{to_ascii_uppercase}
use Rattle.fluent_languages.specs.Tags.{Tag, Text}

-- with a capital letter at the front
abbrev pub capital : Text → Text
capital [] = []
capital (byte ∷ part) = to_ascii_uppercase byte ∷ part

-- a part that may be left out, after a `-`
abbrev pub dashed : Text → Text
dashed [] = []
dashed (byte ∷ part) = 45 ∷ byte ∷ part

abbrev pub all_dashed : List Text → Text
all_dashed [] = []
all_dashed (part ∷ parts) = 45 ∷ part ++ all_dashed parts

abbrev pub canonical : Tag → Text
canonical tag = tag.language ++ dashed (capital tag.script) ++ dashed (map to_ascii_uppercase tag.region) ++ all_dashed tag.variants
