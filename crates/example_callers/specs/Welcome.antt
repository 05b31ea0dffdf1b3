-- The tree of the source `welcome = Welcome, { $name }.`, and the text that it gives.
use Rattle.std.specs.Prelude.{ℕ, List, [], ◌∷◌, ◌++◌, Some, None, codes, encode_utf8}
use Rattle.fluent_syntax.specs.Tree.{Elements, Entry, message, text, placeable, no_elements, inline, variable_reference}

-- a text, a variable and a text
abbrev pub welcome_pattern : Elements
welcome_pattern = text (codes "Welcome, ") (placeable (inline (variable_reference (codes "name"))) (text (codes ".") no_elements))

-- one message, which is this pattern
abbrev pub welcome : List Entry
welcome = message (record { id = codes "welcome"; value = Some welcome_pattern; attributes = []; comment = None }) ∷ []

-- the greeting of a name, which stands between the marks U+2068 and U+2069
abbrev pub greeting_text : List ℕ → List ℕ
greeting_text name = codes "Welcome, " ++ (encode_utf8 0x2068 ++ (name ++ (encode_utf8 0x2069 ++ codes ".")))
