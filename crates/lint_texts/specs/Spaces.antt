-- What the code looks for in a text before it looks for spaces within a sentence.
use Rattle.std.specs.Prelude.{◌==◌, Bool, false, ◌&&◌, ◌||◌, [], ◌∷◌}
use Rattle.fluent_grammar.specs.Words.{Text, space}

-- two spaces somewhere, of which the first may be the byte before the text
abbrev pub has_two_spaces : Bool → Text → Bool
has_two_spaces before [] = false
has_two_spaces before (c ∷ s) = (before && c == space) || has_two_spaces (c == space) s
