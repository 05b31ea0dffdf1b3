-- Patterns are compared by content.
use Rattle.std.specs.Prelude.{◌≡◌}
use Rattle.std.specs.Bool.{Decides}
use Rattle.fluent_grammar.specs.Tree.{Elements}
use Rattle.fluent_meaning.specs.Same.{same_elements}

-- the test by which patterns are compared holds exactly if they are equal
abbrev pub SameDecides : Type 0
SameDecides = (es fs : Elements) → Decides (same_elements es fs) (es ≡ fs)
