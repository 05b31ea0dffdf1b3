-- The references in one placeable are no more than the bytes of the longest source.
use Rattle.std.specs.Prelude.{◌≡◌, ℕ, ◌+◌, ◌*◌, max, ◌≤◌, Bool, List, [], ◌∷◌, length, Option, Some}
use Rattle.fluent_grammar.specs.Words.{Text}
use Rattle.fluent_grammar.specs.Tree.{Elements}
use Rattle.fluent_value.specs.Value.{Value}
use Rattle.fluent_meaning.specs.Environment.{Environment}
use Rattle.fluent_meaning.specs.Ids.{find}
use Rattle.fluent_meaning.specs.ReachLaws.{over}
use Rattle.fluent_meaning.specs.Substitution.{answer_written}
use Rattle.fluent_meaning.specs.Work.{ids_most}
use Rattle.fluent_answers.specs.Answers.{pattern_asked}
use Rattle.fluent_answers.specs.Sources.{ids_of}

-- how many bytes the longest source has
abbrev pub most_bytes : List Text → ℕ
most_bytes [] = 0
most_bytes (source ∷ sources) = max (length source) (most_bytes sources)

-- No placeable of the entries of sources has more references than the longest source has bytes.
abbrev pub ReferencesFit : Type 0 → Type 0
ReferencesFit F = (overriding : Bool) (sources : List Text) → ids_most (ids_of {F = F} overriding sources) ≤ most_bytes sources

-- So a request for a pattern of the sources enters at most 1 + 100 * n patterns, if the longest source has n bytes: with all
-- settings and plural sources, and whatever the arguments are.
abbrev pub RequestsFit : Type 0 → Type 0 → Type 0
RequestsFit S F = (env : Environment S F) (overriding : Bool) (sources : List Text) (id : Text) (attribute : Option Text) (es : Elements) (args : List (Text × Value S)) →
    pattern_asked attribute (find (ids_of {F = F} overriding sources) id) ≡ Some es →
    (answer_written (over (find (ids_of {F = F} overriding sources)) env) args es).entered ≤ 1 + 100 * most_bytes sources
