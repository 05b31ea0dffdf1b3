-- Patterns whose references never end.
use Rattle.std.specs.Prelude.{ℕ, zero, suc, Bool, List, [], ◌∷◌, ◌++◌, length, filter, map, Option}
use Rattle.std.specs.List.{list_any, flat_map}
use Rattle.std.specs.Option.{option_to_list}
use Rattle.fluent_grammar.specs.Words.{Text}
use Rattle.fluent_grammar.specs.Tree as t
use Rattle.fluent_grammar.specs.Tree.{Elements}
use Rattle.fluent_meaning.specs.Ids.{Ids, Meaning, number_function, function, message, term, find}
use Rattle.fluent_meaning.specs.Same.{same_elements}
use Rattle.lint_findings.specs.References.{next_patterns}

-- the patterns of what an id stands for: its value and its attributes
abbrev pub meaning_patterns : {F : Type 0} → Meaning F → List Elements
meaning_patterns number_function = []
meaning_patterns (function f) = []
meaning_patterns (message m) = option_to_list m.value ++ map (λ (a : t.Attribute). a.value) m.attributes
meaning_patterns (term m) = m.value ∷ map (λ (a : t.Attribute). a.value) m.attributes

-- the patterns of all ids
abbrev pub all_patterns : {F : Type 0} → Ids F → List Elements
all_patterns ids = flat_map (λ pair. meaning_patterns pair.1) ids

abbrev pub is_pattern_among : Elements → List Elements → Bool
is_pattern_among es ps = list_any (same_elements es) ps

-- those of some patterns that refer to one of them
abbrev pub referring_patterns : {F : Type 0} → (Text → Option (Meaning F)) → List Elements → List Elements
referring_patterns meaning ps = filter (λ es. list_any (λ next. is_pattern_among next ps) (next_patterns meaning es)) ps

-- those that are left after this number of rounds; each round drops those that refer to none that is left
unfoldable pub patterns_left : {F : Type 0} → ℕ → (Text → Option (Meaning F)) → List Elements → List Elements
patterns_left zero meaning ps = ps
patterns_left (suc n) meaning ps = patterns_left n meaning (referring_patterns meaning ps)

-- The patterns that are on a circle of references or lead into one. As many rounds as there are patterns find them.
abbrev pub endless_patterns : {F : Type 0} → Ids F → List Elements
endless_patterns ids = patterns_left (length (all_patterns ids)) (find ids) (all_patterns ids)
